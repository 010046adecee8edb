-- The parts of a text that no rule of tidying takes away.
use Rattle.std.specs.Prelude.{ℕ, ◌&&◌, Bool, true, false, Option, None, Some}
use Rattle.tidy_flags.specs.declared.signs.Sign.{Sign}
use Rattle.tidy_flags.specs.declared.signs.Sign.TheVariants as sign
use Rattle.edit_unparse.specs.Output.{Part}
use Rattle.edit_unparse.specs.Tidy.Commas.{sign_of}

-- neither a comma nor a blank
abbrev pub lasts : Sign → Bool
lasts sign.Opening = true
lasts sign.Closing = true
lasts sign.Comma = false
lasts sign.Token = true
lasts sign.Blank = false
lasts sign.Splice = false
lasts sign.Solid = true

abbrev pub is_old : Option ℕ → Bool
is_old None = false
is_old (Some number) = true

-- an old token other than a comma, an old comment, or an old preprocessor line
abbrev pub is_lasting : Part → Bool
is_lasting p = is_old p.from && lasts (sign_of p)
