-- Which parts between the brackets of a list stay, as flags.
use Rattle.std.specs.Prelude.{ℕ, ◌+◌, ◌==◌, Bool, true, false, not, List, [], ◌∷◌, ◌++◌, take, drop, Option, None, Some, if◌then◌else◌}
use Rattle.tidy_flags.specs.declared.signs.Sign.{Sign}
use Rattle.tidy_flags.specs.declared.signs.Sign.TheVariants as sign
use Rattle.tidy_flags.specs.declared.signs.ListState.{ListState}
use Rattle.tidy_flags.specs.Signs.{depth_after, is_own_comma, is_token, list_start, state_after, stays_early}

abbrev pub early_flags : ListState → List Sign → List Bool → List Bool
early_flags s [] flags = flags
early_flags s (x ∷ signs) [] = []
early_flags s (x ∷ signs) (true ∷ flags) = stays_early s x ∷ early_flags (state_after s x) signs flags
early_flags s (x ∷ signs) (false ∷ flags) = false ∷ early_flags s signs flags

abbrev pub is_plain_sign : Sign → Bool
is_plain_sign sign.Blank = true
is_plain_sign s = false

-- no blank behind it goes with a comma before it
abbrev pub ends_blanks : Sign → Bool
ends_blanks sign.Blank = false
ends_blanks sign.Splice = false
ends_blanks s = true

-- the flags without the blanks in front, up to the next token, comment or line, that have no backslash
abbrev pub blank_flags : List Sign → List Bool → List Bool
blank_flags [] flags = flags
blank_flags (x ∷ signs) [] = []
blank_flags (x ∷ signs) (true ∷ flags) = if ends_blanks x then true ∷ flags else not (is_plain_sign x) ∷ blank_flags signs flags
blank_flags (x ∷ signs) (false ∷ flags) = false ∷ blank_flags signs flags

-- the place of the last comma, if no token stands behind it, with one part more
abbrev pub found_after : ℕ → ℕ → Option ℕ → Sign → Option ℕ
found_after depth at found x = if is_own_comma depth x then Some at else (if is_token x then None else found)

-- the place of the last comma, if no token stands behind it, given the place of the first part, and what was found before
abbrev pub last_from : ℕ → ℕ → Option ℕ → List Sign → List Bool → Option ℕ
last_from at depth found [] flags = found
last_from at depth found (x ∷ signs) [] = found
last_from at depth found (x ∷ signs) (true ∷ flags) = last_from (at + 1) (depth_after depth x) (found_after depth at found x) signs flags
last_from at depth found (x ∷ signs) (false ∷ flags) = last_from (at + 1) depth found signs flags

-- the flags without this comma and the blanks behind it
abbrev pub last_flags : Option ℕ → List Sign → List Bool → List Bool
last_flags None signs flags = flags
last_flags (Some at) signs flags = take at flags ++ false ∷ blank_flags (drop (at + 1) signs) (drop (at + 1) flags)

abbrev pub comma_flags : Bool → List Sign → List Bool → List Bool
comma_flags may_end signs flags = let left = early_flags list_start signs flags in if may_end then left else last_flags (last_from 0 0 None signs left) signs left
