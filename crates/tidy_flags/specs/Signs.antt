-- What the parts of a list are for its commas, and which commas stay as far as the parts before them say.
use Rattle.std.specs.Prelude.{ℕ, ◌+◌, ◌-◌, ◌==◌, ◌||◌, Bool, true, false, not, List, codes, if◌then◌else◌}
use Rattle.std.specs.Str.{bytes_eq}
use Rattle.tidy_flags.specs.declared.signs.Sign.{Sign}
use Rattle.tidy_flags.specs.declared.signs.Sign.TheVariants as sign
use Rattle.tidy_flags.specs.declared.signs.ListState.{ListState}

abbrev pub is_opening : List ℕ → Bool
is_opening text = bytes_eq text (codes "(") || bytes_eq text (codes "[") || bytes_eq text (codes "{")

abbrev pub is_closing : List ℕ → Bool
is_closing text = bytes_eq text (codes ")") || bytes_eq text (codes "]") || bytes_eq text (codes "}")

abbrev pub is_comma : List ℕ → Bool
is_comma text = bytes_eq text (codes ",")

-- what a token is for lists
abbrev pub word_sign : List ℕ → Sign
word_sign text = if is_opening text then sign.Opening else (if is_closing text then sign.Closing else (if is_comma text then sign.Comma else sign.Token))

abbrev pub is_token : Sign → Bool
is_token sign.Opening = true
is_token sign.Closing = true
is_token sign.Comma = true
is_token sign.Token = true
is_token sign.Blank = false
is_token sign.Splice = false
is_token sign.Solid = false

-- how many brackets are open behind a part
abbrev pub depth_after : ℕ → Sign → ℕ
depth_after depth sign.Opening = depth + 1
depth_after depth sign.Closing = depth - 1
depth_after depth s = depth

-- a comma of the list itself
abbrev pub is_own_comma : ℕ → Sign → Bool
is_own_comma depth sign.Comma = depth == 0
is_own_comma depth s = false

-- A comma stays if a token stands between it and the comma before it, or the bracket. The blanks behind one that goes have gone
-- up to the next token, comment or line, but for those with a backslash.
abbrev pub stays_early : ListState → Sign → Bool
stays_early s sign.Blank = not s.gone
stays_early s x = not (is_own_comma s.depth x) || s.seen

abbrev pub state_after : ListState → Sign → ListState
state_after s sign.Opening = record { depth = s.depth + 1; seen = true; gone = false }
state_after s sign.Closing = record { depth = s.depth - 1; seen = true; gone = false }
state_after s sign.Comma = if s.depth == 0 then record { depth = 0; seen = false; gone = not s.seen } else record { depth = s.depth; seen = true; gone = false }
state_after s sign.Token = record { depth = s.depth; seen = true; gone = false }
state_after s sign.Blank = s
state_after s sign.Splice = s
state_after s sign.Solid = record { depth = s.depth; seen = s.seen; gone = false }

-- a list before its first part
abbrev pub list_start : ListState
list_start = record { depth = 0; seen = false; gone = false }
