-- Which values need brackets around them so that they hold together.
use Rattle.std.specs.Prelude.{ℕ, ◌&&◌, ◌||◌, Bool, true, false, not, List, [], ◌∷◌, ◌++◌, codes}
use Rattle.std.specs.Prelude.{Option, None, Some}
use Rattle.std.specs.List.{list_any}
use Rattle.std.specs.Str.{bytes_eq}
use Rattle.edit_marks.specs.declared.line.Chunk.{Chunk}
use Rattle.edit_marks.specs.declared.tidy.words.Hold.{Hold}
use Rattle.edit_marks.specs.declared.tidy.words.Hold.TheVariants as hold
use Rattle.edit_marks.specs.declared.tidy.words.BlockWord.{BlockWord}
use Rattle.edit_marks.specs.Blocks.{left_after}

-- `=`, or a sign such as `+=`
abbrev pub is_assignment : List ℕ → Bool
is_assignment text =
    bytes_eq text (codes "=") || bytes_eq text (codes "*=") || bytes_eq text (codes "/=") || bytes_eq text (codes "%=") || bytes_eq text (codes "+=")
    || bytes_eq text (codes "-=") || bytes_eq text (codes "<<=") || bytes_eq text (codes ">>=") || bytes_eq text (codes "&=")
    || bytes_eq text (codes "^=") || bytes_eq text (codes "|=")

-- behind these tokens a statement or a part of one begins
abbrev pub begins : List ℕ → Bool
begins text = bytes_eq text (codes "{") || bytes_eq text (codes "}") || bytes_eq text (codes ";") || bytes_eq text (codes "return")

-- before these tokens a value ends
abbrev pub ends : List ℕ → Bool
ends text =
    bytes_eq text (codes ")") || bytes_eq text (codes "]") || bytes_eq text (codes "}") || bytes_eq text (codes ";") || bytes_eq text (codes ",")

abbrev pub closes_left : Hold → List ℕ → Bool
closes_left hold.Comma text = begins text
closes_left h text = begins text || bytes_eq text (codes "(") || bytes_eq text (codes "[") || bytes_eq text (codes ",") || is_assignment text

abbrev pub closes_right : Hold → List ℕ → Bool
closes_right hold.Comma text = bytes_eq text (codes ";")
closes_right hold.Prefix text = ends text || is_assignment text
closes_right h text = ends text

-- the token before a value closes it in; where there is none, that side is closed
abbrev pub is_closed_left : Hold → Option (List ℕ) → Bool
is_closed_left h None = true
is_closed_left h (Some text) = closes_left h text

-- the token behind a value closes it in
abbrev pub is_closed_right : Hold → Option (List ℕ) → Bool
is_closed_right h None = true
is_closed_right h (Some text) = closes_right h text

abbrev pub is_firm : Hold → Bool
is_firm hold.Firm = true
is_firm h = false

abbrev pub needs_brackets : Hold → Option (List ℕ) → Option (List ℕ) → Bool
needs_brackets h left right = not (is_firm h) && not (is_closed_left h left && is_closed_right h right)

-- the first token of words, or else what is behind them
abbrev pub first_token : List BlockWord → Option (List ℕ) → Option (List ℕ)
first_token [] right = right
first_token (w ∷ words) right = left_after (first_token words right) w.chunk.first

abbrev pub bracketed : Chunk → Chunk
bracketed c = record { text = codes "(" ++ c.text ++ codes ")"; first = Some (codes "("); last = Some (codes ")") }

abbrev pub with_brackets_if : Bool → BlockWord → BlockWord
with_brackets_if true w = record w { chunk = bracketed w.chunk }
with_brackets_if false w = w

-- the words with brackets around the values that need them, between the tokens next to the block
abbrev pub with_brackets : Option (List ℕ) → Option (List ℕ) → List BlockWord → List BlockWord
with_brackets left right [] = []
with_brackets left right (w ∷ words) =
    with_brackets_if (needs_brackets w.hold left (first_token words right)) w ∷ with_brackets (left_after left w.chunk.last) right words

-- a value that may need brackets
abbrev pub has_loose_word : List BlockWord → Bool
has_loose_word words = list_any (λ w. not (is_firm w.hold)) words
