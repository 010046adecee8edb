-- For internal use: braces by the tokens at whose places they stand, and statements of patterns by their edits.
use Rattle.std.specs.Prelude.{ℕ, ◌≡◌, ◌+◌, List, [], ◌∷◌, ◌++◌, filter, get_or, nat_eq, if◌then◌else◌}
use Rattle.edit_marks.specs.declared.tidy.touch.PatternStatement.{PatternStatement}
use Rattle.edit_bodies.specs.declared.braces.Coming.{Coming}

-- the braces at a token
abbrev pub at_token : List Coming → ℕ → List Coming
at_token all n = filter (λ b. nat_eq b.spot.token n) all

-- each token has its braces, in the order in which they came
abbrev pub ArePlaces : List Coming → List (List Coming) → Type 0
ArePlaces all places = (n : ℕ) → get_or places n [] ≡ at_token all n

-- the numbers of the statements of an edit, if the first of these statements has this number
abbrev pub numbers_from : ℕ → ℕ → List (ℕ × PatternStatement) → List ℕ
numbers_from next edit [] = []
numbers_from next edit (s ∷ statements) = (if nat_eq s.0 edit then next ∷ [] else []) ++ numbers_from (next + 1) edit statements

-- each edit has the numbers of its statements
abbrev pub AreByEdit : List (ℕ × PatternStatement) → List (List ℕ) → Type 0
AreByEdit statements all = (edit : ℕ) → get_or all edit [] ≡ numbers_from 0 edit statements
