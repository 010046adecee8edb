-- Numbers of keys.
use Rattle.std.proofs.Common.{◌≡◌, ◌+◌, ◌<◌, ℕ, Bool, true, false, cond, sym, ap, subst, ◌∙◌, arith, List, [], ◌∷◌, length, drop, get_or}
use Rattle.std.proofs.lemmas.List.{drop_more}
use Rattle.std.specs.Prelude.{Option, Some, IfSome, eqb}
use Rattle.std.specs.List.{position_from}
use Rattle.edit_marks.specs.EditWalk.Keys.{number_of}
use Rattle.edit_marks.specs.EditWalk.Numbered.{with_number}

from_here : (test : ℕ → Bool) (keys : List ℕ) (i : ℕ) → i < length keys
    → position_from test i (drop i keys) ≡ cond (test (get_or keys i 0)) (Some i) (position_from test (i + 1) (drop (i + 1) keys))
from_here test keys i lt = ap (position_from test i) (drop_more keys i 0 lt)

within_by : (b : Bool) (i n : ℕ) (rest : Option ℕ) → i < n → IfSome rest (λ m. m < n) → IfSome (cond b (Some i) rest) (λ m. m < n)
within_by true i n rest here later = here
within_by false i n rest here later = later

-- a number that is found is one of the keys
found_within : (test : ℕ → Bool) (i : ℕ) (keys : List ℕ) → IfSome (position_from test i keys) (λ n. n < i + length keys)
found_within test i [] = tt
found_within test i (k ∷ keys) =
    let e : i + 1 + length keys ≡ i + length (k ∷ keys) = omega arith in
    let P : ℕ → Type 0 = λ m. IfSome (position_from test (i + 1) keys) (λ n. n < m) in
    within_by (test k) i (i + length (k ∷ keys)) (position_from test (i + 1) keys) (omega arith) (subst P e (found_within test (i + 1) keys))

pub number_within : (keys : List ℕ) (key : ℕ) → IfSome (number_of keys key) (λ n. n < length keys)
number_within keys key =
    let e : 0 + length keys ≡ length keys = omega arith in
    let P : ℕ → Type 0 = λ m. IfSome (number_of keys key) (λ n. n < m) in
    subst P e (found_within (λ k. eqb k key) 0 keys)

-- one more key, before the others
pub one_earlier : (keys : List ℕ) (i key : ℕ) (old new : Option ℕ) → i < length keys → new ≡ with_number (get_or keys i 0) i key old
    → old ≡ position_from (λ k. eqb k key) (i + 1) (drop (i + 1) keys) → new ≡ position_from (λ k. eqb k key) i (drop i keys)
one_earlier keys i key old new lt is h = is ∙ ap (cond (eqb (get_or keys i 0) key) (Some i)) h ∙ sym (from_here (λ k. eqb k key) keys i lt)
