-- Lists up to a place, and loops that append what each member yields to a list.
use Rattle.std.proofs.Common.{◌≡◌, ◌<◌, ◌≤◌, ◌+◌, ℕ, zero, suc, sym, ap, ◌∙◌, add-one, List, [], ◌∷◌, ◌++◌, length, drop, take, get_or, append_assoc}
use Rattle.std.proofs.lemmas.List.{drop_more, drop_all, append-nil}
use Rattle.std.specs.Prelude.{Some, slice_get}

up_to : {A : Type 0} (xs : List A) (i : ℕ) (x : A) → slice_get xs i ≡ Some x → take (suc i) xs ≡ take i xs ++ x ∷ []
up_to [] i x at = absurd cc
up_to (y ∷ ys) zero x at = let same : y ≡ x = cc in ap (λ z. z ∷ []) same
up_to (y ∷ ys) (suc i) x at = ap (λ l. y ∷ l) (up_to ys i x at)

-- the members up to a place and the one there
pub take_here : {A : Type 0} (xs : List A) (i : ℕ) (x : A) → slice_get xs i ≡ Some x → take (i + 1) xs ≡ take i xs ++ x ∷ []
take_here xs i x at = ap (λ n. take n xs) (add-one i) ∙ up_to xs i x at

-- a loop that appends what each member yields to a list
pub put-step : {X Y : Type 0} (one : X → List Y) (all : List X → List Y) → ((x : X) (xs : List X) → all (x ∷ xs) ≡ one x ++ all xs)
    → (xs : List X) (i : ℕ) (x : X) (found next whole : List Y) → i < length xs → x ≡ get_or xs i x → next ≡ found ++ one x
    → found ++ all (drop i xs) ≡ whole → next ++ all (drop (i + 1) xs) ≡ whole
put-step one all first xs i x found next whole lt is n h =
    ap (λ z. z ++ all (drop (i + 1) xs)) n ∙ append_assoc found (one x) (all (drop (i + 1) xs))
    ∙ ap (λ z. found ++ z) (sym (first x (drop (i + 1) xs)))
    ∙ ap (λ z. found ++ all (z ∷ drop (i + 1) xs)) is
    ∙ ap (λ z. found ++ all z) (sym (drop_more xs i x lt)) ∙ h

pub put-end : {X Y : Type 0} (all : List X → List Y) → all [] ≡ [] → (xs : List X) (i : ℕ) (found whole : List Y) → length xs ≤ i
    → found ++ all (drop i xs) ≡ whole → found ≡ whole
put-end all none xs i found whole le h =
    sym (append-nil found) ∙ ap (λ z. found ++ z) (sym (ap all (drop_all i xs le) ∙ none)) ∙ h
