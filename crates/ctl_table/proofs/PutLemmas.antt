-- A loop that appends what each element of a list gives to a list of numbers.
use Rattle.std.proofs.Common.{◌≡◌, ℕ, suc, ◌+◌, ◌<◌, sym, ap, ◌∙◌, List, [], ◌∷◌, ◌++◌, length, drop, get_or, append_assoc, append-nil, add-one, refl}
use Rattle.std.proofs.Math.Seq.{drop-cons}

pub put-step : {X : Type 0} (one : X → List ℕ) (all : List X → List ℕ) → ((x : X) (xs : List X) → all (x ∷ xs) ≡ one x ++ all xs)
    → (xs : List X) (i : ℕ) (x : X) (found next whole : List ℕ) → i < length xs → x ≡ get_or xs i x → next ≡ found ++ one x
    → found ++ all (drop i xs) ≡ whole → next ++ all (drop (i + 1) xs) ≡ whole
put-step one all first xs i x found next whole l q n h =
    ap (λ z. z ++ all (drop (i + 1) xs)) n ∙ append_assoc found (one x) (all (drop (i + 1) xs))
    ∙ ap (λ z. found ++ (one x ++ all (drop z xs))) (add-one i)
    ∙ ap (λ z. found ++ z) (sym (first x (drop (suc i) xs)))
    ∙ ap (λ z. found ++ all (z ∷ drop (suc i) xs)) q
    ∙ ap (λ z. found ++ all z) (sym (drop-cons xs i x l)) ∙ h

drop-end : {X : Type 0} (xs : List X) → drop (length xs) xs ≡ []
drop-end [] = refl
drop-end (x ∷ xs) = drop-end xs

pub put-end : {X : Type 0} (all : List X → List ℕ) → all [] ≡ [] → (xs : List X) (i : ℕ) (found whole : List ℕ) → i ≡ length xs
    → found ++ all (drop i xs) ≡ whole → found ≡ whole
put-end all none xs i found whole e h =
    sym (append-nil found) ∙ ap (λ z. found ++ z) (sym (ap all (ap (λ n. drop n xs) e ∙ drop-end xs) ∙ none)) ∙ h
