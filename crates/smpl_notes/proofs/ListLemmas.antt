-- Loops that append what each member yields to a list.
use Rattle.std.proofs.Common.{◌≡◌, ◌<◌, ◌≤◌, ◌+◌, ℕ, sym, ap, ◌∙◌, List, [], ◌∷◌, ◌++◌, length, drop, get_or, append_assoc}
use Rattle.std.proofs.lemmas.List.{drop_more, drop_all, append-nil}

pub put-step : {X Y : Type 0} (one : X → List Y) (all : List X → List Y) → ((x : X) (xs : List X) → all (x ∷ xs) ≡ one x ++ all xs)
    → (xs : List X) (i : ℕ) (x : X) (found next whole : List Y) → i < length xs → x ≡ get_or xs i x → next ≡ found ++ one x
    → found ++ all (drop i xs) ≡ whole → next ++ all (drop (i + 1) xs) ≡ whole
put-step one all first xs i x found next whole lt is n h =
    ap (λ z. z ++ all (drop (i + 1) xs)) n ∙ append_assoc found (one x) (all (drop (i + 1) xs))
    ∙ ap (λ z. found ++ z) (sym (first x (drop (i + 1) xs)))
    ∙ ap (λ z. found ++ all (z ∷ drop (i + 1) xs)) is
    ∙ ap (λ z. found ++ all z) (sym (drop_more xs i x lt)) ∙ h

pub put-end : {X Y : Type 0} (all : List X → List Y) → all [] ≡ [] → (xs : List X) (i : ℕ) (found whole : List Y) → length xs ≤ i
    → found ++ all (drop i xs) ≡ whole → found ≡ whole
put-end all none xs i found whole le h =
    sym (append-nil found) ∙ ap (λ z. found ++ z) (sym (ap all (drop_all i xs le) ∙ none)) ∙ h
