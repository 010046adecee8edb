-- A loop that appends what each member yields, of which the first differs from the others.
use Rattle.std.proofs.Common.{◌≡◌, ◌<◌, ◌+◌, ℕ, sym, ap, ◌∙◌, List, ◌∷◌, ◌++◌, length, drop, get_or, append_assoc}
use Rattle.std.proofs.lemmas.List.{drop_more}

pub put_changed : {X Y : Type 0} (one : X → List Y) (all later : List X → List Y) → ((x : X) (xs : List X) → all (x ∷ xs) ≡ one x ++ later xs)
    → (xs : List X) (i : ℕ) (x : X) (found next whole : List Y) → i < length xs → x ≡ get_or xs i x → next ≡ found ++ one x
    → found ++ all (drop i xs) ≡ whole → next ++ later (drop (i + 1) xs) ≡ whole
put_changed one all later first xs i x found next whole lt is n h =
    ap (λ z. z ++ later (drop (i + 1) xs)) n ∙ append_assoc found (one x) (later (drop (i + 1) xs))
    ∙ ap (λ z. found ++ z) (sym (first x (drop (i + 1) xs)))
    ∙ ap (λ z. found ++ all (z ∷ drop (i + 1) xs)) is
    ∙ ap (λ z. found ++ all z) (sym (drop_more xs i x lt)) ∙ h
