-- Lists of which a loop keeps what passes a test.
use Rattle.std.proofs.Common.{◌≡◌, ℕ, suc, ◌+◌, ◌<◌, Bool, true, false, not, ◌&&◌, cond, refl, sym, ap, ◌∙◌}
use Rattle.std.proofs.Common.{List, [], ◌∷◌, length, get_or, drop, add-one}
use Rattle.std.specs.List.{filter}
use Rattle.std.proofs.Math.Path.{fun_ext}
use Rattle.std.proofs.Math.Seq.{drop-cons}
use Rattle.smpl_terms.specs.declared.var.Var.{Var}

pub drop-here : {A : Type 0} (xs : List A) (i : ℕ) (x : A) → i < length xs → x ≡ get_or xs i x → drop i xs ≡ x ∷ drop (i + 1) xs
drop-here xs i x l q =
    drop-cons xs i x l ∙ ap (λ z. z ∷ drop (suc i) xs) (sym q) ∙ ap (λ (n : ℕ). x ∷ drop n xs) (sym (add-one i))

pub not-not : (b : Bool) → b ≡ not (not b)
not-not true = refl
not-not false = refl

pub filter-same : (p q : Var → Bool) (w : List Var) → ((x : Var) → p x ≡ q x) → filter p w ≡ filter q w
filter-same p q w h = ap (λ (f : Var → Bool). filter f w) (fun_ext h)

-- the variables that pass one test, and of these those that pass another
pub filter-filter : (p q : Var → Bool) (w : List Var) → filter q (filter p w) ≡ filter (λ x. p x && q x) w
filter-filter p q [] = refl
filter-filter p q (x ∷ w) = by (p x) (filter-filter p q w)
  where
    by : (b : Bool) → filter q (filter p w) ≡ filter (λ y. p y && q y) w
        → filter q (cond b (x ∷ filter p w) (filter p w)) ≡ cond (b && q x) (x ∷ filter (λ y. p y && q y) w) (filter (λ y. p y && q y) w)
    by true h = ap (λ (z : List Var). cond (q x) (x ∷ z) z) h
    by false h = h
