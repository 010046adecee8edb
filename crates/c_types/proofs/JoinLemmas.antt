-- Lists that grow by one member, and lists of which one member less is left.
use Rattle.std.proofs.Common.{◌≡◌, ℕ, zero, suc, ◌+◌, ◌<◌, ◌≤◌, refl, sym, ap, ◌∙◌, arith}
use Rattle.std.proofs.Common.{List, [], ◌∷◌, ◌++◌, map, length, take, drop, get_or, append_assoc, drop-cons}
use Rattle.std.specs.Prelude.{slice_set as set}
use Rattle.std.proofs.lemmas.List.{map-append, append-nil}
use Rattle.std.proofs.Math.Seq.{take-suc, set-append_seam}
use Rattle.c_terms.specs.Trees.{join}

pub join-last : {A : Type 0} (xss : List (List A)) (ys : List A) → join (xss ++ ys ∷ []) ≡ join xss ++ ys
join-last [] ys = append-nil ys
join-last (xs ∷ xss) ys = let r = join-last xss ys in (λ i. xs ++ r i) ∙ sym (append_assoc xs (join xss) ys)

-- what the first i members give, and one member more
pub join-more : {A B : Type 0} (f : A → List B) (xs : List A) (i : ℕ) (x : A) (d : A) (old new : List B) → i < length xs → x ≡ get_or xs i d
    → old ≡ join (map f (take i xs)) → new ≡ old ++ f x → new ≡ join (map f (take (i + 1) xs))
join-more f xs i x d old new lt e h g =
    let one : i + 1 ≡ suc i = omega arith in
    let t : take (suc i) xs ≡ take i xs ++ x ∷ [] = take-suc xs i d lt ∙ ap (λ y. take i xs ++ y ∷ []) (sym e) in
    let j : join (map f (take (suc i) xs)) ≡ join (map f (take i xs)) ++ f x =
    ap (λ ts. join (map f ts)) t ∙ ap join (map-append f (take i xs) (x ∷ [])) ∙ join-last (map f (take i xs)) (f x) in
    g ∙ ap (λ ys. ys ++ f x) h ∙ sym j ∙ ap (λ n. join (map f (take n xs))) (sym one)

-- the first of the members that are left
pub left-next : {A : Type 0} (xs : List A) (i : ℕ) (x : A) → i < length xs → x ≡ get_or xs i x → drop i xs ≡ x ∷ drop (i + 1) xs
left-next xs i x lt e =
    let one : i + 1 ≡ suc i = omega arith in
    drop-cons xs i x lt ∙ (λ j. sym e j ∷ drop (sym one j) xs)

-- past the end nothing is left
pub dropped : {A : Type 0} (xs : List A) (i : ℕ) → length xs ≤ i → drop i xs ≡ []
dropped [] zero h = refl
dropped [] (suc i) h = refl
dropped (x ∷ xs) zero h = absurd (omega (arith, h))
dropped (x ∷ xs) (suc i) h = dropped xs i (omega (arith, h))

-- a place that was kept, filled
pub filled : {A : Type 0} (found more all : List A) (kept x : A) → all ≡ (found ++ kept ∷ []) ++ more
    → set all (length found) x ≡ found ++ x ∷ more
filled found more all kept x e =
    ap (λ xs. set xs (length found) x) (e ∙ append_assoc found (kept ∷ []) more) ∙ set-append_seam found kept more x
