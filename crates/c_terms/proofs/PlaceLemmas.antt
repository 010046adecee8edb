-- The first leaf of a tree, and its subtrees.
use Rattle.std.proofs.Common.{◌≡◌, ℕ, suc, ◌+◌, ◌<◌, refl, sym, ap, ◌∙◌, arith, List, [], ◌∷◌, ◌++◌, map, length, drop, get_or}
use Rattle.std.proofs.Common.{Some, None, slice_get, drop-cons}
use Rattle.std.specs.Option.{option_and_then}
use Rattle.c_terms.specs.declared.token.Token.{Token}
use Rattle.c_terms.specs.declared.label.Label.{Label}
use Rattle.c_terms.specs.declared.tree.Tree.{Tree}
use Rattle.c_terms.specs.declared.tree.Tree.TheVariants.{Leaf, Branch}
use Rattle.c_terms.specs.Trees.{join, leaves}
use Rattle.c_terms.specs.Places.{child, child_at, subtree}
use Rattle.c_terms.proofs.SameLemmas.{out-Leaf, out-Branch}

first-some : (xs ys : List Token) (t : Token) → Some t ≡ slice_get xs 0 → Some t ≡ slice_get (xs ++ ys) 0
first-some [] ys t h = absurd (cc)
first-some (x ∷ xs) ys t h = h

first-none : (xs : List Token) → None ≡ slice_get xs 0 → xs ≡ []
first-none [] h = refl
first-none (x ∷ xs) h = absurd (cc)

join-at : (items : List Tree) (i : ℕ) (c : Tree) → i < length items → c ≡ get_or items i c
    → join (map leaves (drop i items)) ≡ leaves c ++ join (map leaves (drop (i + 1) items))
join-at items i c lt e =
    let one : i + 1 ≡ suc i = omega arith in
    let d : drop i items ≡ c ∷ drop (suc i) items = drop-cons items i c lt ∙ ap (λ x. x ∷ drop (suc i) items) (sym e) in
    rw (one, d) refl

-- the first leaf of the first child that has one
pub leaf-found : (items : List Tree) (i : ℕ) (c : Tree) (t : Token) (all : List Token) → i < length items → c ≡ get_or items i c
    → join (map leaves (drop i items)) ≡ all → Some t ≡ slice_get (leaves c) 0 → Some t ≡ slice_get all 0
leaf-found items i c t all lt e h f = rw (← h, join-at items i c lt e) (first-some (leaves c) (join (map leaves (drop (i + 1) items))) t f)

-- a child without leaves is skipped
pub leaf-none : (items : List Tree) (i : ℕ) (c : Tree) (all : List Token) → i < length items → c ≡ get_or items i c
    → join (map leaves (drop i items)) ≡ all → None ≡ slice_get (leaves c) 0 → join (map leaves (drop (i + 1) items)) ≡ all
leaf-none items i c all lt e h f =
    let j = join-at items i c lt e in let n = first-none (leaves c) f in
    ap (λ xs. xs ++ join (map leaves (drop (i + 1) items))) (sym n) ∙ sym j ∙ h

pub child-Leaf : (a : Token) (i : ℕ) → child (Leaf a) i ≡ None
child-Leaf a i = ap (λ layer. child_at layer i) (out-Leaf a)

pub child-Branch : (l : Label) (cs : List Tree) (i : ℕ) → child (Branch l cs) i ≡ slice_get cs i
child-Branch l cs i = ap (λ layer. child_at layer i) (out-Branch l cs)

-- one step down a path
pub subtree-step : (t : Tree) (path : List ℕ) (i : ℕ) → i < length path
    → subtree t (drop i path) ≡ option_and_then (λ c. subtree c (drop (i + 1) path)) (child t (get_or path i 0))
subtree-step t path i lt =
    let one : i + 1 ≡ suc i = omega arith in
    rw (one, drop-cons path i 0 lt) refl
