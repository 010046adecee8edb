-- The equations of `tree_order`.
use Rattle.std.proofs.Common.{◌≡◌, ℕ, zero, suc, ◌<◌, min, refl, sym, ap, ◌∙◌, arith, List, [], ◌∷◌, map, length, drop, get_or}
use Rattle.std.proofs.lemmas.Bool.Decides.{nat_tests}
use Rattle.std.specs.declared.cmp.Ordering.{Ordering}
use Rattle.std.specs.declared.cmp.Ordering.TheVariants.{Less, Equal, Greater}
use Rattle.std.specs.Ordering.{nat_cmp, ordering_then}
use Rattle.std.specs.Cmp.Lexicographic.{slice_cmp}
use Rattle.c_terms.specs.declared.token.Token.{Token}
use Rattle.c_terms.specs.declared.label.Label.{Label}
use Rattle.c_terms.specs.declared.tree.Tree.{Tree, out-Tree}
use Rattle.c_terms.specs.declared.tree.Tree.TheOpen.{Tree-F}
use Rattle.c_terms.specs.declared.tree.Tree.TheVariants.{Leaf, Branch, rolls-Leaf, rolls-Branch}
use Rattle.c_terms.specs.declared.tree.Tree.TheFolds.{fold-roll-Tree}
use Rattle.c_terms.specs.Numbers.{label_number}
use Rattle.c_terms.specs.Order.{token_order, order_at, order_step, tree_order}
use Rattle.c_terms.proofs.SameLemmas.{out-Leaf, out-Branch}

-- applying each of a list of functions compares as the functions do
pub slice_cmp-map : {A B : Type 0} (f : A → B → Ordering) (xs : List A) (ys : List B)
    → slice_cmp (λ (g : B → Ordering) y. g y) (map f xs) ys ≡ slice_cmp f xs ys
slice_cmp-map f [] [] = refl
slice_cmp-map f [] (y ∷ ys) = refl
slice_cmp-map f (x ∷ xs) [] = refl
slice_cmp-map f (x ∷ xs) (y ∷ ys) = ap (ordering_then (f x y)) (slice_cmp-map f xs ys)

at_leaf : (a : Token) (u : Tree) → tree_order (Leaf a) u ≡ order_at (Tree-F.Leaf a) (out-Tree u)
at_leaf a u = ap (λ t. tree_order t u) (sym (rolls-Leaf a)) ∙ ap (λ f. f u) (fold-roll-Tree (Tree → Ordering) order_step _)

at_branch : (l : Label) (cs : List Tree) (u : Tree) → tree_order (Branch l cs) u ≡ order_at (Tree-F.Branch l (map tree_order cs)) (out-Tree u)
at_branch l cs u = ap (λ t. tree_order t u) (sym (rolls-Branch l cs)) ∙ ap (λ f. f u) (fold-roll-Tree (Tree → Ordering) order_step _)

pub order-Leaf-Leaf : (a b : Token) → tree_order (Leaf a) (Leaf b) ≡ token_order a b
order-Leaf-Leaf a b = at_leaf a (Leaf b) ∙ ap (order_at (Tree-F.Leaf a)) (out-Leaf b)

pub order-Leaf-Branch : (a : Token) (k : Label) (us : List Tree) → tree_order (Leaf a) (Branch k us) ≡ Less
order-Leaf-Branch a k us = at_leaf a (Branch k us) ∙ ap (order_at (Tree-F.Leaf a)) (out-Branch k us)

pub order-Branch-Leaf : (l : Label) (cs : List Tree) (b : Token) → tree_order (Branch l cs) (Leaf b) ≡ Greater
order-Branch-Leaf l cs b = at_branch l cs (Leaf b) ∙ ap (order_at (Tree-F.Branch l (map tree_order cs))) (out-Leaf b)

pub order-Branch-Branch : (l : Label) (cs : List Tree) (k : Label) (us : List Tree)
    → tree_order (Branch l cs) (Branch k us) ≡ ordering_then (nat_cmp (label_number l) (label_number k)) (slice_cmp tree_order cs us)
order-Branch-Branch l cs k us =
    at_branch l cs (Branch k us) ∙ ap (order_at (Tree-F.Branch l (map tree_order cs))) (out-Branch k us)
    ∙ ap (ordering_then (nat_cmp (label_number l) (label_number k))) (slice_cmp-map tree_order cs us)

-- one step of a comparison of lists from a place on
pub slice_cmp_at : {A : Type 0} (f : A → A → Ordering) (xs ys : List A) (i : ℕ) (x y : A) → i < length xs → i < length ys
    → x ≡ get_or xs i x → y ≡ get_or ys i y
    → slice_cmp f (drop i xs) (drop i ys) ≡ ordering_then (f x y) (slice_cmp f (drop (suc i) xs) (drop (suc i) ys))
slice_cmp_at f [] ys i x y h k e g = absurd (omega arith)
slice_cmp_at f (a ∷ xs) [] i x y h k e g = absurd (omega arith)
slice_cmp_at f (a ∷ xs) (b ∷ ys) zero x y h k e g = rw (e, g) refl
slice_cmp_at f (a ∷ xs) (b ∷ ys) (suc i) x y h k e g = slice_cmp_at f xs ys i x y (omega arith) (omega arith) e g

pub nat_cmp-suc : (m n : ℕ) → nat_cmp m n ≡ nat_cmp (suc m) (suc n)
nat_cmp-suc m n = grind (arith, nat_tests)

pub before_suc : (n : ℕ) → Less ≡ nat_cmp 0 (suc n)
before_suc n = grind (arith, nat_tests)

pub after_zero : (n : ℕ) → Greater ≡ nat_cmp (suc n) 0
after_zero n = grind (arith, nat_tests)

-- if one of the lists ends, the longer one is the greater
pub slice_cmp_end : {A : Type 0} (f : A → A → Ordering) (xs ys : List A) (n : ℕ) → n ≡ min (length xs) (length ys)
    → slice_cmp f (drop n xs) (drop n ys) ≡ nat_cmp (length xs) (length ys)
slice_cmp_end f [] [] n e = let z : n ≡ 0 = omega (arith, e) in rw z refl
slice_cmp_end f [] (y ∷ ys) n e = let z : n ≡ 0 = omega (arith, e) in rw z (before_suc (length ys))
slice_cmp_end f (x ∷ xs) [] n e = let z : n ≡ 0 = omega (arith, e) in rw z (after_zero (length xs))
slice_cmp_end f (x ∷ xs) (y ∷ ys) zero e = absurd (omega (arith, e))
slice_cmp_end f (x ∷ xs) (y ∷ ys) (suc n) e = slice_cmp_end f xs ys n (omega (arith, e)) ∙ nat_cmp-suc (length xs) (length ys)

-- branches of one label compare as their children do
pub order-one-label : (l : Label) (cs : List Tree) (k : Label) (us : List Tree) → Equal ≡ nat_cmp (label_number l) (label_number k)
    → tree_order (Branch l cs) (Branch k us) ≡ slice_cmp tree_order cs us
order-one-label l cs k us e = order-Branch-Branch l cs k us ∙ ap (λ o. ordering_then o (slice_cmp tree_order cs us)) (sym e)
