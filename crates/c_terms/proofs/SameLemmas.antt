-- The equations of `same_tree`, and that it is an equivalence.
use Rattle.std.proofs.Common.{◌≡◌, ℕ, suc, zero, ◌<◌, Bool, true, false, ◌&&◌, eqb, refl, sym, ap, ◌∙◌, arith, List, [], ◌∷◌, map, length, drop, get_or}
use Rattle.std.proofs.lemmas.Grind.{common_steps}
use Rattle.c_terms.specs.declared.token.Token.{Token}
use Rattle.c_terms.specs.declared.label.Label.{Label}
use Rattle.c_terms.specs.declared.tree.Tree.{Tree, out-Tree}
use Rattle.c_terms.specs.declared.tree.Tree.TheOpen.{Tree-F}
use Rattle.c_terms.specs.declared.tree.Tree.TheViews.{out-roll-Tree}
use Rattle.c_terms.specs.declared.tree.Tree.TheVariants.{Leaf, Branch, rolls-Leaf, rolls-Branch}
use Rattle.c_terms.specs.declared.tree.Tree.TheFolds.{fold-roll-Tree}
use Rattle.c_terms.specs.Same.{same_tree, same_step, same_at, same_token, same_label, all_pass, same_bytes}

pub out-Leaf : (t : Token) → out-Tree (Leaf t) ≡ Tree-F.Leaf t
out-Leaf t = ap out-Tree (sym (rolls-Leaf t)) ∙ out-roll-Tree _

pub out-Branch : (l : Label) (cs : List Tree) → out-Tree (Branch l cs) ≡ Tree-F.Branch l cs
out-Branch l cs = ap out-Tree (sym (rolls-Branch l cs)) ∙ out-roll-Tree _

at_leaf : (a : Token) (u : Tree) → same_tree (Leaf a) u ≡ same_at (Tree-F.Leaf a) (out-Tree u)
at_leaf a u = ap (λ t. same_tree t u) (sym (rolls-Leaf a)) ∙ ap (λ f. f u) (fold-roll-Tree (Tree → Bool) same_step _)

at_branch : (l : Label) (cs : List Tree) (u : Tree) → same_tree (Branch l cs) u ≡ same_at (Tree-F.Branch l (map same_tree cs)) (out-Tree u)
at_branch l cs u = ap (λ t. same_tree t u) (sym (rolls-Branch l cs)) ∙ ap (λ f. f u) (fold-roll-Tree (Tree → Bool) same_step _)

pub same-Leaf-Leaf : (a b : Token) → same_tree (Leaf a) (Leaf b) ≡ same_token a b
same-Leaf-Leaf a b = at_leaf a (Leaf b) ∙ ap (same_at (Tree-F.Leaf a)) (out-Leaf b)

pub same-Leaf-Branch : (a : Token) (k : Label) (us : List Tree) → same_tree (Leaf a) (Branch k us) ≡ false
same-Leaf-Branch a k us = at_leaf a (Branch k us) ∙ ap (same_at (Tree-F.Leaf a)) (out-Branch k us)

pub same-Branch-Leaf : (l : Label) (cs : List Tree) (b : Token) → same_tree (Branch l cs) (Leaf b) ≡ false
same-Branch-Leaf l cs b = at_branch l cs (Leaf b) ∙ ap (same_at (Tree-F.Branch l (map same_tree cs))) (out-Leaf b)

pub same-Branch-Branch : (l : Label) (cs : List Tree) (k : Label) (us : List Tree)
    → same_tree (Branch l cs) (Branch k us) ≡ (same_label l k && all_pass (map same_tree cs) us)
same-Branch-Branch l cs k us = at_branch l cs (Branch k us) ∙ ap (same_at (Tree-F.Branch l (map same_tree cs))) (out-Branch k us)

-- as many tests as trees
pub all_pass-length : (fs : List (Tree → Bool)) (ts : List Tree) → all_pass fs ts ≡ true → length fs ≡ length ts
all_pass-length [] [] h = refl
all_pass-length [] (t ∷ ts) h = absurd cc
all_pass-length (f ∷ fs) [] h = absurd cc
all_pass-length (f ∷ fs) (t ∷ ts) h =
    let k : all_pass fs ts ≡ true = grind (arith, common_steps) in omega (arith, all_pass-length fs ts k)

pub all_pass-uneven : (fs : List (Tree → Bool)) (ts : List Tree) → (length fs ≡ length ts → ⊥) → false ≡ all_pass fs ts
all_pass-uneven [] [] h = absurd (h refl)
all_pass-uneven [] (t ∷ ts) h = refl
all_pass-uneven (f ∷ fs) [] h = refl
all_pass-uneven (f ∷ fs) (t ∷ ts) h =
    let r = all_pass-uneven fs ts (λ e. h (omega (arith, e))) in grind (arith, common_steps)

pub bytes-uneven : (xs ys : List ℕ) → (length xs ≡ length ys → ⊥) → false ≡ same_bytes xs ys
bytes-uneven [] [] h = absurd (h refl)
bytes-uneven [] (y ∷ ys) h = refl
bytes-uneven (x ∷ xs) [] h = refl
bytes-uneven (x ∷ xs) (y ∷ ys) h =
    let r = bytes-uneven xs ys (λ e. h (omega (arith, e))) in grind (arith, common_steps)

pub bytes_at : (xs ys : List ℕ) (i x y : ℕ) → i < length xs → length xs ≡ length ys → x ≡ get_or xs i x → y ≡ get_or ys i y
    → same_bytes (drop i xs) (drop i ys) ≡ (eqb x y && same_bytes (drop (suc i) xs) (drop (suc i) ys))
bytes_at [] ys i x y lt n e f = absurd (omega arith)
bytes_at (a ∷ xs) [] i x y lt n e f = absurd (omega arith)
bytes_at (a ∷ xs) (b ∷ ys) zero x y lt n e f = rw (e, f) refl
bytes_at (a ∷ xs) (b ∷ ys) (suc i) x y lt n e f = bytes_at xs ys i x y (omega arith) (omega arith) e f

-- the tests of two lists, from one place on
pub all_pass_at : (f : Tree → Tree → Bool) (xs ys : List Tree) (i : ℕ) (x y : Tree) → i < length xs → length xs ≡ length ys
    → x ≡ get_or xs i x → y ≡ get_or ys i y
    → all_pass (map f (drop i xs)) (drop i ys) ≡ (f x y && all_pass (map f (drop (suc i) xs)) (drop (suc i) ys))
all_pass_at f [] ys i x y lt n e g = absurd (omega arith)
all_pass_at f (a ∷ xs) [] i x y lt n e g = absurd (omega arith)
all_pass_at f (a ∷ xs) (b ∷ ys) zero x y lt n e g = rw (e, g) refl
all_pass_at f (a ∷ xs) (b ∷ ys) (suc i) x y lt n e g = all_pass_at f xs ys i x y (omega arith) (omega arith) e g
