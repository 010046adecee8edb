-- `tree_order` is a total order, and Equal exactly if the terms are the same.
-- Each tree has a code, a list of numbers, so that trees are ordered as their codes are. No code is a proper prefix of
-- another, so the codes of children can be written one after another. A leaf's code is 1, its kind, its bytes plus 1,
-- and 0; a branch's is 2, its label, the codes of its children, and 0. So a text or a list of children comes before its
-- extensions.
use Rattle.std.proofs.Common.{◌≡◌, ◌↔◌, ℕ, suc, true, ◌&&◌, ◌||◌, eqb, refl, sym, ap, ◌∙◌, subst, arith, List, [], ◌∷◌, ◌++◌, map, append_assoc}
use Rattle.std.proofs.lemmas.Bool.Decides.{nat_tests}
use Rattle.std.proofs.lemmas.Cmp.{nat_list_cmp_total, on_total}
use Rattle.std.specs.Cmp.{IsTotalOrder}
use Rattle.std.specs.Cmp.Lexicographic.{slice_cmp}
use Rattle.std.specs.declared.cmp.Ordering.{Ordering}
use Rattle.std.specs.declared.cmp.Ordering.TheVariants.{Less, Equal, Greater}
use Rattle.std.specs.Ordering.{nat_cmp, ordering_then, on, is_eq, is_le, ordering_reverse}
use Rattle.c_terms.specs.declared.token.Token.{Token}
use Rattle.c_terms.specs.declared.label.Label.{Label}
use Rattle.c_terms.specs.declared.tree.Tree.{Tree}
use Rattle.c_terms.specs.declared.tree.Tree.TheOpen.{Tree-F}
use Rattle.c_terms.specs.declared.tree.Tree.TheVariants.{Leaf, Branch, rolls-Leaf, rolls-Branch}
use Rattle.c_terms.specs.declared.tree.Tree.TheFolds.{fold-Tree, fold-roll-Tree}
use Rattle.c_terms.specs.Numbers.{kind_number, label_number}
use Rattle.c_terms.specs.Trees.{join}
use Rattle.c_terms.specs.Same.{same_tree, same_token, same_bytes, all_pass}
use Rattle.c_terms.specs.Order.{token_order, tree_order}
use Rattle.c_terms.proofs.SameLemmas.{same-Leaf-Leaf, same-Leaf-Branch, same-Branch-Leaf, same-Branch-Branch}
use Rattle.c_terms.proofs.OrderLemmas.{order-Leaf-Leaf, order-Leaf-Branch, order-Branch-Leaf, order-Branch-Branch, nat_cmp-suc, before_suc, after_zero}
use Rattle.c_terms.proofs.Induct.{Each, tree_induction, tree_cases}

code_step : Tree-F (List ℕ) → List ℕ
code_step (Tree-F.Leaf a) = 1 ∷ kind_number a.kind ∷ (map suc a.text ++ 0 ∷ [])
code_step (Tree-F.Branch l codes) = 2 ∷ label_number l ∷ (join codes ++ 0 ∷ [])

code : Tree → List ℕ
code = fold-Tree (List ℕ) code_step

code-Leaf : (a : Token) → code (Leaf a) ≡ 1 ∷ kind_number a.kind ∷ (map suc a.text ++ 0 ∷ [])
unfolding code code_step
code-Leaf a = ap code (sym (rolls-Leaf a)) ∙ fold-roll-Tree (List ℕ) code_step _

code-Branch : (l : Label) (cs : List Tree) → code (Branch l cs) ≡ 2 ∷ label_number l ∷ (join (map code cs) ++ 0 ∷ [])
unfolding code code_step
code-Branch l cs = ap code (sym (rolls-Branch l cs)) ∙ fold-roll-Tree (List ℕ) code_step _

abbrev by_bytes : List ℕ → List ℕ → Ordering
by_bytes = slice_cmp nat_cmp

then-assoc : (a b c : Ordering) → ordering_then (ordering_then a b) c ≡ ordering_then a (ordering_then b c)
then-assoc Less b c = refl
then-assoc Equal b c = refl
then-assoc Greater b c = refl

-- the bytes of a leaf, whatever follows
bytes-code : (bs cs xs ys : List ℕ) → by_bytes ((map suc bs ++ 0 ∷ []) ++ xs) ((map suc cs ++ 0 ∷ []) ++ ys) ≡ ordering_then (by_bytes bs cs) (by_bytes xs ys)
bytes-code [] [] xs ys = refl
bytes-code [] (c ∷ cs) xs ys = rw (sym (before_suc c)) refl
bytes-code (b ∷ bs) [] xs ys = rw (sym (after_zero b)) refl
bytes-code (b ∷ bs) (c ∷ cs) xs ys =
    rw (sym (nat_cmp-suc b c)) (ap (ordering_then (nat_cmp b c)) (bytes-code bs cs xs ys) ∙ sym (then-assoc (nat_cmp b c) (by_bytes bs cs) (by_bytes xs ys)))

-- the codes of two trees, whatever follows
abbrev Coded : Tree → Type 0
Coded t = (u : Tree) (xs ys : List ℕ) → by_bytes (code t ++ xs) (code u ++ ys) ≡ ordering_then (tree_order t u) (by_bytes xs ys)

leaf-coded : (a : Token) → Coded (Leaf a)
leaf-coded a = tree_cases (λ u. (xs ys : List ℕ) → by_bytes (code (Leaf a) ++ xs) (code u ++ ys) ≡ ordering_then (tree_order (Leaf a) u) (by_bytes xs ys))
    (λ b xs ys. rw (code-Leaf a, code-Leaf b, order-Leaf-Leaf a b)
    (ap (ordering_then (nat_cmp (kind_number a.kind) (kind_number b.kind))) (bytes-code a.text b.text xs ys)
    ∙ sym (then-assoc (nat_cmp (kind_number a.kind) (kind_number b.kind)) (by_bytes a.text b.text) (by_bytes xs ys))))
    (λ k us xs ys. rw (code-Leaf a, code-Branch k us, order-Leaf-Branch a k us) refl)

regroup : (xs ys zs ws : List ℕ) → ((xs ++ ys) ++ zs) ++ ws ≡ xs ++ ((ys ++ zs) ++ ws)
regroup xs ys zs ws = rw (append_assoc xs ys zs, append_assoc xs (ys ++ zs) ws) refl

-- no code begins with 0
code-starts : (t : Tree) → (n : ℕ) × ((rest : List ℕ) × (code t ≡ suc n ∷ rest))
code-starts = tree_cases (λ t. (n : ℕ) × ((rest : List ℕ) × (code t ≡ suc n ∷ rest))) (λ a. (0, (_, code-Leaf a))) (λ l cs. (1, (_, code-Branch l cs)))

abbrev kids : List Tree → List ℕ
kids cs = join (map code cs) ++ 0 ∷ []

kids-end : (u : Tree) (us : List Tree) (xs ys : List ℕ) → by_bytes (0 ∷ xs) (kids (u ∷ us) ++ ys) ≡ Less
kids-end u us xs ys = let s = code-starts u in rw (s.1.1, sym (before_suc s.0)) refl

kids-more : (c : Tree) (cs : List Tree) (xs ys : List ℕ) → by_bytes (kids (c ∷ cs) ++ xs) (0 ∷ ys) ≡ Greater
kids-more c cs xs ys = let s = code-starts c in rw (s.1.1, sym (after_zero s.0)) refl

kids-coded : (cs us : List Tree) → Each Coded cs → (xs ys : List ℕ)
    → by_bytes (kids cs ++ xs) (kids us ++ ys) ≡ ordering_then (slice_cmp tree_order cs us) (by_bytes xs ys)
kids-coded [] [] e xs ys = refl
kids-coded [] (u ∷ us) e xs ys = kids-end u us xs ys
kids-coded (c ∷ cs) [] e xs ys = kids-more c cs xs ys
kids-coded (c ∷ cs) (u ∷ us) e xs ys =
    rw (regroup (code c) (join (map code cs)) (0 ∷ []) xs, regroup (code u) (join (map code us)) (0 ∷ []) ys)
    (e.0 u (kids cs ++ xs) (kids us ++ ys) ∙ ap (ordering_then (tree_order c u)) (kids-coded cs us e.1 xs ys)
    ∙ sym (then-assoc (tree_order c u) (slice_cmp tree_order cs us) (by_bytes xs ys)))

branch-coded : (l : Label) (cs : List Tree) → Each Coded cs → Coded (Branch l cs)
branch-coded l cs e = tree_cases (λ u. (xs ys : List ℕ)
    → by_bytes (code (Branch l cs) ++ xs) (code u ++ ys) ≡ ordering_then (tree_order (Branch l cs) u) (by_bytes xs ys))
    (λ b xs ys. rw (code-Branch l cs, code-Leaf b, order-Branch-Leaf l cs b) refl)
    (λ k us xs ys. rw (code-Branch l cs, code-Branch k us, order-Branch-Branch l cs k us)
    (ap (ordering_then (nat_cmp (label_number l) (label_number k))) (kids-coded cs us e xs ys)
    ∙ sym (then-assoc (nat_cmp (label_number l) (label_number k)) (slice_cmp tree_order cs us) (by_bytes xs ys))))

coded : (t : Tree) → Coded t
coded = tree_induction Coded leaf-coded branch-coded

then-Equal : (o : Ordering) → ordering_then o Equal ≡ o
then-Equal Less = refl
then-Equal Equal = refl
then-Equal Greater = refl

append-nil : (xs : List ℕ) → xs ++ [] ≡ xs
append-nil [] = refl
append-nil (x ∷ xs) = ap (λ ys. x ∷ ys) (append-nil xs)

-- trees are ordered as their codes
as_codes : (t u : Tree) → on code by_bytes t u ≡ tree_order t u
as_codes t u = rw (sym (append-nil (code t)), sym (append-nil (code u))) (coded t u [] [] ∙ then-Equal (tree_order t u))

pub tree_order_total : IsTotalOrder tree_order
tree_order_total = subst IsTotalOrder (λ i t u. as_codes t u i) (on_total code nat_list_cmp_total)

is_eq-then : (a b : Ordering) → is_eq (ordering_then a b) ≡ (is_eq a && is_eq b)
is_eq-then Less b = refl
is_eq-then Equal b = refl
is_eq-then Greater b = refl

is_eq-nat : (m n : ℕ) → is_eq (nat_cmp m n) ≡ eqb m n
is_eq-nat m n = grind (arith, nat_tests)

is_eq-bytes : (xs ys : List ℕ) → is_eq (by_bytes xs ys) ≡ same_bytes xs ys
is_eq-bytes [] [] = refl
is_eq-bytes [] (y ∷ ys) = refl
is_eq-bytes (x ∷ xs) [] = refl
is_eq-bytes (x ∷ xs) (y ∷ ys) = rw (is_eq-then (nat_cmp x y) (by_bytes xs ys), is_eq-nat x y) (ap (λ b. eqb x y && b) (is_eq-bytes xs ys))

is_eq-token : (a b : Token) → is_eq (token_order a b) ≡ same_token a b
is_eq-token a b =
    rw (
      is_eq-then (nat_cmp (kind_number a.kind) (kind_number b.kind)) (by_bytes a.text b.text),
      is_eq-nat (kind_number a.kind) (kind_number b.kind),
      is_eq-bytes a.text b.text,
    ) refl

abbrev Tied : Tree → Type 0
Tied t = (u : Tree) → is_eq (tree_order t u) ≡ same_tree t u

kids-tied : (cs us : List Tree) → Each Tied cs → is_eq (slice_cmp tree_order cs us) ≡ all_pass (map same_tree cs) us
kids-tied [] [] e = refl
kids-tied [] (u ∷ us) e = refl
kids-tied (c ∷ cs) [] e = refl
kids-tied (c ∷ cs) (u ∷ us) e = rw (is_eq-then (tree_order c u) (slice_cmp tree_order cs us), e.0 u, kids-tied cs us e.1) refl

branch-tied : (l : Label) (cs : List Tree) → Each Tied cs → (k : Label) (us : List Tree)
    → is_eq (tree_order (Branch l cs) (Branch k us)) ≡ same_tree (Branch l cs) (Branch k us)
branch-tied l cs e k us =
    rw (
      order-Branch-Branch l cs k us,
      same-Branch-Branch l cs k us,
      is_eq-then (nat_cmp (label_number l) (label_number k)) (slice_cmp tree_order cs us),
      is_eq-nat (label_number l) (label_number k),
      kids-tied cs us e,
    ) refl

-- the terms that the order makes equal are the same
pub is_eq-tree_order : (t u : Tree) → is_eq (tree_order t u) ≡ same_tree t u
is_eq-tree_order = tree_induction Tied
    (λ a. tree_cases (λ u. is_eq (tree_order (Leaf a) u) ≡ same_tree (Leaf a) u)
    (λ b. rw (order-Leaf-Leaf a b, same-Leaf-Leaf a b) (is_eq-token a b))
    (λ k us. rw (order-Leaf-Branch a k us, same-Leaf-Branch a k us) refl))
    (λ l cs e. tree_cases (λ u. is_eq (tree_order (Branch l cs) u) ≡ same_tree (Branch l cs) u)
    (λ b. rw (order-Branch-Leaf l cs b, same-Branch-Leaf l cs b) refl)
    (λ k us. branch-tied l cs e k us))

is_eq-Equal : (o : Ordering) → is_eq o ≡ true → o ≡ Equal
is_eq-Equal Less h = absurd (cc)
is_eq-Equal Equal h = refl
is_eq-Equal Greater h = absurd (cc)

pub order-same : (t u : Tree) → (tree_order t u ≡ Equal) ↔ (same_tree t u ≡ true)
order-same t u = (λ e. sym (is_eq-tree_order t u) ∙ ap is_eq e, λ h. is_eq-Equal (tree_order t u) (is_eq-tree_order t u ∙ h))

le-or-reverse : (o p : Ordering) → o ≡ ordering_reverse p → (is_le o || is_le p) ≡ true
le-or-reverse Less p e = refl
le-or-reverse Equal p e = refl
le-or-reverse Greater Less e = refl
le-or-reverse Greater Equal e = absurd (cc)
le-or-reverse Greater Greater e = absurd (cc)

pub either_way : (t u : Tree) → (is_le (tree_order t u) || is_le (tree_order u t)) ≡ true
either_way t u = le-or-reverse (tree_order t u) (tree_order u t) (tree_order_total.antisymm t u)
