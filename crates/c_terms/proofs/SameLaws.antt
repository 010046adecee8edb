-- `same_tree` is an equivalence.
use Rattle.std.proofs.Common.{◌≡◌, ℕ, Bool, true, false, ◌&&◌, refl, sym, ◌∙◌, arith, List, [], ◌∷◌, map}
use Rattle.std.proofs.lemmas.Bool.Decides.{nat_tests}
use Rattle.std.proofs.lemmas.Grind.{common_steps}
use Rattle.c_terms.specs.declared.token.Token.{Token}
use Rattle.c_terms.specs.declared.label.Label.{Label}
use Rattle.c_terms.specs.declared.tree.Tree.{Tree}
use Rattle.c_terms.specs.declared.tree.Tree.TheVariants.{Leaf, Branch}
use Rattle.c_terms.specs.Same.{same_tree, same_token, same_label, all_pass, same_bytes, kind_number, label_number}
use Rattle.c_terms.proofs.SameLemmas.{same-Leaf-Leaf, same-Leaf-Branch, same-Branch-Leaf, same-Branch-Branch}
use Rattle.c_terms.proofs.Induct.{Each, tree_induction, tree_cases}

pub bytes-refl : (xs : List ℕ) → same_bytes xs xs ≡ true
bytes-refl [] = refl
bytes-refl (x ∷ xs) = let h = bytes-refl xs in grind (arith, nat_tests)

token-refl : (a : Token) → same_token a a ≡ true
token-refl a = let h = bytes-refl a.text in grind (arith, nat_tests)

pub both : (a b : Bool) → a ≡ true → b ≡ true → (a && b) ≡ true
both true b h k = k
both false b h k = absurd (cc)

all-refl : (cs : List Tree) → Each (λ t. same_tree t t ≡ true) cs → all_pass (map same_tree cs) cs ≡ true
all-refl [] e = refl
all-refl (c ∷ cs) e = both (same_tree c c) (all_pass (map same_tree cs) cs) e.0 (all-refl cs e.1)

pub label-refl : (l : Label) → same_label l l ≡ true
label-refl l = grind (arith, nat_tests)

pub tree-refl : (t : Tree) → same_tree t t ≡ true
tree-refl = tree_induction (λ t. same_tree t t ≡ true) (λ a. same-Leaf-Leaf a a ∙ token-refl a)
    (λ l cs e. same-Branch-Branch l cs l cs ∙ both (same_label l l) (all_pass (map same_tree cs) cs) (label-refl l) (all-refl cs e))

pub bytes-sym : (xs ys : List ℕ) → same_bytes xs ys ≡ same_bytes ys xs
bytes-sym [] [] = refl
bytes-sym [] (y ∷ ys) = refl
bytes-sym (x ∷ xs) [] = refl
bytes-sym (x ∷ xs) (y ∷ ys) = let h = bytes-sym xs ys in grind (arith, nat_tests, common_steps)

token-sym : (a b : Token) → same_token a b ≡ same_token b a
token-sym a b = let h = bytes-sym a.text b.text in grind (arith, nat_tests, common_steps)

abbrev Swaps : Tree → Type 0
Swaps t = (u : Tree) → same_tree t u ≡ same_tree u t

all-sym : (cs us : List Tree) → Each Swaps cs → all_pass (map same_tree cs) us ≡ all_pass (map same_tree us) cs
all-sym [] [] e = refl
all-sym [] (u ∷ us) e = refl
all-sym (c ∷ cs) [] e = refl
all-sym (c ∷ cs) (u ∷ us) e = let h = e.0 u in let k = all-sym cs us e.1 in cc

label-sym : (l k : Label) → same_label l k ≡ same_label k l
label-sym l k = grind (arith, nat_tests, common_steps)

pub tree-sym : (t u : Tree) → same_tree t u ≡ same_tree u t
tree-sym = tree_induction Swaps
    (λ a. tree_cases (λ u. same_tree (Leaf a) u ≡ same_tree u (Leaf a))
    (λ b. same-Leaf-Leaf a b ∙ token-sym a b ∙ sym (same-Leaf-Leaf b a))
    (λ k us. same-Leaf-Branch a k us ∙ sym (same-Branch-Leaf k us a)))
    (λ l cs e. tree_cases (λ u. same_tree (Branch l cs) u ≡ same_tree u (Branch l cs))
    (λ b. same-Branch-Leaf l cs b ∙ sym (same-Leaf-Branch b l cs))
    (λ k us. let h = all-sym cs us e in let i = label-sym l k in let j = same-Branch-Branch l cs k us in let m = same-Branch-Branch k us l cs in cc))

pub bytes-along : (xs ys : List ℕ) → same_bytes xs ys ≡ true → (zs : List ℕ) → same_bytes xs zs ≡ same_bytes ys zs
bytes-along [] [] h zs = refl
bytes-along [] (y ∷ ys) h zs = absurd (cc)
bytes-along (x ∷ xs) [] h zs = absurd (cc)
bytes-along (x ∷ xs) (y ∷ ys) h [] = refl
bytes-along (x ∷ xs) (y ∷ ys) h (z ∷ zs) =
    let e : x ≡ y = grind (arith, nat_tests, common_steps) in
    let t : same_bytes xs ys ≡ true = grind (arith, common_steps) in
    let r = bytes-along xs ys t zs in cc

token-along : (a b : Token) → same_token a b ≡ true → (c : Token) → same_token a c ≡ same_token b c
token-along a b h c =
    let e : kind_number a.kind ≡ kind_number b.kind = grind (arith, nat_tests, common_steps) in
    let t : same_bytes a.text b.text ≡ true = grind (arith, common_steps) in
    let r = bytes-along a.text b.text t c.text in cc

abbrev Carries : Tree → Type 0
Carries t = (u : Tree) → same_tree t u ≡ true → (x : Tree) → same_tree t x ≡ same_tree u x

all-along : (cs us : List Tree) → Each Carries cs → all_pass (map same_tree cs) us ≡ true → (xs : List Tree)
    → all_pass (map same_tree cs) xs ≡ all_pass (map same_tree us) xs
all-along [] [] e h xs = refl
all-along [] (u ∷ us) e h xs = absurd (cc)
all-along (c ∷ cs) [] e h xs = absurd (cc)
all-along (c ∷ cs) (u ∷ us) e h [] = refl
all-along (c ∷ cs) (u ∷ us) e h (x ∷ xs) =
    let a : same_tree c u ≡ true = grind (arith, common_steps) in
    let b : all_pass (map same_tree cs) us ≡ true = grind (arith, common_steps) in
    let p = e.0 u a x in let q = all-along cs us e.1 b xs in cc

branch-along : (l : Label) (cs : List Tree) → Each Carries cs → (k : Label) (us : List Tree) → same_tree (Branch l cs) (Branch k us) ≡ true
    → (x : Tree) → same_tree (Branch l cs) x ≡ same_tree (Branch k us) x
branch-along l cs e k us h =
    let m : (same_label l k && all_pass (map same_tree cs) us) ≡ true = sym (same-Branch-Branch l cs k us) ∙ h in
    let a : label_number l ≡ label_number k = grind (arith, nat_tests, common_steps) in
    let b : all_pass (map same_tree cs) us ≡ true = grind (arith, common_steps) in
    tree_cases (λ x. same_tree (Branch l cs) x ≡ same_tree (Branch k us) x)
    (λ c. same-Branch-Leaf l cs c ∙ sym (same-Branch-Leaf k us c))
    (λ j xs. let r = all-along cs us e b xs in let p = same-Branch-Branch l cs j xs in let q = same-Branch-Branch k us j xs in cc)

leaf-along : (a b : Token) → same_tree (Leaf a) (Leaf b) ≡ true → (x : Tree) → same_tree (Leaf a) x ≡ same_tree (Leaf b) x
leaf-along a b h =
    let m = sym (same-Leaf-Leaf a b) ∙ h in
    tree_cases (λ x. same_tree (Leaf a) x ≡ same_tree (Leaf b) x)
    (λ c. same-Leaf-Leaf a c ∙ token-along a b m c ∙ sym (same-Leaf-Leaf b c))
    (λ k us. same-Leaf-Branch a k us ∙ sym (same-Leaf-Branch b k us))

carries : (t : Tree) → Carries t
carries = tree_induction Carries
    (λ a. tree_cases (λ u. same_tree (Leaf a) u ≡ true → (x : Tree) → same_tree (Leaf a) x ≡ same_tree u x)
    (λ b h. leaf-along a b h)
    (λ k us h. let f = same-Leaf-Branch a k us in absurd (cc)))
    (λ l cs e. tree_cases (λ u. same_tree (Branch l cs) u ≡ true → (x : Tree) → same_tree (Branch l cs) x ≡ same_tree u x)
    (λ b h. let f = same-Branch-Leaf l cs b in absurd (cc))
    (λ k us h. branch-along l cs e k us h))

pub tree-along : (t u : Tree) → same_tree t u ≡ true → (x : Tree) → same_tree x t ≡ same_tree x u
tree-along t u h x = tree-sym x t ∙ carries t u h x ∙ tree-sym u x
