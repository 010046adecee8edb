-- Two trees are the same exactly when they are equal without their ids.
use Rattle.std.proofs.Common.{◌≡◌, ℕ, true, ◌&&◌, refl, sym, ap, ◌∙◌, arith, List, [], ◌∷◌, map}
use Rattle.std.proofs.lemmas.Bool.Decides.{nat_tests}
use Rattle.std.proofs.lemmas.Grind.{common_steps}
use Rattle.c_terms.specs.declared.token.Token.{Token}
use Rattle.c_terms.specs.declared.label.Label.{Label}
use Rattle.c_terms.specs.declared.tree.Tree.{Tree}
use Rattle.c_terms.specs.declared.tree.Tree.TheVariants.{Leaf, Branch, rolls-Leaf, rolls-Branch}
use Rattle.c_terms.specs.declared.tree.Tree.TheFolds.{fold-roll-Tree}
use Rattle.c_terms.specs.Numbers.{kind_number, label_number}
use Rattle.c_terms.specs.Bare.{bare, bare_step}
use Rattle.c_terms.specs.Same.{same_tree, same_token, same_label, same_bytes, all_pass}
use Rattle.c_terms.proofs.NumberLaws.{kind_number-injective, label_number-injective}
use Rattle.c_terms.proofs.SameLemmas.{same-Leaf-Leaf, same-Leaf-Branch, same-Branch-Leaf, same-Branch-Branch}
use Rattle.c_terms.proofs.SameLaws.{tree-along, bytes-refl, label-refl, both}
use Rattle.c_terms.proofs.Induct.{Each, tree_induction, tree_cases}

abbrev bare_token : Token → Token
bare_token a = record a { id = 0 }

pub bare-Leaf : (a : Token) → bare (Leaf a) ≡ Leaf (bare_token a)
bare-Leaf a = ap bare (sym (rolls-Leaf a)) ∙ fold-roll-Tree Tree bare_step _

pub bare-Branch : (l : Label) (cs : List Tree) → bare (Branch l cs) ≡ Branch l (map bare cs)
bare-Branch l cs = ap bare (sym (rolls-Branch l cs)) ∙ fold-roll-Tree Tree bare_step _

pub same_bytes-equal : (xs ys : List ℕ) → same_bytes xs ys ≡ true → xs ≡ ys
same_bytes-equal [] [] h = refl
same_bytes-equal [] (y ∷ ys) h = absurd (cc)
same_bytes-equal (x ∷ xs) [] h = absurd (cc)
same_bytes-equal (x ∷ xs) (y ∷ ys) h =
    let e : x ≡ y = grind (arith, nat_tests, common_steps) in
    let t : same_bytes xs ys ≡ true = grind (arith, common_steps) in
    let r = same_bytes-equal xs ys t in cc

token-bare : (a b : Token) → same_token a b ≡ true → bare_token a ≡ bare_token b
token-bare a b h =
    let n : kind_number a.kind ≡ kind_number b.kind = grind (arith, nat_tests, common_steps) in
    let t : same_bytes a.text b.text ≡ true = grind (arith, common_steps) in
    let k = kind_number-injective a.kind b.kind n in
    let e = same_bytes-equal a.text b.text t in cc

abbrev SameBare : Tree → Type 0
SameBare t = (u : Tree) → same_tree t u ≡ true → bare t ≡ bare u

kids-bare : (cs us : List Tree) → Each SameBare cs → all_pass (map same_tree cs) us ≡ true → map bare cs ≡ map bare us
kids-bare [] [] e h = refl
kids-bare [] (u ∷ us) e h = absurd (cc)
kids-bare (c ∷ cs) [] e h = absurd (cc)
kids-bare (c ∷ cs) (u ∷ us) e h =
    let a : same_tree c u ≡ true = grind (arith, common_steps) in
    let b : all_pass (map same_tree cs) us ≡ true = grind (arith, common_steps) in
    let p = e.0 u a in let q = kids-bare cs us e.1 b in cc

branch-bare : (l : Label) (cs : List Tree) → Each SameBare cs → (k : Label) (us : List Tree)
    → same_tree (Branch l cs) (Branch k us) ≡ true → bare (Branch l cs) ≡ bare (Branch k us)
branch-bare l cs e k us h =
    let m : (same_label l k && all_pass (map same_tree cs) us) ≡ true = sym (same-Branch-Branch l cs k us) ∙ h in
    let a : label_number l ≡ label_number k = grind (arith, nat_tests, common_steps) in
    let b : all_pass (map same_tree cs) us ≡ true = grind (arith, common_steps) in
    let n = label_number-injective l k a in
    let p = kids-bare cs us e b in
    let q = bare-Branch l cs in let r = bare-Branch k us in cc

pub same-bare : (t : Tree) → SameBare t
same-bare = tree_induction SameBare
    (λ a. tree_cases (λ u. same_tree (Leaf a) u ≡ true → bare (Leaf a) ≡ bare u)
    (λ b h. bare-Leaf a ∙ ap Leaf (token-bare a b (sym (same-Leaf-Leaf a b) ∙ h)) ∙ sym (bare-Leaf b))
    (λ k us h. let f = same-Leaf-Branch a k us in absurd (cc)))
    (λ l cs e. tree_cases (λ u. same_tree (Branch l cs) u ≡ true → bare (Branch l cs) ≡ bare u)
    (λ b h. let f = same-Branch-Leaf l cs b in absurd (cc))
    (λ k us h. branch-bare l cs e k us h))

-- a tree is the same as itself without its ids
kids-self : (cs : List Tree) → Each (λ t. same_tree t (bare t) ≡ true) cs → all_pass (map same_tree cs) (map bare cs) ≡ true
kids-self [] e = refl
kids-self (c ∷ cs) e = both (same_tree c (bare c)) (all_pass (map same_tree cs) (map bare cs)) e.0 (kids-self cs e.1)

token-self : (a : Token) → same_token a (bare_token a) ≡ true
token-self a = let h = bytes-refl a.text in grind (arith, nat_tests)

self-bare : (t : Tree) → same_tree t (bare t) ≡ true
self-bare = tree_induction (λ t. same_tree t (bare t) ≡ true)
    (λ a. rw (bare-Leaf a, same-Leaf-Leaf a (bare_token a)) (token-self a))
    (λ l cs e. rw (bare-Branch l cs, same-Branch-Branch l cs l (map bare cs))
    (both (same_label l l) (all_pass (map same_tree cs) (map bare cs)) (label-refl l) (kids-self cs e)))

pub bare-same : (t u : Tree) → bare t ≡ bare u → same_tree t u ≡ true
bare-same t u e =
    let a = self-bare t in
    let b = self-bare u in
    let f = tree-along u (bare u) b t in
    let g = ap (same_tree t) e in cc
