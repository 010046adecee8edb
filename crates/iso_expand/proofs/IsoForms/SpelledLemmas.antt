-- Two trees are the same exactly if they are spelled alike.
-- Proof: the beginning of a spelling determines its end, so a spelling followed by more can be read in only one way.
use Rattle.std.proofs.Common.{◌≡◌, ℕ, Bool, true, false, true≢false, ◌&&◌, List, [], ◌∷◌, ◌++◌, map, refl, sym, ap, ◌∙◌, append_assoc, arith}
use Rattle.std.proofs.lemmas.Bool.Decides.{nat_tests}
use Rattle.std.proofs.lemmas.Grind.{common_steps}
use Rattle.c_terms.specs.declared.token.Token.{Token}
use Rattle.c_terms.specs.declared.label.Label.{Label}
use Rattle.c_terms.specs.declared.tree.Tree.{Tree}
use Rattle.c_terms.specs.declared.tree.Tree.TheVariants.{Leaf, Branch, rolls-Leaf, rolls-Branch}
use Rattle.c_terms.specs.declared.tree.Tree.TheFolds.{fold-roll-Tree}
use Rattle.c_terms.specs.Same.{same_tree, same_token, same_label, all_pass, same_bytes, kind_number, label_number}
use Rattle.c_terms.proofs.SameLemmas.{same-Leaf-Leaf, same-Leaf-Branch, same-Branch-Leaf, same-Branch-Branch}
use Rattle.c_terms.proofs.SameLaws.{bytes-refl}
use Rattle.c_terms.proofs.BareLaws.{same_bytes-equal}
use Rattle.c_terms.proofs.Induct.{Each, tree_induction, tree_cases}
use Rattle.iso_expand.specs.IsoForms.Spelled.{spell_text, spell_all, spell_token, spell_step, spelled}

pub spelled-Leaf : (a : Token) → spelled (Leaf a) ≡ spell_token a
spelled-Leaf a = ap spelled (sym (rolls-Leaf a)) ∙ fold-roll-Tree (List ℕ) spell_step _

pub spelled-Branch : (l : Label) (cs : List Tree) → spelled (Branch l cs) ≡ 1 ∷ label_number l ∷ spell_all (map spelled cs)
spelled-Branch l cs = ap spelled (sym (rolls-Branch l cs)) ∙ fold-roll-Tree (List ℕ) spell_step _

heads : (a b : ℕ) (xs ys : List ℕ) → a ∷ xs ≡ b ∷ ys → a ≡ b
heads a b xs ys e = cc

tails : (a b : ℕ) (xs ys : List ℕ) → a ∷ xs ≡ b ∷ ys → xs ≡ ys
tails a b xs ys e = cc

one_zero : ◌≡◌ {A = ℕ} 0 1 → ⊥
one_zero h = omega (arith, h)

no_head : (xs ys : List ℕ) → 0 ∷ xs ≡ 1 ∷ ys → ⊥
no_head xs ys e = one_zero (heads 0 1 xs ys e)

text-parts : (xs ys r s : List ℕ) → spell_text xs ++ r ≡ spell_text ys ++ s → (same_bytes xs ys ≡ true) × (r ≡ s)
text-parts [] [] r s e = (refl, tails 0 0 r s e)
text-parts [] (y ∷ ys) r s e = absurd (no_head r (y ∷ (spell_text ys ++ s)) e)
text-parts (x ∷ xs) [] r s e = absurd (no_head s (x ∷ (spell_text xs ++ r)) (sym e))
text-parts (x ∷ xs) (y ∷ ys) r s e =
    let t = tails 1 1 (x ∷ (spell_text xs ++ r)) (y ∷ (spell_text ys ++ s)) e in
    let h : x ≡ y = heads x y (spell_text xs ++ r) (spell_text ys ++ s) t in
    let p = text-parts xs ys r s (tails x y (spell_text xs ++ r) (spell_text ys ++ s) t) in
    let q : same_bytes xs ys ≡ true = p.0 in
    (grind (arith, nat_tests), p.1)

token-parts : (a b : Token) (r s : List ℕ) → spell_token a ++ r ≡ spell_token b ++ s → (same_token a b ≡ true) × (r ≡ s)
token-parts a b r s e =
    let t = tails 0 0 (kind_number a.kind ∷ (spell_text a.text ++ r)) (kind_number b.kind ∷ (spell_text b.text ++ s)) e in
    let h : kind_number a.kind ≡ kind_number b.kind = heads (kind_number a.kind) (kind_number b.kind) (spell_text a.text ++ r) (spell_text b.text ++ s) t in
    let p = text-parts a.text b.text r s (tails (kind_number a.kind) (kind_number b.kind) (spell_text a.text ++ r) (spell_text b.text ++ s) t) in
    let q : same_bytes a.text b.text ≡ true = p.0 in
    (grind (arith, nat_tests), p.1)

abbrev Parts : Tree → Type 0
Parts t = (u : Tree) (r s : List ℕ) → spelled t ++ r ≡ spelled u ++ s → (same_tree t u ≡ true) × (r ≡ s)

both_true : (a b : Bool) → a ≡ true → b ≡ true → a && b ≡ true
both_true true b h k = k
both_true false b h k = absurd (true≢false (sym h))

all-parts : (cs us : List Tree) → Each Parts cs → (r s : List ℕ) → spell_all (map spelled cs) ++ r ≡ spell_all (map spelled us) ++ s
    → (all_pass (map same_tree cs) us ≡ true) × (r ≡ s)
all-parts [] [] each r s e = (refl, tails 0 0 r s e)
all-parts [] (u ∷ us) each r s e = absurd (no_head r ((spelled u ++ spell_all (map spelled us)) ++ s) e)
all-parts (c ∷ cs) [] each r s e = absurd (no_head s ((spelled c ++ spell_all (map spelled cs)) ++ r) (sym e))
all-parts (c ∷ cs) (u ∷ us) each r s e =
    let t = tails 1 1 ((spelled c ++ spell_all (map spelled cs)) ++ r) ((spelled u ++ spell_all (map spelled us)) ++ s) e in
    let a : spelled c ++ (spell_all (map spelled cs) ++ r) ≡ spelled u ++ (spell_all (map spelled us) ++ s) =
    sym (append_assoc (spelled c) (spell_all (map spelled cs)) r) ∙ t ∙ append_assoc (spelled u) (spell_all (map spelled us)) s in
    let p = each.0 u (spell_all (map spelled cs) ++ r) (spell_all (map spelled us) ++ s) a in
    let q = all-parts cs us each.1 r s p.1 in
    (both_true (same_tree c u) (all_pass (map same_tree cs) us) p.0 q.0, q.1)

label-parts : (l k : Label) → label_number l ≡ label_number k → same_label l k ≡ true
label-parts l k e = grind (arith, nat_tests)

branch-parts : (l : Label) (cs : List Tree) → Each Parts cs → (k : Label) (us : List Tree) (r s : List ℕ)
    → spelled (Branch l cs) ++ r ≡ spelled (Branch k us) ++ s → (same_tree (Branch l cs) (Branch k us) ≡ true) × (r ≡ s)
branch-parts l cs each k us r s e =
    let x = spell_all (map spelled cs) ++ r in
    let y = spell_all (map spelled us) ++ s in
    let f : 1 ∷ label_number l ∷ x ≡ 1 ∷ label_number k ∷ y =
    ap (λ (z : List ℕ). z ++ r) (sym (spelled-Branch l cs)) ∙ e ∙ ap (λ (z : List ℕ). z ++ s) (spelled-Branch k us) in
    let t = tails 1 1 (label_number l ∷ x) (label_number k ∷ y) f in
    let h = heads (label_number l) (label_number k) x y t in
    let p = all-parts cs us each r s (tails (label_number l) (label_number k) x y t) in
    (same-Branch-Branch l cs k us ∙ both_true (same_label l k) (all_pass (map same_tree cs) us) (label-parts l k h) p.0, p.1)

leaf-branch : (a : Token) (k : Label) (us : List Tree) (r s : List ℕ) → spelled (Leaf a) ++ r ≡ spelled (Branch k us) ++ s → ⊥
leaf-branch a k us r s e =
    no_head (kind_number a.kind ∷ (spell_text a.text ++ r)) (label_number k ∷ (spell_all (map spelled us) ++ s))
    (ap (λ (z : List ℕ). z ++ r) (sym (spelled-Leaf a)) ∙ e ∙ ap (λ (z : List ℕ). z ++ s) (spelled-Branch k us))

parts : (t : Tree) → Parts t
parts = tree_induction Parts
    (λ a. tree_cases (λ u. (r s : List ℕ) → spelled (Leaf a) ++ r ≡ spelled u ++ s → (same_tree (Leaf a) u ≡ true) × (r ≡ s))
    (λ b r s e.
    let p = token-parts a b r s (ap (λ (z : List ℕ). z ++ r) (sym (spelled-Leaf a)) ∙ e ∙ ap (λ (z : List ℕ). z ++ s) (spelled-Leaf b)) in
    (same-Leaf-Leaf a b ∙ p.0, p.1))
    (λ k us r s e. absurd (leaf-branch a k us r s e)))
    (λ l cs each. tree_cases (λ u. (r s : List ℕ) → spelled (Branch l cs) ++ r ≡ spelled u ++ s → (same_tree (Branch l cs) u ≡ true) × (r ≡ s))
    (λ b r s e. absurd (leaf-branch b l cs s r (sym e)))
    (λ k us r s e. branch-parts l cs each k us r s e))

alike : (t u : Tree) → spelled t ≡ spelled u → same_tree t u ≡ true
alike t u e = (parts t u [] [] (ap (λ (z : List ℕ). z ++ []) e)).0

-- ---- the other way

abbrev Spells : Tree → Type 0
Spells t = (u : Tree) → same_tree t u ≡ true → spelled t ≡ spelled u

all-spell : (cs us : List Tree) → Each Spells cs → all_pass (map same_tree cs) us ≡ true → spell_all (map spelled cs) ≡ spell_all (map spelled us)
all-spell [] [] each h = refl
all-spell [] (u ∷ us) each h = absurd (true≢false (sym h))
all-spell (c ∷ cs) [] each h = absurd (true≢false (sym h))
all-spell (c ∷ cs) (u ∷ us) each h =
    let a : same_tree c u ≡ true = grind (arith, common_steps) in
    let b : all_pass (map same_tree cs) us ≡ true = grind (arith, common_steps) in
    let p = each.0 u a in
    let q = all-spell cs us each.1 b in
    ap (λ (z : List ℕ). 1 ∷ (z ++ spell_all (map spelled cs))) p ∙ ap (λ (z : List ℕ). 1 ∷ (spelled u ++ z)) q

token-spells : (a b : Token) → same_token a b ≡ true → spell_token a ≡ spell_token b
token-spells a b h =
    let k : kind_number a.kind ≡ kind_number b.kind = grind (arith, nat_tests, common_steps) in
    let t : same_bytes a.text b.text ≡ true = grind (arith, common_steps) in
    let e : a.text ≡ b.text = same_bytes-equal a.text b.text t in
    ap (λ (n : ℕ). 0 ∷ n ∷ spell_text a.text) k ∙ ap (λ (z : List ℕ). 0 ∷ kind_number b.kind ∷ spell_text z) e

branch-spells : (l : Label) (cs : List Tree) → Each Spells cs → (k : Label) (us : List Tree) → same_tree (Branch l cs) (Branch k us) ≡ true
    → spelled (Branch l cs) ≡ spelled (Branch k us)
branch-spells l cs each k us h =
    let m : (same_label l k && all_pass (map same_tree cs) us) ≡ true = sym (same-Branch-Branch l cs k us) ∙ h in
    let a : label_number l ≡ label_number k = grind (arith, nat_tests, common_steps) in
    let b : all_pass (map same_tree cs) us ≡ true = grind (arith, common_steps) in
    let q = all-spell cs us each b in
    spelled-Branch l cs ∙ ap (λ (n : ℕ). 1 ∷ n ∷ spell_all (map spelled cs)) a ∙ ap (λ (z : List ℕ). 1 ∷ label_number k ∷ z) q ∙ sym (spelled-Branch k us)

spells : (t : Tree) → Spells t
spells = tree_induction Spells
    (λ a. tree_cases (λ u. same_tree (Leaf a) u ≡ true → spelled (Leaf a) ≡ spelled u)
    (λ b h. spelled-Leaf a ∙ token-spells a b (sym (same-Leaf-Leaf a b) ∙ h) ∙ sym (spelled-Leaf b))
    (λ k us h. absurd (true≢false (sym h ∙ same-Leaf-Branch a k us))))
    (λ l cs each. tree_cases (λ u. same_tree (Branch l cs) u ≡ true → spelled (Branch l cs) ≡ spelled u)
    (λ b h. absurd (true≢false (sym h ∙ same-Branch-Leaf l cs b)))
    (λ k us h. branch-spells l cs each k us h))

-- trees are spelled alike exactly if they are the same
pub spelled-same : (t u : Tree) → same_bytes (spelled t) (spelled u) ≡ same_tree t u
spelled-same t u = by (same_bytes (spelled t) (spelled u)) (same_tree t u) refl refl
  where
    by : (p q : Bool) → same_bytes (spelled t) (spelled u) ≡ p → same_tree t u ≡ q → p ≡ q
    by true true h k = refl
    by false false h k = refl
    by true false h k = absurd (true≢false (sym (alike t u (same_bytes-equal (spelled t) (spelled u) h)) ∙ k))
    by false true h k = absurd (true≢false (sym (ap (same_bytes (spelled t)) (sym (spells t u k)) ∙ bytes-refl (spelled t)) ∙ h))
