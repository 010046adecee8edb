-- What a tree is as a part of a body, one level at a time.
use Rattle.std.proofs.Common.{◌≡◌, ℕ, zero, suc, ◌+◌, ◌<◌, ◌≤◌, refl, sym, ap, ◌∙◌, arith, List, [], ◌∷◌, map, length, drop}
use Rattle.std.proofs.Common.{get_or, Bool, true, false, drop-cons}
use Rattle.std.proofs.lemmas.List.{length-map}
use Rattle.c_terms.specs.declared.token.Token.{Token}
use Rattle.c_terms.specs.declared.label.Label.{Label}
use Rattle.c_terms.specs.declared.tree.Tree.{Tree}
use Rattle.c_terms.specs.declared.tree.Tree.TheOpen.{Tree-F}
use Rattle.c_terms.specs.declared.tree.Tree.TheVariants.{Leaf, Branch, rolls-Leaf, rolls-Branch}
use Rattle.c_terms.specs.declared.tree.Tree.TheFolds.{fold-roll-Tree}
use Rattle.c_terms.specs.Trees.{levels}
use Rattle.c_terms.proofs.Induct.{Each, tree_induction, tree_cases}
use Rattle.c_terms.proofs.SameLemmas.{out-Leaf, out-Branch}
use Rattle.c_terms.proofs.TreeLemmas.{levels-Branch, greatest-at}
use Rattle.smpl_body.specs.declared.smpl_elem.form.Form.{Form}
use Rattle.smpl_body.specs.SmplElem.Forms.{form_at, kids, kids_in, label_at, is_part}
use Rattle.smpl_body.specs.SmplElem.Elements.{Part, part, part_step, row, row_of, picked}

pub kids-Leaf : (a : Token) → kids (Leaf a) ≡ []
kids-Leaf a = ap kids_in (out-Leaf a)

pub kids-Branch : (l : Label) (cs : List Tree) → kids (Branch l cs) ≡ cs
kids-Branch l cs = ap kids_in (out-Branch l cs)

at_leaf : (a : Token) → part (Leaf a) ≡ part_step (Tree-F.Leaf a)
at_leaf a = ap part (sym (rolls-Leaf a)) ∙ fold-roll-Tree Part part_step _

at_branch : (l : Label) (cs : List Tree) → part (Branch l cs) ≡ part_step (Tree-F.Branch l (map part cs))
at_branch l cs = ap part (sym (rolls-Branch l cs)) ∙ fold-roll-Tree Part part_step _

abbrev Keeps : Tree → Type 0
Keeps t = (part t).tree ≡ t

kids-kept : (cs : List Tree) → Each Keeps cs → map (λ (p : Part). p.tree) (map part cs) ≡ cs
kids-kept [] e = refl
kids-kept (c ∷ cs) e = let h = e.0 in let r = kids-kept cs e.1 in cc

-- a part keeps its tree
pub part-tree : (t : Tree) → (part t).tree ≡ t
part-tree = tree_induction Keeps
    (λ a. ap (λ p. p.tree) (at_leaf a))
    (λ l cs e. ap (λ p. p.tree) (at_branch l cs) ∙ ap (Branch l) (kids-kept cs e))

all-kept : (cs : List Tree) → map (λ (p : Part). p.tree) (map part cs) ≡ cs
all-kept [] = refl
all-kept (c ∷ cs) = let h = part-tree c in let r = all-kept cs in cc

abbrev the_nil : List Tree
the_nil = []

-- the parts of a tree from child i on, and all
abbrev pub parts_from : Form → Label → Tree → ℕ → List Part
parts_from f l t i = picked f l (length (kids t)) i (map part (drop i (kids t)))

abbrev pub parts : Tree → List Part
parts t = parts_from (form_at t) (label_at t) t 0

row-Leaf : (a : Token) → row_of (Leaf a) [] ≡ row (form_at (Leaf a)) (Leaf a) (parts (Leaf a))
row-Leaf a =
    let k : the_nil ≡ kids (Leaf a) = sym (kids-Leaf a) in
    λ i. row (form_at (Leaf a)) (Leaf a) (picked (form_at (Leaf a)) (label_at (Leaf a)) (length (k i)) 0 (map part (k i)))

row-Branch : (l : Label) (cs : List Tree)
    → row_of (Branch l (map (λ (p : Part). p.tree) (map part cs))) (map part cs) ≡ row (form_at (Branch l cs)) (Branch l cs) (parts (Branch l cs))
row-Branch l cs =
    let k = all-kept cs in
    let ks : cs ≡ kids (Branch l cs) = sym (kids-Branch l cs) in
    let n : length (map part cs) ≡ length (kids (Branch l cs)) = length-map cs part ∙ ap length ks in
    λ i. row (form_at (Branch l (k i))) (Branch l (k i)) (picked (form_at (Branch l (k i))) (label_at (Branch l (k i))) (n i) 0 (map part (ks i)))

-- a tree is a row of its form and its parts
pub part-row : (t : Tree) → part t ≡ row (form_at t) t (parts t)
part-row = tree_cases (λ t. part t ≡ row (form_at t) t (parts t))
    (λ a. at_leaf a ∙ row-Leaf a)
    (λ l cs. at_branch l cs ∙ row-Branch l cs)

-- ---- children

drop-all : {A : Type 0} (n : ℕ) (xs : List A) → length xs ≤ n → drop n xs ≡ []
drop-all zero [] h = refl
drop-all zero (x ∷ xs) h = absurd (omega (arith, h))
drop-all (suc n) [] h = refl
drop-all (suc n) (x ∷ xs) h = drop-all n xs (omega (arith, h))

-- c is child i of t
pub record IsKid (t : Tree) (i : ℕ) (c : Tree) : Type 0 where
  pub within : i < length (kids t)
  pub is : c ≡ get_or (kids t) i c

pub is_kid : (t c : Tree) (cs : List Tree) (i : ℕ) → cs ≡ kids t → i < length cs → c ≡ get_or cs i c → IsKid t i c
is_kid t c cs i e lt h = record { within = rw e at lt; is = rw e at h }

kid-drop : (t c : Tree) (i : ℕ) → IsKid t i c → drop i (kids t) ≡ c ∷ drop (i + 1) (kids t)
kid-drop t c i k =
    let one : i + 1 ≡ suc i = omega arith in
    rw one (drop-cons (kids t) i c k.within ∙ ap (λ x. x ∷ drop (suc i) (kids t)) (sym k.is))

-- whether child i is a part, as the code finds it
pub kid_part : (f : Form) (l : Label) (t c : Tree) (cs : List Tree) (i : ℕ) (b v : Bool) → cs ≡ kids t → b ≡ is_part f l (length cs) i c → b ≡ v
    → is_part f l (length (kids t)) i c ≡ v
kid_part f l t c cs i b v e h g = ap (λ n. is_part f l n i c) (sym (ap length e)) ∙ sym h ∙ g

pub parts-part : (f : Form) (l : Label) (t c : Tree) (i : ℕ) → IsKid t i c → is_part f l (length (kids t)) i c ≡ true
    → parts_from f l t i ≡ part c ∷ parts_from f l t (i + 1)
parts-part f l t c i k h = rw (kid-drop t c i k, part-tree c, h) refl

pub parts-other : (f : Form) (l : Label) (t c : Tree) (i : ℕ) → IsKid t i c → is_part f l (length (kids t)) i c ≡ false
    → parts_from f l t i ≡ parts_from f l t (i + 1)
parts-other f l t c i k h = rw (kid-drop t c i k, part-tree c, h) refl

-- no part is left past the children
pub parts-end : (f : Form) (l : Label) (t : Tree) (cs : List Tree) (i : ℕ) → cs ≡ kids t → length cs ≤ i → parts_from f l t i ≡ []
parts-end f l t cs i e h =
    let past : length (kids t) ≤ i = rw e at h in
    rw (drop-all i (kids t) past) refl

abbrev KidLevels : Tree → Type 0
KidLevels t = (c : Tree) (i : ℕ) → IsKid t i c → levels c < levels t

-- a child has fewer levels
pub kid-levels : (t : Tree) → KidLevels t
kid-levels = tree_cases KidLevels
    (λ a c i h. let no : length (kids (Leaf a)) ≡ 0 = ap length (kids-Leaf a) in absurd (omega (arith, no, h.within)))
    (λ l cs c i h.
    let k = kids-Branch l cs in
    let lt' = rw k at h.within in let e' = rw k at h.is in
    let g = greatest-at levels cs i c lt' e' in let b = levels-Branch l cs in omega (arith, g, b))
