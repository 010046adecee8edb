-- The patterns of a tree's elements are numbered consecutively.
-- Proof: by induction on the tree. Its elements are made by its form from the sequences of those children that are parts;
-- each of these begins where the one before it ends.
use Rattle.std.proofs.Common.{◌≡◌, ℕ, zero, suc, ◌+◌, refl, sym, ap, ◌∙◌, subst, arith, List, [], ◌∷◌, ◌++◌, map, length}
use Rattle.std.proofs.Common.{append_assoc, Bool, true, false, if◌then◌else◌, Option, Some, None}
use Rattle.std.proofs.lemmas.List.{append-nil}
use Rattle.c_terms.specs.declared.label.Label.{Label}
use Rattle.c_terms.specs.declared.tree.Tree.{Tree}
use Rattle.c_terms.specs.declared.tree.Tree.TheVariants.{Leaf, Branch}
use Rattle.c_terms.specs.Trees.{join}
use Rattle.c_terms.proofs.Induct.{Each, tree_induction}
use Rattle.smpl_patch.specs.declared.pattern.Spot.TheVariants as spot
use Rattle.smpl_patch.specs.declared.pattern.Pattern.{Pattern}
use Rattle.smpl_patch.specs.declared.elem.Dots.{Dots}
use Rattle.smpl_patch.specs.declared.elem.Elem.{Elem}
use Rattle.smpl_patch.specs.declared.elem.Elem.TheVariants as elem
use Rattle.smpl_patch.specs.Bodies.{element, body}
use Rattle.smpl_patch.proofs.BodyLemmas.{bodies, element-Atom, element-Compound, element-Block, element-Gap, element-Nest, element-AnyOf, element-AllOf}
use Rattle.smpl_body.specs.declared.smpl_elem.form.Form.{Form}
use Rattle.smpl_body.specs.declared.smpl_elem.form.Form.TheVariants as form
use Rattle.smpl_body.specs.SmplElem.Forms.{form_at, kids, label_at, is_part, first_kid, last_kid, id_at, is_more, masked}
use Rattle.smpl_body.specs.SmplElem.Elements.{Part, part, row, picked, total, seqs, pattern}
use Rattle.smpl_body.proofs.SmplElem.PartLemmas.{parts, part-row, kids-Leaf, kids-Branch}
use Rattle.smpl_body.specs.Numbered.{element_numbers, numbers, each_numbers, numbers_from}

-- ---- numbers, one after another

from-append : (n a b : ℕ) → numbers_from n (a + b) ≡ numbers_from n a ++ numbers_from (n + a) b
from-append n zero b =
    let e : zero + b ≡ b = omega arith in
    let m : n ≡ n + zero = omega arith in
    ap (λ k. numbers_from n k) e ∙ ap (λ k. numbers_from k b) m
from-append n (suc a) b =
    let e : suc a + b ≡ suc (a + b) = omega arith in
    let m : n + 1 + a ≡ n + suc a = omega arith in
    ap (λ k. numbers_from n k) e
    ∙ (ap (λ l. n ∷ l) (from-append (n + 1) a b) ∙ ap (λ k. n ∷ numbers_from (n + 1) a ++ numbers_from k b) m)

body-append : (xs ys : List Elem) → numbers (body (xs ++ ys)) ≡ numbers (body xs) ++ numbers (body ys)
body-append [] ys = refl
body-append (x ∷ xs) ys =
    ap (λ l. element_numbers (element x) ++ l) (body-append xs ys) ∙ sym (append_assoc (element_numbers (element x)) (numbers (body xs)) (numbers (body ys)))

-- one element
alone : (x : Elem) → numbers (body (x ∷ [])) ≡ element_numbers (element x)
alone x = append-nil (element_numbers (element x))

-- ---- parts that are numbered

abbrev Good : Part → Type 0
Good p = (dots : ℕ → Dots) (n : ℕ) → numbers (body (p.seq dots n)) ≡ numbers_from n p.atoms

abbrev AllGood : List Part → Type 0
AllGood [] = Unit {0}
AllGood (p ∷ ps) = Good p × AllGood ps

module _ (dots : ℕ → Dots) where
  all-joined : (ps : List Part) (n : ℕ) → AllGood ps → numbers (body (join (seqs dots n ps))) ≡ numbers_from n (total ps)
  all-joined [] n g = refl
  all-joined (p ∷ ps) n g =
      let one = g.0 dots n in
      let more = all-joined ps (n + p.atoms) g.1 in
      body-append (p.seq dots n) (join (seqs dots (n + p.atoms) ps))
      ∙ ((λ i. one i ++ more i) ∙ sym (from-append n p.atoms (total ps)))

  all-each : (ps : List Part) (n : ℕ) → AllGood ps → each_numbers (bodies (seqs dots n ps)) ≡ numbers_from n (total ps)
  all-each [] n g = refl
  all-each (p ∷ ps) n g =
      let one = g.0 dots n in
      let more = all-each ps (n + p.atoms) g.1 in
      (λ i. one i ++ more i) ∙ sym (from-append n p.atoms (total ps))

-- ---- the forms

-- these have no parts
abbrev Bare : Form → Type 0
Bare f = (l : Label) (n i : ℕ) (c : Tree) → is_part f l n i c ≡ false

none-picked : (f : Form) (l : Label) (n i : ℕ) (ps : List Part) → Bare f → picked f l n i ps ≡ []
none-picked f l n i [] h = refl
none-picked f l n i (p ∷ ps) h = rw (h l n i p.tree) (none-picked f l n (i + 1) ps h)

with-part : (b : Bool) (p : Part) (ps : List Part) → Good p → AllGood ps → AllGood (if b then p ∷ ps else ps)
with-part true p ps g more = (g, more)
with-part false p ps g more = more

some-picked : (f : Form) (l : Label) (n i : ℕ) (ps : List Part) → AllGood ps → AllGood (picked f l n i ps)
some-picked f l n i [] g = tt
some-picked f l n i (p ∷ ps) g =
    with-part (is_part f l n i p.tree) p (picked f l n (i + 1) ps) g.0 (some-picked f l n (i + 1) ps g.1)

-- a row of a form whose parts are numbered, or that has no parts if the form has none
abbrev Parts : Form → List Part → Type 0
Parts form.Gap ps = ps ≡ []
Parts form.Expression ps = ps ≡ []
Parts form.Plain ps = ps ≡ []
Parts _ ps = AllGood ps

parts-good : (f : Form) (l : Label) (n : ℕ) (ps : List Part) → AllGood ps → Parts f (picked f l n 0 ps)
parts-good form.Gap l n ps g = none-picked form.Gap l n 0 ps (λ l n i c. refl)
parts-good form.Expression l n ps g = none-picked form.Expression l n 0 ps (λ l n i c. refl)
parts-good form.Plain l n ps g = none-picked form.Plain l n 0 ps (λ l n i c. refl)
parts-good form.List l n ps g = some-picked form.List l n 0 ps g
parts-good form.Block l n ps g = some-picked form.Block l n 0 ps g
parts-good form.Nest l n ps g = some-picked form.Nest l n 0 ps g
parts-good form.AnyOf l n ps g = some-picked form.AnyOf l n 0 ps g
parts-good form.AllOf l n ps g = some-picked form.AllOf l n 0 ps g
parts-good form.Head l n ps g = some-picked form.Head l n 0 ps g
parts-good form.Do l n ps g = some-picked form.Do l n 0 ps g

bare : (n : ℕ) (ps : List Part) → ps ≡ [] → numbers_from n (1 + total ps + 0) ≡ n ∷ []
bare n ps e = ap (λ qs. numbers_from n (1 + total qs + 0)) e

gone : (n : ℕ) (ps : List Part) → ps ≡ [] → numbers_from n (0 + total ps + 0) ≡ []
gone n ps e = ap (λ qs. numbers_from n (0 + total qs + 0)) e

-- this many in the parts alone; after one of its own; and with one more after them
inner-only : (n k : ℕ) → numbers_from (n + 0) k ≡ numbers_from n (0 + k + 0)
inner-only n k =
    let a : n + 0 ≡ n = omega arith in let b : k ≡ 0 + k + 0 = omega arith in λ i. numbers_from (a i) (b i)

first-then : (n k : ℕ) → n ∷ numbers_from (n + 1) k ≡ numbers_from n (1 + k + 0)
first-then n k = let b : suc k ≡ 1 + k + 0 = omega arith in ap (λ m. numbers_from n m) b

first-and-last : (n k : ℕ) → n ∷ numbers_from (n + 1) k ++ (n + 1 + k) ∷ [] ≡ numbers_from n (1 + k + 1)
first-and-last n k =
    let b : suc (k + 1) ≡ 1 + k + 1 = omega arith in
    ap (λ l. n ∷ l) (sym (from-append (n + 1) k 1)) ∙ ap (λ m. numbers_from n m) b

row-good : (f : Form) (t : Tree) (ps : List Part) → Parts f ps → Good (row f t ps)
row-good form.Gap t ps e dots n = alone (elem.Gap (dots (id_at t))) ∙ (ap element_numbers (element-Gap (dots (id_at t))) ∙ sym (gone n ps e))
row-good form.Expression t ps e dots n =
    let p = pattern n spot.Inside t in alone (elem.Atom p) ∙ (ap element_numbers (element-Atom p) ∙ sym (bare n ps e))
row-good form.Plain t ps e dots n =
    let p = pattern n spot.Whole t in alone (elem.Atom p) ∙ (ap element_numbers (element-Atom p) ∙ sym (bare n ps e))
row-good form.List t ps g dots n = all-joined dots ps (n + 0) g ∙ inner-only n (total ps)
row-good form.Block t ps g dots n =
    let m = n + 1 + total ps in
    let o = pattern n spot.Whole (first_kid (kids t)) in
    let c = pattern m spot.Whole (last_kid (kids t)) in
    let b = join (seqs dots (n + 1) ps) in
    alone (elem.Block o b c)
    ∙ (ap element_numbers (element-Block o b c) ∙ (ap (λ l. n ∷ l ++ m ∷ []) (all-joined dots ps (n + 1) g) ∙ first-and-last n (total ps)))
row-good form.Nest t ps g dots n =
    let d = dots (id_at (last_kid (kids t))) in
    let more = is_more (first_kid (kids t)) in
    let b = join (seqs dots (n + 0) ps) in
    alone (elem.Nest more b d) ∙ (ap element_numbers (element-Nest more b d) ∙ (all-joined dots ps (n + 0) g ∙ inner-only n (total ps)))
row-good form.AnyOf t ps g dots n =
    let bs = seqs dots (n + 0) ps in
    alone (elem.AnyOf bs) ∙ (ap element_numbers (element-AnyOf bs) ∙ (all-each dots ps (n + 0) g ∙ inner-only n (total ps)))
row-good form.AllOf t ps g dots n =
    let bs = seqs dots (n + 0) ps in
    alone (elem.AllOf bs) ∙ (ap element_numbers (element-AllOf bs) ∙ (all-each dots ps (n + 0) g ∙ inner-only n (total ps)))
row-good form.Head t ps g dots n =
    let h = pattern n spot.Whole (masked spot.Whole t) in
    let bs = seqs dots (n + 1) ps in
    let none : Option Pattern = None in
    alone (elem.Compound h bs none)
    ∙ (ap element_numbers (element-Compound h bs none)
    ∙ (ap (λ l. n ∷ l) (append-nil (each_numbers (bodies bs)) ∙ all-each dots ps (n + 1) g) ∙ first-then n (total ps)))
row-good form.Do t ps g dots n =
    let m = n + 1 + total ps in
    let h = pattern n spot.Whole (masked spot.Whole t) in
    let bs = seqs dots (n + 1) ps in
    let tail = pattern m spot.Tail (masked spot.Tail t) in
    alone (elem.Compound h bs (Some tail))
    ∙ (ap element_numbers (element-Compound h bs (Some tail))
    ∙ (ap (λ l. n ∷ l ++ m ∷ []) (all-each dots ps (n + 1) g) ∙ first-and-last n (total ps)))

-- ---- trees

abbrev Numbered : Tree → Type 0
Numbered t = Good (part t)

all-numbered : (cs : List Tree) → Each Numbered cs → AllGood (map part cs)
all-numbered [] e = tt
all-numbered (c ∷ cs) e = (e.0, all-numbered cs e.1)

with-kids : (t : Tree) (cs : List Tree) → kids t ≡ cs → AllGood (map part cs) → Numbered t
with-kids t cs k g =
    let all : AllGood (map part (kids t)) = subst (λ (ks : List Tree). AllGood (map part ks)) (sym k) g in
    subst Good (sym (part-row t)) (row-good (form_at t) t (parts t) (parts-good (form_at t) (label_at t) (length (kids t)) (map part (kids t)) all))

pub tree-numbered : (t : Tree) → Numbered t
tree-numbered = tree_induction Numbered
    (λ a. with-kids (Leaf a) [] (kids-Leaf a) tt)
    (λ l cs e. with-kids (Branch l cs) cs (kids-Branch l cs) (all-numbered cs e))
