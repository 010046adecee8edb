-- Patterns and sequences of the parts of a tree, as the code goes over its children.
use Rattle.std.proofs.Common.{◌≡◌, ℕ, suc, ◌+◌, ◌-◌, ◌≤◌, get_or, refl, sym, ap, ◌∙◌, arith, List, [], ◌∷◌, ◌++◌, length, append_assoc, true, false}
use Rattle.std.proofs.lemmas.List.{append-nil}
use Rattle.c_terms.specs.declared.label.Label.{Label}
use Rattle.c_terms.specs.declared.tree.Tree.{Tree}
use Rattle.c_terms.specs.Trees.{join}
use Rattle.smpl_patch.specs.declared.elem.Dots.{Dots}
use Rattle.smpl_patch.specs.declared.elem.Elem.{Elem}
use Rattle.smpl_body.specs.declared.smpl_elem.form.Form.{Form}
use Rattle.smpl_body.specs.SmplElem.Forms.{form_at, kids, label_at, is_part, before, after, last_kid}
use Rattle.smpl_body.specs.SmplElem.Elements.{Part, atoms, elements, total, seqs, made}
use Rattle.smpl_body.proofs.SmplElem.PartLemmas.{parts_from, parts, IsKid, parts-part, parts-other, parts-end, part-row}

pub join-last : (parts : List (List Elem)) (p : List Elem) → join (parts ++ p ∷ []) ≡ join parts ++ p
join-last [] p = append-nil p
join-last (q ∷ parts) p = ap (λ (l : List Elem). q ++ l) (join-last parts p) ∙ sym (append_assoc q (join parts) p)

module _ (f : Form) (l : Label) (t : Tree) where
  -- this many patterns, together with those of the remaining parts, are this many in total
  abbrev pub Counts : (count i all : ℕ) → Type 0
  Counts count i all = count + total (parts_from f l t i) ≡ all

  pub counts-part : (c : Tree) (count more i all : ℕ) → IsKid t i c → is_part f l (length (kids t)) i c ≡ true → more ≡ atoms c
      → Counts count i all → Counts (count + more) (i + 1) all
  counts-part c count more i all k h e inv =
      let s : total (parts_from f l t i) ≡ atoms c + total (parts_from f l t (i + 1)) = ap total (parts-part f l t c i k h) in
      omega (arith, s, e, inv)

  pub counts-other : (c : Tree) (count i all : ℕ) → IsKid t i c → is_part f l (length (kids t)) i c ≡ false
      → Counts count i all → Counts count (i + 1) all
  counts-other c count i all k h inv =
      let s : total (parts_from f l t i) ≡ total (parts_from f l t (i + 1)) = ap total (parts-other f l t c i k h) in
      omega (arith, s, inv)

  -- a part that is counted has no more patterns than all parts together
  pub counts-within : (c : Tree) (count i all : ℕ) → IsKid t i c → is_part f l (length (kids t)) i c ≡ true → Counts count i all
      → count + atoms c ≤ all
  counts-within c count i all k h inv =
      let s : total (parts_from f l t i) ≡ atoms c + total (parts_from f l t (i + 1)) = ap total (parts-part f l t c i k h) in
      omega (arith, s, inv)

  pub counts-end : (cs : List Tree) (count i all : ℕ) → cs ≡ kids t → length cs ≤ i → Counts count i all → count ≡ all
  counts-end cs count i all e h inv =
      let s : total (parts_from f l t i) ≡ 0 = ap total (parts-end f l t cs i e h) in
      omega (arith, s, inv)

  module _ (dots : ℕ → Dots) where
    -- these sequences, together with those of the remaining parts, are all
    abbrev pub Makes : (next i : ℕ) (made all : List (List Elem)) → Type 0
    Makes next i made all = made ++ seqs dots next (parts_from f l t i) ≡ all

    pub makes-part : (c : Tree) (next behind i : ℕ) (made more all : List (List Elem)) (elems : List Elem)
        → IsKid t i c → is_part f l (length (kids t)) i c ≡ true
        → elems ≡ elements dots next c → behind ≡ next + atoms c → more ≡ made ++ elems ∷ []
        → Makes next i made all → Makes behind (i + 1) more all
    makes-part c next behind i made more all elems k h e b m inv =
        rw (m, e, b) (append_assoc made (elements dots next c ∷ []) (seqs dots (next + atoms c) (parts_from f l t (i + 1)))
        ∙ ap (λ ps. made ++ seqs dots next ps) (sym (parts-part f l t c i k h)) ∙ inv)

    pub makes-other : (c : Tree) (next i : ℕ) (made all : List (List Elem)) → IsKid t i c → is_part f l (length (kids t)) i c ≡ false
        → Makes next i made all → Makes next (i + 1) made all
    makes-other c next i made all k h inv = ap (λ ps. made ++ seqs dots next ps) (sym (parts-other f l t c i k h)) ∙ inv

    pub makes-end : (cs : List Tree) (next i : ℕ) (made all : List (List Elem)) → cs ≡ kids t → length cs ≤ i → Makes next i made all → made ≡ all
    makes-end cs next i made all e h inv =
        sym (ap (λ ps. made ++ seqs dots next ps) (parts-end f l t cs i e h) ∙ append-nil made) ∙ inv

-- the number of patterns in a tree
pub atoms-row : (t : Tree) → atoms t ≡ before (form_at t) + total (parts t) + after (form_at t)
atoms-row t = ap (λ (p : Part). p.atoms) (part-row t)

-- the elements of a tree
pub elements-row : (t : Tree) (dots : ℕ → Dots) (n : ℕ) → elements dots n t
    ≡ made (form_at t) dots t n (seqs dots (n + before (form_at t)) (parts t)) (n + before (form_at t) + total (parts t))
elements-row t dots n = ap (λ (p : Part). p.seq dots n) (part-row t)

-- as the code has counted them
all-atoms : (t : Tree) (f : Form) (l : Label) → f ≡ form_at t → l ≡ label_at t → before f + total (parts_from f l t 0) + after f ≡ atoms t
all-atoms t f l ef el = (λ i. before (ef i) + total (parts_from (ef i) (el i) t 0) + after (ef i)) ∙ sym (atoms-row t)

pub atoms-done : (t : Tree) (f : Form) (l : Label) (count behind : ℕ) → f ≡ form_at t → l ≡ label_at t
    → count ≡ before f + total (parts_from f l t 0) → behind ≡ after f → count + behind ≡ atoms t
atoms-done t f l count behind ef el ec eb = let a = all-atoms t f l ef el in omega (arith, a, ec, eb)

-- the patterns before its own last one are no more than all
pub atoms-within : (t : Tree) (f : Form) (l : Label) → f ≡ form_at t → l ≡ label_at t → before f + total (parts_from f l t 0) ≤ atoms t
atoms-within t f l ef el = let a = all-atoms t f l ef el in omega (arith, a)

pub next-done : (t : Tree) (f : Form) (l : Label) (first next : ℕ) → f ≡ form_at t → l ≡ label_at t
    → next ≡ first + before f + total (parts_from f l t 0) → next + after f ≡ first + atoms t
next-done t f l first next ef el en = let a = all-atoms t f l ef el in omega (arith, a, en)

pub elements-done : (t : Tree) (dots : ℕ → Dots) (f : Form) (l : Label) (first next : ℕ) (parts' : List (List Elem)) → f ≡ form_at t → l ≡ label_at t
    → next ≡ first + before f + total (parts_from f l t 0) → parts' ≡ seqs dots (first + before f) (parts_from f l t 0)
    → made f dots t first parts' next ≡ elements dots first t
elements-done t dots f l first next parts' ef el en ep =
    (λ i. made f dots t first (ep i) (en i))
    ∙ ((λ i. made (ef i) dots t first (seqs dots (first + before (ef i)) (parts_from (ef i) (el i) t 0))
    (first + before (ef i) + total (parts_from (ef i) (el i) t 0)))
    ∙ sym (elements-row t dots first))

-- the last of the children
pub last-at : (ts : List Tree) (d : Tree) → 1 ≤ length ts → get_or ts (length ts - 1) d ≡ last_kid ts
last-at [] d h = absurd (omega (arith, h))
last-at (t ∷ []) d h = refl
last-at (t ∷ u ∷ ts) d h =
    let e : suc (suc (length ts)) - 1 ≡ suc (suc (length ts) - 1) = omega arith in
    ap (λ n. get_or (t ∷ u ∷ ts) n d) e ∙ last-at (u ∷ ts) d (omega arith)
