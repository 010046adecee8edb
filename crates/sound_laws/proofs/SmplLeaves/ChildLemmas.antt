-- The children that are parts have their tokens; the others are the element's own, or signs.
use Rattle.std.proofs.Common.{◌≡◌, ℕ, suc, ◌+◌, ◌≤◌, refl, sym, ap, ◌∙◌, arith, List, [], ◌∷◌, ◌++◌, map, drop, length}
use Rattle.std.proofs.Common.{append_assoc, Bool, true, false, ◌&&◌, ◌||◌, not, nat_lt, if◌then◌else◌}
use Rattle.std.proofs.lemmas.List.{append-nil}
use Rattle.std.proofs.lemmas.Bool.{false≢true}
use Rattle.std.proofs.lemmas.Bool.Decides.{nat_tests}
use Rattle.c_terms.specs.declared.token.Token.{Token}
use Rattle.c_terms.specs.declared.label.Label.{Label}
use Rattle.c_terms.specs.declared.tree.Tree.{Tree}
use Rattle.c_terms.specs.Trees.{leaves, join}
use Rattle.c_terms.specs.Shapes.{is_body, is_tail}
use Rattle.smpl_patch.specs.declared.pattern.Spot.TheVariants as spot
use Rattle.smpl_patch.specs.declared.elem.Dots.{Dots}
use Rattle.smpl_patch.specs.Held.{is_held}
use Rattle.smpl_patch.specs.Bodies.{body}
use Rattle.smpl_patch.proofs.BodyLemmas.{bodies}
use Rattle.smpl_body.specs.declared.smpl_elem.form.Form.{Form}
use Rattle.smpl_body.specs.declared.smpl_elem.form.Form.TheVariants as form
use Rattle.smpl_body.specs.SmplElem.Forms.{is_part, is_list, last_kid, child_or, masked_from}
use Rattle.smpl_body.specs.SmplElem.Elements.{Part, part, picked, seqs, atoms, elements}
use Rattle.smpl_body.proofs.SmplElem.PartLemmas.{part-tree}
use Rattle.sound_laws.specs.SmplLeaves.Leaves.{code, first_part, woven, body_tokens, each_tokens}
use Rattle.sound_laws.specs.SmplLeaves.Shapes.{is_sign, lists_and_signs}
use Rattle.sound_laws.proofs.SmplLeaves.CountedLemmas.{code-append, code-both, body-append, sign-lost}

-- ---- children whose elements have their tokens

abbrev pub Kept : Tree → Type 0
Kept t = (gap : ℕ → Dots) (n : ℕ) → code (body_tokens (body (elements gap n t))) ≡ code (leaves t)

abbrev pub AllKept : List Tree → Type 0
AllKept [] = Unit {0}
AllKept (c ∷ cs) = Kept c × AllKept cs

module _ (gap : ℕ → Dots) where
  abbrev pub joined : ℕ → List Part → List Token
  joined k ps = body_tokens (body (join (seqs gap k ps)))

  abbrev pub apart : ℕ → List Part → List (List Token)
  apart k ps = each_tokens (bodies (seqs gap k ps))

  pub joined-more : (c : Tree) (k : ℕ) (ps : List Part) → joined k (part c ∷ ps) ≡ body_tokens (body (elements gap k c)) ++ joined (k + atoms c) ps
  joined-more c k ps = body-append (elements gap k c) (join (seqs gap (k + atoms c) ps))

  -- each child is a part
  pub list-kept : (cs : List Tree) (l : Label) (n i k : ℕ) → AllKept cs → code (joined k (picked form.List l n i (map part cs))) ≡ code (join (map leaves cs))
  list-kept [] l n i k g = refl
  list-kept (c ∷ cs) l n i k g =
      let ps = picked form.List l n (i + 1) (map part cs) in
      ap code (joined-more c k ps)
      ∙ code-both (body_tokens (body (elements gap k c))) (joined (k + atoms c) ps) (leaves c) (join (map leaves cs)) (g.0 gap k)
      (list-kept cs l n (i + 1) (k + atoms c) g.1)

  -- each child but the first and the last is a part
  abbrev pub IsInner : Form → Type 0
  IsInner f = (l : Label) (n i : ℕ) (c : Tree) → is_part f l n i c ≡ (nat_lt 0 i && nat_lt (i + 1) n)

  pub is-inner : (n i : ℕ) → 1 ≤ i → i + 2 ≤ n → (nat_lt 0 i && nat_lt (i + 1) n) ≡ true
  is-inner n i h k = grind (arith, nat_tests)

  pub is-last : (n i : ℕ) → n ≡ i + 1 → (nat_lt 0 i && nat_lt (i + 1) n) ≡ false
  is-last n i e = grind (arith, nat_tests)

  pub inner-part : (f : Form) → IsInner f → (l : Label) (n i : ℕ) (p : Part) (ps : List Part) → 1 ≤ i → i + 2 ≤ n
      → picked f l n i (p ∷ ps) ≡ p ∷ picked f l n (i + 1) ps
  inner-part f h l n i p ps low high = let e : is_part f l n i p.tree ≡ true = h l n i p.tree ∙ is-inner n i low high in rw e refl

  pub last-none : (f : Form) → IsInner f → (l : Label) (n i : ℕ) (p : Part) → n ≡ i + 1 → picked f l n i (p ∷ []) ≡ []
  last-none f h l n i p last = let e : is_part f l n i p.tree ≡ false = h l n i p.tree ∙ is-last n i last in rw e refl

  pub inner-kept : (f : Form) → IsInner f → (c : Tree) (cs : List Tree) (l : Label) (n i k : ℕ) → 1 ≤ i → n ≡ i + suc (length cs) → AllKept (c ∷ cs)
      → code (joined k (picked f l n i (map part (c ∷ cs))) ++ leaves (last_kid (c ∷ cs))) ≡ code (join (map leaves (c ∷ cs)))
  inner-kept f h c [] l n i k low e g =
      let p = last-none f h l n i (part c) (omega (arith, e)) in
      ap (λ ps. code (joined k ps ++ leaves c)) p ∙ ap code (sym (append-nil (leaves c)))
  inner-kept f h c (d ∷ cs) l n i k low e g =
      let ps = picked f l n (i + 1) (map part (d ∷ cs)) in
      let last = leaves (last_kid (d ∷ cs)) in
      let own = body_tokens (body (elements gap k c)) in
      ap (λ qs. code (joined k qs ++ last)) (inner-part f h l n i (part c) (map part (d ∷ cs)) low (omega (arith, e)))
      ∙ (ap (λ x. code (x ++ last)) (joined-more c k ps)
      ∙ (ap code (append_assoc own (joined (k + atoms c) ps) last)
      ∙ code-both own (joined (k + atoms c) ps ++ last) (leaves c) (join (map leaves (d ∷ cs))) (g.0 gap k)
      (inner-kept f h d cs l n (i + 1) (k + atoms c) (omega arith) (omega (arith, e)) g.1)))

  -- the lists of statements are parts
  abbrev pub IsChoice : Form → Type 0
  IsChoice f = (l : Label) (n i : ℕ) (c : Tree) → is_part f l n i c ≡ is_list c

  pub choice-part : (f : Form) → IsChoice f → (l : Label) (n i : ℕ) (c : Tree) (ps : List Part) → is_list c ≡ true
      → picked f l n i (part c ∷ ps) ≡ part c ∷ picked f l n (i + 1) ps
  choice-part f h l n i c ps e =
      let b : is_part f l n i (part c).tree ≡ true = h l n i (part c).tree ∙ (ap is_list (part-tree c) ∙ e) in rw b refl

  pub choice-other : (f : Form) → IsChoice f → (l : Label) (n i : ℕ) (c : Tree) (ps : List Part) → is_list c ≡ false
      → picked f l n i (part c ∷ ps) ≡ picked f l n (i + 1) ps
  choice-other f h l n i c ps e =
      let b : is_part f l n i (part c).tree ≡ false = h l n i (part c).tree ∙ (ap is_list (part-tree c) ∙ e) in rw b refl

  pub each-more : (c : Tree) (k : ℕ) (ps : List Part) → apart k (part c ∷ ps) ≡ body_tokens (body (elements gap k c)) ∷ apart (k + atoms c) ps
  each-more c k ps = refl

  pub both-true : (a b : Bool) → (a && b) ≡ true → (a ≡ true) × (b ≡ true)
  both-true true b h = (refl, h)
  both-true false b h = absurd (false≢true h)

  pub or-false : (a b : Bool) → a ≡ false → (a || b) ≡ true → b ≡ true
  or-false true b e h = absurd (false≢true (sym e))
  or-false false b e h = h

  pub choice-by : (b : Bool) (f : Form) → IsChoice f → (c : Tree) (cs : List Tree) (l : Label) (n i k : ℕ) → is_list c ≡ b → (is_list c || is_sign c) ≡ true
      → Kept c → ((k : ℕ) → code (join (apart k (picked f l n (i + 1) (map part cs)))) ≡ code (join (map leaves cs)))
      → code (join (apart k (picked f l n i (map part (c ∷ cs))))) ≡ code (join (map leaves (c ∷ cs)))
  choice-by true f h c cs l n i k e s g rest =
      let ps = picked f l n (i + 1) (map part cs) in
      ap (λ qs. code (join (apart k qs))) (choice-part f h l n i c (map part cs) e)
      ∙ code-both (body_tokens (body (elements gap k c))) (join (apart (k + atoms c) ps)) (leaves c) (join (map leaves cs)) (g gap k) (rest (k + atoms c))
  choice-by false f h c cs l n i k e s g rest =
      let lost = sign-lost c (or-false (is_list c) (is_sign c) e s) in
      ap (λ qs. code (join (apart k qs))) (choice-other f h l n i c (map part cs) e)
      ∙ (rest k ∙ sym (code-append (leaves c) (join (map leaves cs)) ∙ ap (λ x. x ++ code (join (map leaves cs))) lost))

  pub choice-kept : (f : Form) → IsChoice f → (cs : List Tree) (l : Label) (n i k : ℕ) → lists_and_signs cs ≡ true → AllKept cs
      → code (join (apart k (picked f l n i (map part cs)))) ≡ code (join (map leaves cs))
  choice-kept f h [] l n i k s g = refl
  choice-kept f h (c ∷ cs) l n i k s g =
      let both = both-true (is_list c || is_sign c) (lists_and_signs cs) s in
      choice-by (is_list c) f h c cs l n i k refl both.0 g.0 (λ m. choice-kept f h cs l n (i + 1) m both.1 g.1)

  -- ---- heads

  -- bodies are parts, and all else is the head's own
  abbrev pub NoTail : Label → Type 0
  NoTail l = (i : ℕ) → is_tail l i ≡ false

  pub head-part : (l : Label) (n i : ℕ) (p : Part) (ps : List Part) (b : Bool) → is_body l n i ≡ b
      → picked form.Head l n i (p ∷ ps) ≡ (if b then p ∷ picked form.Head l n (i + 1) ps else picked form.Head l n (i + 1) ps)
  head-part l n i p ps b e = ap (λ x. if x then p ∷ picked form.Head l n (i + 1) ps else picked form.Head l n (i + 1) ps) e

  abbrev pub own : Label → ℕ → ℕ → Bool
  own l n = is_held spot.Whole l n

  pub woven-body : (l : Label) (n i : ℕ) (c : Tree) (cs : List Tree) (ts : List (List Token)) → is_body l n i ≡ true
      → woven l n i (c ∷ cs) ts ≡ first_part ts ++ woven l n (i + 1) cs (drop 1 ts)
  woven-body l n i c cs ts e = rw e refl

  pub woven-own : (l : Label) (n i : ℕ) (c : Tree) (cs : List Tree) (ts : List (List Token)) → is_body l n i ≡ false
      → woven l n i (c ∷ cs) ts ≡ leaves c ++ woven l n (i + 1) cs ts
  woven-own l n i c cs ts e = rw e refl

  pub own-child : (l : Label) (n i : ℕ) (c : Tree) → NoTail l → is_body l n i ≡ false → child_or (own l n i) c ≡ c
  own-child l n i c nt e =
      let h : own l n i ≡ true = (λ j. not (e j) && not (nt i j)) in ap (λ b. child_or b c) h

  pub head-by : (b : Bool) (l : Label) → NoTail l → (c : Tree) (cs : List Tree) (n i k : ℕ) → is_body l n i ≡ b → Kept c
      → ((k : ℕ) → code (woven l n (i + 1) (masked_from (own l n) (i + 1) cs)
      (apart k (picked form.Head l n (i + 1) (map part cs)))) ≡ code (join (map leaves cs)))
      → code (woven l n i (masked_from (own l n) i (c ∷ cs)) (apart k (picked form.Head l n i (map part (c ∷ cs))))) ≡ code (join (map leaves (c ∷ cs)))
  head-by true l nt c cs n i k e g rest =
      let ps = picked form.Head l n (i + 1) (map part cs) in
      let kids' = masked_from (own l n) (i + 1) cs in
      let first = child_or (own l n i) c in
      ap (λ qs. code (woven l n i (first ∷ kids') (apart k qs))) (head-part l n i (part c) (map part cs) true e)
      ∙ (ap code (woven-body l n i first kids' (apart k (part c ∷ ps)) e)
      ∙ code-both (body_tokens (body (elements gap k c))) (woven l n (i + 1) kids' (apart (k + atoms c) ps)) (leaves c) (join (map leaves cs)) (g gap k)
      (rest (k + atoms c)))
  head-by false l nt c cs n i k e g rest =
      let ps = picked form.Head l n (i + 1) (map part cs) in
      let kids' = masked_from (own l n) (i + 1) cs in
      let first = child_or (own l n i) c in
      ap (λ qs. code (woven l n i (first ∷ kids') (apart k qs))) (head-part l n i (part c) (map part cs) false e)
      ∙ (ap code (woven-own l n i first kids' (apart k ps) e)
      ∙ code-both (leaves first) (woven l n (i + 1) kids' (apart k ps)) (leaves c) (join (map leaves cs)) (ap (λ t. code (leaves t)) (own-child l n i c nt e))
      (rest k))

  pub head-kept : (l : Label) → NoTail l → (cs : List Tree) (n i k : ℕ) → AllKept cs
      → code (woven l n i (masked_from (own l n) i cs) (apart k (picked form.Head l n i (map part cs)))) ≡ code (join (map leaves cs))
  head-kept l nt [] n i k g = refl
  head-kept l nt (c ∷ cs) n i k g = head-by (is_body l n i) l nt c cs n i k refl g.0 (λ m. head-kept l nt cs n (i + 1) m g.1)
