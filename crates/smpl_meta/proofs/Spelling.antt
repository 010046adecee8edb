-- A header that has no stop is one that the grammar spells.
--
-- Proof: the tokens after `on` up to `exists`, `forall` or `@` have a condition, as is known; the rest of the header
-- and the count of its tokens are read off the places, by recursion on the tokens.
use Rattle.std.proofs.Common.{◌≡◌, ℕ, ◌+◌, ◌-◌, ◌≤◌, ◌==◌, ◌||◌, ◌⊎◌, inl, inr, Bool, true, false, List, [], ◌∷◌, ◌++◌, Some}
use Rattle.std.proofs.Common.{None, refl, sym, ap, ◌∙◌, subst, codes, arith, if◌then◌else◌}
use Rattle.std.specs.Prelude.{cond}
use Rattle.std.proofs.lemmas.Bool.{eqb-true}
use Rattle.smpl_lexer.specs.declared.token.PatchToken.{PatchToken}
use Rattle.smpl_lexer.specs.declared.places.HeaderPlace.{HeaderPlace}
use Rattle.smpl_lexer.specs.declared.places.HeaderPlace.TheVariants as h
use Rattle.smpl_lexer.specs.Tokens.{is_word, is_at}
use Rattle.smpl_lexer.specs.Headers.{is_rule_name, is_mode, after_mode, after_depends, after_name, less, header_stop, header_step, header_ends, stop_at}
use Rattle.smpl_meta.specs.declared.head.RuleHead.{RuleHead}
use Rattle.smpl_meta.specs.declared.depends.Mark.{Mark}
use Rattle.smpl_meta.specs.declared.depends.Mark.TheVariants as mark
use Rattle.smpl_meta.specs.Heads.{mark_of, condition}
use Rattle.smpl_meta.specs.Spelled.{is_counted, counted_in, Closes, Goes, IsHeader}
use Rattle.smpl_meta.specs.Spelled.Closes.{bare, moded}
use Rattle.smpl_meta.specs.Spelled.Goes.{free, depends}
use Rattle.smpl_meta.specs.Spelled.IsHeader.{unnamed, named as with_name}
use Rattle.smpl_meta.proofs.Marks as marks
use Rattle.smpl_meta.proofs.Conditions as conditions
use Rattle.smpl_meta.proofs.Conditions.{Ends, Step, stepped, Operand, Operated, operand_is, operated_is, name_by, goes_on}
use Rattle.smpl_meta.proofs.Conditions.{stops, ever_or_never, is_name, behind}
use Rattle.smpl_meta.proofs.Conditions.Operand.{bang, opens, word, named}
use Rattle.smpl_meta.proofs.Conditions.Operated.{ors, ands, ends, closes}

module _ (end : ℕ) where
  -- ---- how a header ends

  at_by : (t : PatchToken) (ts : List PatchToken) (q : HeaderPlace) (b : Bool) → is_at t ≡ b
      → (if b then Some h.Closed else None) ≡ Some q → Ends q ts end → (is_at t ≡ true) × (ts ≡ [])
  at_by t [] q true is e last = (is, refl)
  at_by t (u ∷ ts) q true is e last =
      let q_is : q ≡ h.Closed = cc in
      let more : Ends h.Closed (u ∷ ts) end = subst (λ (p : HeaderPlace). Ends p (u ∷ ts) end) q_is last in
      absurd (cc)
  at_by t ts q false is e last = absurd (cc)

  bare_of : (t : PatchToken) (ts : List PatchToken) → (is_at t ≡ true) × (ts ≡ []) → Closes (t ∷ ts)
  bare_of t ts (is, none) = subst (λ (l : List PatchToken). Closes (t ∷ l)) (sym none) (bare t is)

  moded_of : (m t : PatchToken) (ts : List PatchToken) → is_mode m ≡ true → (is_at t ≡ true) × (ts ≡ []) → Closes (m ∷ t ∷ ts)
  moded_of m t ts mode (is, none) = subst (λ (l : List PatchToken). Closes (m ∷ t ∷ l)) (sym none) (moded m t mode is)

  behind_mode : (m : PatchToken) (ts : List PatchToken) → is_mode m ≡ true → Ends h.Moded ts end → Closes (m ∷ ts)
  behind_mode m [] mode e = absurd (cc)
  behind_mode m (t ∷ ts) mode e = let s = stepped h.Moded t ts end e in
      moded_of m t ts mode (at_by t ts s.next (is_at t) refl s.is s.ends)

  closes_by : (t : PatchToken) (ts : List PatchToken) (q : HeaderPlace) (b : Bool) → is_mode t ≡ b
      → (if b then Some h.Moded else after_mode t) ≡ Some q → Ends q ts end → Closes (t ∷ ts)
  closes_by t ts q true is e last =
      let q_is : q ≡ h.Moded = cc in
      behind_mode t ts is (subst (λ (p : HeaderPlace). Ends p ts end) q_is last)
  closes_by t ts q false is e last = bare_of t ts (at_by t ts q (is_at t) refl e last)

  closes_of : (t : PatchToken) (ts : List PatchToken) (q : HeaderPlace) → after_depends t ≡ Some q → Ends q ts end
      → Closes (t ∷ ts)
  closes_of t ts q e last = closes_by t ts q (is_mode t) refl e last

  -- ---- a condition, and what follows it

  pub record Rest (left : ℕ) (ts : List PatchToken) : Type 0 where
    pub tail : List PatchToken
    pub is : ts ≡ condition ts ++ tail
    pub closed : Closes tail
    pub few : counted_in (condition ts) ≤ left

  longer : (left next : ℕ) (t : PatchToken) (ts : List PatchToken) (m : Mark) → mark_of t ≡ m → (is_mode t || is_at t) ≡ false
      → cond (is_counted m) 1 0 + next ≤ left → Rest next ts → Rest left (t ∷ ts)
  longer left next t ts m is goes room r =
      let first : condition (t ∷ ts) ≡ t ∷ condition ts = goes_on t ts goes in
      let count : counted_in (t ∷ condition ts) ≡ cond (is_counted m) 1 0 + counted_in (condition ts) =
      ap (λ (k : Mark). cond (is_counted k) 1 0 + counted_in (condition ts)) is in
      let all : counted_in (condition (t ∷ ts)) ≡ cond (is_counted m) 1 0 + counted_in (condition ts) = ap counted_in first ∙ count in
      record {
        tail = r.tail;
        is = ap (λ (l : List PatchToken). t ∷ l) r.is ∙ ap (λ (l : List PatchToken). l ++ r.tail) (sym first);
        closed = r.closed;
        few = omega (arith, all, room, r.few);
      }

  less_by : (left : ℕ) (b : Bool) → (left == 0) ≡ b → (left ≡ 0 → ⊥) → 1 + (if b then 0 else left - 1) ≤ left
  less_by left true is some = absurd (some (eqb-true left 0 is))
  less_by left false is some = omega (arith, some)

  one_less : (left : ℕ) → (left ≡ 0 → ⊥) → 1 + less left ≤ left
  one_less left some = less_by left (left == 0) refl some

  -- the places of a condition, before each of which this many counted tokens may come
  pub data In (left : ℕ) : HeaderPlace → Type 0 where
    hole : (level : ℕ) → In left (h.Operand level left)
    worded : (level : ℕ) → In left (h.Word level left)
    full : (level : ℕ) → In left (h.Operated level left)

  no_end : (p : HeaderPlace) (left : ℕ) → In left p → stop_at (header_ends p) end ≡ None → ⊥
  no_end _ left (hole level) e = absurd (cc)
  no_end _ left (worded level) e = absurd (cc)
  no_end _ left (full level) e = absurd (cc)

  ever_longer : (left : ℕ) (t : PatchToken) (ts : List PatchToken) → conditions.EverOrNever t → Rest left ts → Rest left (t ∷ ts)
  ever_longer left t ts w r = elim w.which [
    | inl is ↦ longer left left t ts mark.Ever is w.goes (omega arith) r
    | inr is ↦ longer left left t ts mark.Never is w.goes (omega arith) r
  ]

  -- a token leads to a place of the condition, and what is there makes what is here
  record On (left : ℕ) (t : PatchToken) (ts : List PatchToken) (q : HeaderPlace) : Type 0 where
    next : ℕ
    at : In next q
    builds : Rest next ts → Rest left (t ∷ ts)

  -- or it ends the condition
  abbrev Moves : ℕ → PatchToken → List PatchToken → HeaderPlace → Type 0
  Moves left t ts q = Rest left (t ∷ ts) ⊎ On left t ts q

  at_place : (left : ℕ) (p q : HeaderPlace) → q ≡ p → In left p → In left q
  at_place left p q e at = subst (λ (x : HeaderPlace). In left x) (sym e) at

  from_hole : (t : PatchToken) (ts : List PatchToken) (level left : ℕ) (q : HeaderPlace) → Operand level left t q → Moves left t ts q
  from_hole t ts level left q (bang is (e, some)) = let g = marks.is_not t is in inr (record {
    next = less left;
    at = at_place (less left) (h.Operand level (less left)) q e (hole level);
    builds = longer left (less left) t ts mark.Not g.mark g.goes (one_less left some);
  })
  from_hole t ts level left q (opens is (e, some)) = let g = marks.is_open t is in inr (record {
    next = less left;
    at = at_place (less left) (h.Operand (level + 1) (less left)) q e (hole (level + 1));
    builds = longer left (less left) t ts mark.Open g.mark g.goes (one_less left some);
  })
  from_hole t ts level left q (word is e) = inr (record {
    next = left;
    at = at_place left (h.Word level left) q e (worded level);
    builds = ever_longer left t ts (ever_or_never t is);
  })
  from_hole t ts level left q (named is (e, some)) = let g = is_name t is in inr (record {
    next = less left;
    at = at_place (less left) (h.Operated level (less left)) q e (full level);
    builds = longer left (less left) t ts mark.Name g.mark g.goes (one_less left some);
  })

  from_word : (t : PatchToken) (ts : List PatchToken) (level left : ℕ) (q : HeaderPlace)
      → (is_rule_name t ≡ true) × ((q ≡ h.Operated level (less left)) × (left ≡ 0 → ⊥)) → Moves left t ts q
  from_word t ts level left q (is, (e, some)) = let g = is_name t is in inr (record {
    next = less left;
    at = at_place (less left) (h.Operated level (less left)) q e (full level);
    builds = longer left (less left) t ts mark.Name g.mark g.goes (one_less left some);
  })

  from_full : (t : PatchToken) (ts : List PatchToken) (level left : ℕ) (q : HeaderPlace) → Ends q ts end → Operated level left t q
      → Moves left t ts q
  from_full t ts level left q last (ors is e) = let g = marks.is_or t is in inr (record {
    next = left;
    at = at_place left (h.Operand level left) q e (hole level);
    builds = longer left left t ts mark.Or g.mark g.goes (omega arith);
  })
  from_full t ts level left q last (ands is e) = let g = marks.is_and t is in inr (record {
    next = left;
    at = at_place left (h.Operand level left) q e (hole level);
    builds = longer left left t ts mark.And g.mark g.goes (omega arith);
  })
  from_full t ts level left q last (closes some is e) = let g = marks.is_close t is in inr (record {
    next = left;
    at = at_place left (h.Operated (level - 1) left) q e (full (level - 1));
    builds = longer left left t ts mark.Close g.mark g.goes (omega arith);
  })
  from_full t ts level left q last (ends z is e) = inl (record {
    tail = t ∷ ts;
    is = ap (λ (l : List PatchToken). l ++ (t ∷ ts)) (sym (stops t ts is));
    closed = closes_of t ts q e last;
    few = let none : counted_in (condition (t ∷ ts)) ≡ 0 = ap counted_in (stops t ts is) in omega (arith, none);
  })

  moves : (t : PatchToken) (ts : List PatchToken) (p : HeaderPlace) (left : ℕ) (q : HeaderPlace) → In left p
      → header_step p t ≡ Some q → Ends q ts end → Moves left t ts q
  moves t ts _ left q (hole level) e last = from_hole t ts level left q (operand_is level left t q e)
  moves t ts _ left q (worded level) e last = from_word t ts level left q (name_by level left t q (is_rule_name t) refl e)
  moves t ts _ left q (full level) e last = from_full t ts level left q last (operated_is level left t q e)

  pub rest_of : (ts : List PatchToken) (p : HeaderPlace) (left : ℕ) → In left p → Ends p ts end → Rest left ts
  rest_of [] p left at e = absurd (no_end p left at e)
  rest_of (t ∷ ts) p left at e =
      let s = stepped p t ts end e in
      elim (moves t ts p left s.next at s.is s.ends) [
        | inl r ↦ r
        | inr on ↦ on.builds (rest_of ts s.next on.next on.at s.ends)
      ]

  -- ---- the whole header

  module _ (earlier : List RuleHead) where
    spelled_by : (w o : PatchToken) (ts : List PatchToken) → is_word (codes "depends") w ≡ true → is_word (codes "on") o ≡ true
        → Ends (h.Operand 0 200) ts end → Goes earlier 200 (w ∷ o ∷ ts)
    spelled_by w o ts word_is on_is e =
        let d = behind earlier ts 200 end e in
        let r = rest_of ts (h.Operand 0 200) 200 (hole 0) e in
        subst (λ (l : List PatchToken). Goes earlier 200 (w ∷ o ∷ l)) (sym r.is) (depends w o word_is on_is d.1 r.few r.closed)

    on_by : (w o : PatchToken) (ts : List PatchToken) (q : HeaderPlace) (b : Bool) → is_word (codes "depends") w ≡ true
        → is_word (codes "on") o ≡ b → (if b then Some (h.Operand 0 200) else None) ≡ Some q → Ends q ts end → Goes earlier 200 (w ∷ o ∷ ts)
    on_by w o ts q true word_is is e last =
        let q_is : q ≡ h.Operand 0 200 = cc in
        spelled_by w o ts word_is is (subst (λ (p : HeaderPlace). Ends p ts end) q_is last)
    on_by w o ts q false word_is is e last = absurd (cc)

    behind_depends : (w : PatchToken) (ts : List PatchToken) → is_word (codes "depends") w ≡ true → Ends h.Depends ts end
        → Goes earlier 200 (w ∷ ts)
    behind_depends w [] is e = absurd (cc)
    behind_depends w (o ∷ ts) is e = let s = stepped h.Depends o ts end e in
        on_by w o ts s.next (is_word (codes "on") o) is refl s.is s.ends

    depends_by : (t : PatchToken) (ts : List PatchToken) (q : HeaderPlace) (b : Bool) → is_word (codes "depends") t ≡ b
        → (if b then Some h.Depends else after_depends t) ≡ Some q → Ends q ts end → Goes earlier 200 (t ∷ ts)
    depends_by t ts q true is e last =
        let q_is : q ≡ h.Depends = cc in
        behind_depends t ts is (subst (λ (p : HeaderPlace). Ends p ts end) q_is last)
    depends_by t ts q false is e last = free (closes_of t ts q e last)

    behind_name : (ts : List PatchToken) → Ends h.Named ts end → Goes earlier 200 ts
    behind_name [] e = absurd (cc)
    behind_name (t ∷ ts) e = let s = stepped h.Named t ts end e in
        depends_by t ts s.next (is_word (codes "depends") t) refl s.is s.ends

    name_or : (a t : PatchToken) (ts : List PatchToken) (q : HeaderPlace) (b : Bool) → is_at a ≡ true → is_rule_name t ≡ b
        → (if b then Some h.Named else after_name t) ≡ Some q → Ends q ts end → IsHeader earlier 200 (a ∷ t ∷ ts)
    name_or a t ts q true at_is is e last =
        let q_is : q ≡ h.Named = cc in
        with_name a t at_is is (behind_name ts (subst (λ (p : HeaderPlace). Ends p ts end) q_is last))
    name_or a t ts q false at_is is e last =
        unnamed a at_is (depends_by t ts q (is_word (codes "depends") t) refl e last)

    behind_at : (a : PatchToken) (ts : List PatchToken) → is_at a ≡ true → Ends h.Opened ts end → IsHeader earlier 200 (a ∷ ts)
    behind_at a [] is e = absurd (cc)
    behind_at a (t ∷ ts) is e = let s = stepped h.Opened t ts end e in
        name_or a t ts s.next (is_rule_name t) is refl s.is s.ends

    start_by : (a : PatchToken) (ts : List PatchToken) (q : HeaderPlace) (b : Bool) → is_at a ≡ b
        → (if b then Some h.Opened else None) ≡ Some q → Ends q ts end → IsHeader earlier 200 (a ∷ ts)
    start_by a ts q true is e last =
        let q_is : q ≡ h.Opened = cc in
        behind_at a ts is (subst (λ (p : HeaderPlace). Ends p ts end) q_is last)
    start_by a ts q false is e last = absurd (cc)

    pub header_is_spelled : (ts : List PatchToken) → header_stop ts end ≡ None → IsHeader earlier 200 ts
    header_is_spelled [] e = absurd (cc)
    header_is_spelled (a ∷ ts) e = let s = stepped h.Start a ts end e in start_by a ts s.next (is_at a) refl s.is s.ends
