-- A header that has no stop has a condition.
--
-- Proof: by recursion on the tokens. Each place has what an operand would complete (`Fill`), or what one has completed
-- (`Done`), for the innermost group, and for each group around it what that group would complete (`Around`).
use Rattle.std.proofs.Common.{◌≡◌, ℕ, ◌+◌, ◌-◌, ◌⊎◌, inl, inr, ◌==◌, ◌||◌, Bool, true, false, List, [], ◌∷◌, Option, Some, None}
use Rattle.std.proofs.Common.{refl, sym, ap, subst, codes, arith, if◌then◌else◌}
use Rattle.std.proofs.lemmas.Bool.{eqb-true, eq-eqb}
use Rattle.smpl_patch.specs.declared.rule.Dep.{Dep}
use Rattle.smpl_patch.specs.declared.rule.Dep.TheVariants as dep
use Rattle.smpl_lexer.specs.declared.token.PatchToken.{PatchToken}
use Rattle.smpl_lexer.specs.declared.places.HeaderPlace.{HeaderPlace}
use Rattle.smpl_lexer.specs.declared.places.HeaderPlace.TheVariants as h
use Rattle.smpl_lexer.specs.Tokens.{is_word, is_sign, is_at}
use Rattle.smpl_lexer.specs.Headers.{is_rule_name, is_mode, after_depends, counted, less, rule_name, operand, operated, header_step, header_ends, stop, stop_at}
use Rattle.smpl_meta.specs.declared.head.RuleHead.{RuleHead}
use Rattle.smpl_meta.specs.declared.depends.Mark.TheVariants as mark
use Rattle.smpl_meta.specs.Heads.{mark_of, Spells, condition}
use Rattle.smpl_meta.specs.Heads.Level.{Either, Both, Prefix}
use Rattle.smpl_meta.specs.Heads.Spells.{either, one_both, both, one_prefix, negated, group, name, ever, never}
use Rattle.smpl_meta.proofs.Marks.{Goes, is_not, is_open, is_close, is_or, is_and, is_ever, is_never, plain, name_goes}

-- ---- the table of places, inverted

abbrev pub Ends : HeaderPlace → List PatchToken → ℕ → Type 0
Ends p ts end = stop header_step header_ends p ts end ≡ None

pub record Step (o : Option HeaderPlace) (ts : List PatchToken) (end : ℕ) : Type 0 where
  pub next : HeaderPlace
  pub is : o ≡ Some next
  pub ends : Ends next ts end

step_of : (o : Option HeaderPlace) (at : ℕ) (ts : List PatchToken) (end : ℕ)
    → elim o as (λ (x : Option HeaderPlace). Option ℕ) [ None ↦ Some at | Some q ↦ stop header_step header_ends q ts end ] ≡ None → Step o ts end
step_of None at ts end e = absurd (cc)
step_of (Some q) at ts end e = record { next = q; is = refl; ends = e }

pub stepped : (p : HeaderPlace) (t : PatchToken) (ts : List PatchToken) (end : ℕ) → Ends p (t ∷ ts) end
    → Step (header_step p t) ts end
stepped p t ts end e = step_of (header_step p t) t.at ts end e

not_zero : (level : ℕ) → (level == 0) ≡ false → level ≡ 0 → ⊥
not_zero level e z = let yes : (level == 0) ≡ true = eq-eqb level 0 z in absurd (cc)

-- there is a counted token only where one is allowed
counted_by : (left : ℕ) (next q : HeaderPlace) (b : Bool) → (left == 0) ≡ b → (if b then None else Some next) ≡ Some q
    → (q ≡ next) × (left ≡ 0 → ⊥)
counted_by left next q true is e = absurd (cc)
counted_by left next q false is e = (cc, not_zero left is)

counted_is : (left : ℕ) (next q : HeaderPlace) → counted left next ≡ Some q → (q ≡ next) × (left ≡ 0 → ⊥)
counted_is left next q e = counted_by left next q (left == 0) refl e

pub data Operand (level left : ℕ) (t : PatchToken) (q : HeaderPlace) : Type 0 where
  bang : is_sign (codes "!") t ≡ true → (q ≡ h.Operand level (less left)) × (left ≡ 0 → ⊥) → Operand level left t q
  opens : is_sign (codes "(") t ≡ true → (q ≡ h.Operand (level + 1) (less left)) × (left ≡ 0 → ⊥) → Operand level left t q
  word : (is_word (codes "ever") t || is_word (codes "never") t) ≡ true → q ≡ h.Word level left → Operand level left t q
  named : is_rule_name t ≡ true → (q ≡ h.Operated level (less left)) × (left ≡ 0 → ⊥) → Operand level left t q

pub name_by : (level left : ℕ) (t : PatchToken) (q : HeaderPlace) (b : Bool) → is_rule_name t ≡ b
    → (if b then counted left (h.Operated level (less left)) else None) ≡ Some q
    → (is_rule_name t ≡ true) × ((q ≡ h.Operated level (less left)) × (left ≡ 0 → ⊥))
name_by level left t q true is e = (is, counted_is left (h.Operated level (less left)) q e)
name_by level left t q false is e = absurd (cc)

word_by : (level left : ℕ) (t : PatchToken) (q : HeaderPlace) (b : Bool)
    → (is_word (codes "ever") t || is_word (codes "never") t) ≡ b
    → (if b then Some (h.Word level left) else rule_name level left t) ≡ Some q → Operand level left t q
word_by level left t q true is e = word is (cc)
word_by level left t q false is e = let n = name_by level left t q (is_rule_name t) refl e in named n.0 n.1

open_by : (level left : ℕ) (t : PatchToken) (q : HeaderPlace) (b : Bool) → is_sign (codes "(") t ≡ b
    → (if b then counted left (h.Operand (level + 1) (less left)) else
    (if is_word (codes "ever") t || is_word (codes "never") t then Some (h.Word level left) else rule_name level left t)) ≡ Some q → Operand level left t q
open_by level left t q true is e = opens is (counted_is left (h.Operand (level + 1) (less left)) q e)
open_by level left t q false is e = word_by level left t q (is_word (codes "ever") t || is_word (codes "never") t) refl e

bang_by : (level left : ℕ) (t : PatchToken) (q : HeaderPlace) (b : Bool) → is_sign (codes "!") t ≡ b
    → (if b then counted left (h.Operand level (less left)) else
    (if is_sign (codes "(") t then counted left (h.Operand (level + 1) (less left)) else
    (if is_word (codes "ever") t || is_word (codes "never") t then Some (h.Word level left) else rule_name level left t))) ≡ Some q
    → Operand level left t q
bang_by level left t q true is e = bang is (counted_is left (h.Operand level (less left)) q e)
bang_by level left t q false is e = open_by level left t q (is_sign (codes "(") t) refl e

pub operand_is : (level left : ℕ) (t : PatchToken) (q : HeaderPlace) → operand level left t ≡ Some q
    → Operand level left t q
operand_is level left t q e = bang_by level left t q (is_sign (codes "!") t) refl e

pub data Operated (level left : ℕ) (t : PatchToken) (q : HeaderPlace) : Type 0 where
  ors : is_sign (codes "||") t ≡ true → q ≡ h.Operand level left → Operated level left t q
  ands : is_sign (codes "&&") t ≡ true → q ≡ h.Operand level left → Operated level left t q
  ends : level ≡ 0 → (is_mode t || is_at t) ≡ true → after_depends t ≡ Some q → Operated level left t q
  closes : (level ≡ 0 → ⊥) → is_sign (codes ")") t ≡ true → q ≡ h.Operated (level - 1) left → Operated level left t q

ends_by : (t : PatchToken) (q : HeaderPlace) (a b : Bool)
    → (if a then Some h.Moded else (if b then Some h.Closed else None)) ≡ Some q → (a || b) ≡ true
ends_by t q true b e = refl
ends_by t q false true e = refl
ends_by t q false false e = absurd (cc)

close_by : (level left : ℕ) (t : PatchToken) (q : HeaderPlace) (b : Bool) → is_sign (codes ")") t ≡ b → (level ≡ 0 → ⊥)
    → (if b then Some (h.Operated (level - 1) left) else None) ≡ Some q → Operated level left t q
close_by level left t q true is some e = closes some is (cc)
close_by level left t q false is some e = absurd (cc)

level_by : (level left : ℕ) (t : PatchToken) (q : HeaderPlace) (b : Bool) → (level == 0) ≡ b
    → (if b then after_depends t else (if is_sign (codes ")") t then Some (h.Operated (level - 1) left) else None)) ≡ Some q → Operated level left t q
level_by level left t q true is e = ends (eqb-true level 0 is) (ends_by t q (is_mode t) (is_at t) e) e
level_by level left t q false is e = close_by level left t q (is_sign (codes ")") t) refl (not_zero level is) e

sides_by : (level left : ℕ) (t : PatchToken) (q : HeaderPlace) (a b : Bool) → is_sign (codes "||") t ≡ a
    → is_sign (codes "&&") t ≡ b
    → (if a || b then Some (h.Operand level left) else
    (if level == 0 then after_depends t else (if is_sign (codes ")") t then Some (h.Operated (level - 1) left) else None))) ≡ Some q
    → Operated level left t q
sides_by level left t q true b is also e = ors is (cc)
sides_by level left t q false true is also e = ands also (cc)
sides_by level left t q false false is also e = level_by level left t q (level == 0) refl e

pub operated_is : (level left : ℕ) (t : PatchToken) (q : HeaderPlace) → operated level left t ≡ Some q
    → Operated level left t q
operated_is level left t q e = sides_by level left t q (is_sign (codes "||") t) (is_sign (codes "&&") t) refl refl e

-- ---- a condition up to some place

pub goes_on : (t : PatchToken) (ts : List PatchToken) → (is_mode t || is_at t) ≡ false
    → condition (t ∷ ts) ≡ t ∷ condition ts
goes_on t ts e = ap (λ (b : Bool). if b then [] else t ∷ condition ts) e

pub stops : (t : PatchToken) (ts : List PatchToken) → (is_mode t || is_at t) ≡ true → condition (t ∷ ts) ≡ []
stops t ts e = ap (λ (b : Bool). if b then [] else t ∷ condition ts) e

pub record EverOrNever (t : PatchToken) : Type 0 where
  pub which : (mark_of t ≡ mark.Ever) ⊎ (mark_of t ≡ mark.Never)
  pub goes : (is_mode t || is_at t) ≡ false

ever_by : (t : PatchToken) (a b : Bool) → is_word (codes "ever") t ≡ a → is_word (codes "never") t ≡ b
    → (a || b) ≡ true → EverOrNever t
ever_by t true b is also e = let g = is_ever t is in record { which = inl g.mark; goes = g.goes }
ever_by t false true is also e = let g = is_never t also in record { which = inr g.mark; goes = g.goes }
ever_by t false false is also e = absurd (cc)

pub ever_or_never : (t : PatchToken) → (is_word (codes "ever") t || is_word (codes "never") t) ≡ true → EverOrNever t
ever_or_never t e = ever_by t (is_word (codes "ever") t) (is_word (codes "never") t) refl refl e

pub is_name : (t : PatchToken) → is_rule_name t ≡ true → Goes t mark.Name
is_name t e = name_goes t (plain t e) e

module _ (earlier : List RuleHead) where
  -- an operand has ended: the group is the part after its last `||` and the part before that
  data Done : List PatchToken → List PatchToken → Type 0 where
    alone : {xs zs : List PatchToken} (b : Dep) → Spells earlier Both xs b zs → Done xs zs
    after : {xs mid zs : List PatchToken} (t : PatchToken) (a b : Dep) → Spells earlier Either xs a (t ∷ mid)
        → mark_of t ≡ mark.Or → Spells earlier Both mid b zs → Done xs zs

  abbrev Fill : List PatchToken → List PatchToken → Type 0
  Fill xs ys = (d : Dep) (zs : List PatchToken) → Spells earlier Prefix ys d zs → Done xs zs

  abbrev Spelled : List PatchToken → List PatchToken → Type 0
  Spelled xs zs = (d : Dep) × Spells earlier Either xs d zs

  group_is : {xs zs : List PatchToken} → Done xs zs → Spelled xs zs
  group_is (alone b s) = (b, one_both s)
  group_is (after t a b s is r) = (dep.Either a b, either t s is r)

  anded : {xs ys : List PatchToken} (t : PatchToken) → mark_of t ≡ mark.And → Done xs (t ∷ ys) → Fill xs ys
  anded t is (alone b s) d zs p = alone (dep.Both b d) (both t s is p)
  anded t is (after u a b s or r) d zs p = after u a (dep.Both b d) s or (both t r is p)

  ored : {xs ys : List PatchToken} (t : PatchToken) → mark_of t ≡ mark.Or → Done xs (t ∷ ys) → Fill xs ys
  ored t is done d zs p = let g = group_is done in after t g.0 d g.1 is (one_prefix p)

  fresh : (ys : List PatchToken) → Fill ys ys
  fresh ys d zs p = alone d (one_prefix p)

  -- the groups around the innermost one, which begins here
  data Around (all : List PatchToken) : ℕ → List PatchToken → Type 0 where
    bottom : Around all 0 all
    inner : {k n : ℕ} {xs ys : List PatchToken} (t : PatchToken) → k ≡ n + 1 → mark_of t ≡ mark.Open
        → Fill xs (t ∷ ys) → Around all n xs → Around all k ys

  -- where a header is in a condition
  data At (all : List PatchToken) : HeaderPlace → List PatchToken → Type 0 where
    hole : {level left : ℕ} {xs ys : List PatchToken} → Around all level xs → Fill xs ys
        → At all (h.Operand level left) ys
    worded : {level left : ℕ} {xs ys : List PatchToken} (w : PatchToken)
        → ((mark_of w ≡ mark.Ever) ⊎ (mark_of w ≡ mark.Never)) → Around all level xs → Fill xs (w ∷ ys)
        → At all (h.Word level left) ys
    full : {level left : ℕ} {xs ys : List PatchToken} → Around all level xs → Done xs ys
        → At all (h.Operated level left) ys

  whole : {all xs : List PatchToken} {level : ℕ} → Around all level xs → level ≡ 0 → Done xs [] → Spelled all []
  whole bottom z done = group_is done
  whole (inner t is o f around) z done = absurd (omega (arith, is, z))

  closed_in : {all xs cs : List PatchToken} {level : ℕ} (left : ℕ) (u : PatchToken) → mark_of u ≡ mark.Close
      → Around all level xs → (level ≡ 0 → ⊥) → Done xs (u ∷ cs)
      → At all (h.Operated (level - 1) left) cs
  closed_in left u close bottom some done = absurd (some refl)
  closed_in {all = all} {cs = cs} {level = level} left u close (inner {n = n} t is o f around) some done =
      let g = group_is done in
      let outer : n ≡ level - 1 = omega (arith, is) in
      let filled = f g.0 cs (group t u o g.1 close) in
      subst (λ (k : ℕ). At all (h.Operated k left) cs) outer (full around filled)

  -- what a token leads to: the end of the condition, or the place after it
  abbrev Moves : List PatchToken → List PatchToken → HeaderPlace → Type 0
  Moves all ts q = Spelled all [] ⊎ At all q (condition ts)

  to : {all : List PatchToken} {p q : HeaderPlace} (ts : List PatchToken) → q ≡ p → At all p (condition ts)
      → Moves all ts q
  to {all = all} ts e a = inr (subst (λ (x : HeaderPlace). At all x (condition ts)) (sym e) a)

  from_hole : {all xs : List PatchToken} {level left : ℕ} (t : PatchToken) (ts : List PatchToken) (q : HeaderPlace)
      → Around all level xs → Fill xs (condition (t ∷ ts)) → Operand level left t q → Moves all ts q
  from_hole {xs = xs} {level = level} {left = left} t ts q around f (bang is (e, some)) =
      let g = is_not t is in
      let f' : Fill xs (t ∷ condition ts) = subst (λ (l : List PatchToken). Fill xs l) (goes_on t ts g.goes) f in
      to ts e (hole around (λ d zs p. f' (dep.Not d) zs (negated t g.mark p)))
  from_hole {xs = xs} {level = level} {left = left} t ts q around f (opens is (e, some)) =
      let g = is_open t is in
      let f' : Fill xs (t ∷ condition ts) = subst (λ (l : List PatchToken). Fill xs l) (goes_on t ts g.goes) f in
      to ts e (hole (inner t refl g.mark f' around) (fresh (condition ts)))
  from_hole {xs = xs} {level = level} {left = left} t ts q around f (word is e) =
      let w = ever_or_never t is in
      let f' : Fill xs (t ∷ condition ts) = subst (λ (l : List PatchToken). Fill xs l) (goes_on t ts w.goes) f in
      to ts e (worded t w.which around f')
  from_hole {xs = xs} {level = level} {left = left} t ts q around f (named is (e, some)) =
      let g = is_name t is in
      let f' : Fill xs (t ∷ condition ts) = subst (λ (l : List PatchToken). Fill xs l) (goes_on t ts g.goes) f in
      to ts e (full around (f' _ (condition ts) (name t g.mark)))

  named_behind : {xs cs : List PatchToken} (w t : PatchToken) → ((mark_of w ≡ mark.Ever) ⊎ (mark_of w ≡ mark.Never))
      → mark_of t ≡ mark.Name → Fill xs (w ∷ t ∷ cs) → Done xs cs
  named_behind {cs = cs} w t (inl is) also f = f _ cs (ever w t is also)
  named_behind {cs = cs} w t (inr is) also f = f _ cs (never w t is also)

  from_word : {all xs : List PatchToken} {level : ℕ} (left : ℕ) (w t : PatchToken) (ts : List PatchToken) (q : HeaderPlace)
      → ((mark_of w ≡ mark.Ever) ⊎ (mark_of w ≡ mark.Never))
      → Around all level xs → Fill xs (w ∷ condition (t ∷ ts))
      → (is_rule_name t ≡ true) × ((q ≡ h.Operated level (less left)) × (left ≡ 0 → ⊥)) → Moves all ts q
  from_word {xs = xs} left w t ts q which around f n =
      let g = is_name t n.0 in
      let f' : Fill xs (w ∷ t ∷ condition ts) = subst (λ (l : List PatchToken). Fill xs (w ∷ l)) (goes_on t ts g.goes) f in
      to ts n.1.0 (full around (named_behind w t which g.mark f'))

  from_full : {all xs : List PatchToken} {level left : ℕ} (t : PatchToken) (ts : List PatchToken) (q : HeaderPlace)
      → Around all level xs → Done xs (condition (t ∷ ts)) → Operated level left t q → Moves all ts q
  from_full {xs = xs} t ts q around done (ors is e) =
      let g = is_or t is in
      to ts e (hole around (ored t g.mark (subst (λ (l : List PatchToken). Done xs l) (goes_on t ts g.goes) done)))
  from_full {xs = xs} t ts q around done (ands is e) =
      let g = is_and t is in
      to ts e (hole around (anded t g.mark (subst (λ (l : List PatchToken). Done xs l) (goes_on t ts g.goes) done)))
  from_full {xs = xs} t ts q around done (ends z is e) = inl (whole around z (subst (λ (l : List PatchToken). Done xs l) (stops t ts is) done))
  from_full {xs = xs} {left = left} t ts q around done (closes some is e) =
      let g = is_close t is in
      to ts e (closed_in left t g.mark around some (subst (λ (l : List PatchToken). Done xs l) (goes_on t ts g.goes) done))

  moves : {all : List PatchToken} {p : HeaderPlace} (t : PatchToken) (ts : List PatchToken) (q : HeaderPlace)
      → At all p (condition (t ∷ ts)) → header_step p t ≡ Some q → Moves all ts q
  moves t ts q (hole {level = level} {left = left} around f) e = from_hole t ts q around f (operand_is level left t q e)
  moves t ts q (worded {level = level} {left = left} w which around f) e =
      from_word left w t ts q which around f (name_by level left t q (is_rule_name t) refl e)
  moves t ts q (full {level = level} {left = left} around done) e = from_full t ts q around done (operated_is level left t q e)

  no_end : {all ys : List PatchToken} {p : HeaderPlace} (end : ℕ) → At all p ys → stop_at (header_ends p) end ≡ None → ⊥
  no_end end (hole around f) e = absurd (cc)
  no_end end (worded w which around f) e = absurd (cc)
  no_end end (full around done) e = absurd (cc)

  condition_of : {all : List PatchToken} (ts : List PatchToken) (p : HeaderPlace) (end : ℕ) → At all p (condition ts)
      → Ends p ts end → Spelled all []
  condition_of [] p end a e = absurd (no_end end a e)
  condition_of (t ∷ ts) p end a e =
      let s = stepped p t ts end e in
      elim (moves t ts s.next a s.is) [
        | inl done ↦ done
        | inr next ↦ condition_of ts s.next end next s.ends
      ]

  -- after `depends on`
  pub behind : (ts : List PatchToken) (left end : ℕ) → Ends (h.Operand 0 left) ts end
      → (d : Dep) × Spells earlier Either (condition ts) d []
  behind ts left end e = condition_of ts (h.Operand 0 left) end (hole bottom (fresh (condition ts))) e
