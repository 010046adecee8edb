-- A condition through which a header goes, whatever count is left before it: it goes through the same tokens if as many are
-- left as they count.
use Rattle.std.proofs.Common.{◌≡◌, ℕ, ◌+◌, ◌-◌, ◌==◌, ◌||◌, ◌⊎◌, inl, inr, Bool, true, false, List, [], ◌∷◌, Some, None, refl}
use Rattle.std.proofs.Common.{sym, ap, ◌∙◌, subst, codes, arith, if◌then◌else◌}
use Rattle.std.specs.Prelude.{cond}
use Rattle.std.proofs.lemmas.Bool.{eqb-true}
use Rattle.smpl_lexer.specs.declared.token.PatchToken.{PatchToken}
use Rattle.smpl_lexer.specs.declared.places.HeaderPlace.{HeaderPlace}
use Rattle.smpl_lexer.specs.declared.places.HeaderPlace.TheVariants as h
use Rattle.smpl_lexer.specs.Tokens.{is_word, is_sign, is_at}
use Rattle.smpl_lexer.specs.Headers.{is_rule_name, is_mode, after_depends, less, operand, header_step}
use Rattle.smpl_meta.specs.declared.depends.Mark.{Mark}
use Rattle.smpl_meta.specs.declared.depends.Mark.TheVariants as mark
use Rattle.smpl_meta.specs.Heads.{mark_of, condition}
use Rattle.smpl_meta.specs.Spelled.{is_counted, counted_in}
use Rattle.smpl_meta.proofs.Marks as marks
use Rattle.smpl_meta.proofs.Conditions.{Operand, Operated, operand_is, operated_is, name_by, goes_on, stops, ever_or_never, is_name}
use Rattle.smpl_meta.proofs.Conditions.Operand.{bang, opens, word, named}
use Rattle.smpl_meta.proofs.Conditions.Operated.{ors, ands, ends, closes}
use Rattle.smpl_meta.proofs.GoesOn.{taken, bang_leads, open_leads, ever_leads, never_leads, word_leads, name_leads, or_leads, and_leads, close_leads}
use Rattle.smpl_meta.proofs.Passing.{Passes, Live}
use Rattle.smpl_meta.proofs.Passing.Passes.{here, on}
use Rattle.smpl_meta.proofs.Passing.{Live as live}

-- ---- after the condition

pub data Outer : HeaderPlace → Type 0 where
  moded : Outer h.Moded
  closed : Outer h.Closed

outer_by : (t : PatchToken) (q : HeaderPlace) (a b : Bool) → (if a then Some h.Moded else (if b then Some h.Closed else None)) ≡ Some q
    → Outer q
outer_by t q true b e = let is : h.Moded ≡ q = cc in subst (λ (p : HeaderPlace). Outer p) is moded
outer_by t q false true e = let is : h.Closed ≡ q = cc in subst (λ (p : HeaderPlace). Outer p) is closed
outer_by t q false false e = absurd (cc)

pub outer_of : (t : PatchToken) (q : HeaderPlace) → after_depends t ≡ Some q → Outer q
outer_of t q e = outer_by t q (is_mode t) (is_at t) e

outer_at : (t : PatchToken) (q : HeaderPlace) (b : Bool) → (if b then Some h.Closed else None) ≡ Some q → Outer q
outer_at t q true e = let is : h.Closed ≡ q = cc in subst (λ (p : HeaderPlace). Outer p) is closed
outer_at t q false e = absurd (cc)

outer_step : (t : PatchToken) (p q : HeaderPlace) → Outer p → header_step p t ≡ Some q → Outer q
outer_step t _ q moded e = outer_at t q (is_at t) e
outer_step t _ q closed e = absurd (cc)

outer_is_live : (p : HeaderPlace) → Outer p → Live p
outer_is_live _ moded = live.moded
outer_is_live _ closed = live.closed

pub outer_live : {xs : List PatchToken} {p q : HeaderPlace} → Outer p → Passes p xs q → Live q
outer_live {p = p} o here = outer_is_live p o
outer_live {p = p} o (on {q = q} {t = t} is rest) = outer_live (outer_step t p q o is) rest

-- ---- a token of the condition

-- the places of a condition, by what is left there
pub data Condition : (ℕ → HeaderPlace) → Type 0 where
  hole_of : (level : ℕ) → Condition (h.Operand level)
  word_of : (level : ℕ) → Condition (h.Word level)
  full_of : (level : ℕ) → Condition (h.Operated level)

-- two places of a condition that differ at most in what is left
pub data Pair (n m : ℕ) : HeaderPlace → HeaderPlace → Type 0 where
  hole : (level : ℕ) → Pair n m (h.Operand level n) (h.Operand level m)
  worded : (level : ℕ) → Pair n m (h.Word level n) (h.Word level m)
  full : (level : ℕ) → Pair n m (h.Operated level n) (h.Operated level m)

pub record Led (t : PatchToken) (p : HeaderPlace) (next rest : ℕ) (q : HeaderPlace) : Type 0 where
  pub place : HeaderPlace
  pub is : header_step p t ≡ Some place
  pub pair : Pair next rest q place

-- the token continues the condition
pub record Goes (n : ℕ) (t : PatchToken) (ts : List PatchToken) (p : ℕ → HeaderPlace) (q : HeaderPlace) : Type 0 where
  pub cost : ℕ
  pub next : ℕ
  pub left : n ≡ next + cost
  pub counts : counted_in (condition (t ∷ ts)) ≡ cost + counted_in (condition ts)
  pub leads : (m rest : ℕ) → m ≡ rest + cost → Led t (p m) next rest q

-- or it ends the condition
pub record Leaves (t : PatchToken) (ts : List PatchToken) (p : ℕ → HeaderPlace) (q : HeaderPlace) : Type 0 where
  pub none : condition (t ∷ ts) ≡ []
  pub outer : Outer q
  pub leads : (m : ℕ) → header_step (p m) t ≡ Some q

abbrev pub Moves : ℕ → PatchToken → List PatchToken → (ℕ → HeaderPlace) → HeaderPlace → Type 0
Moves n t ts p q = Leaves t ts p q ⊎ Goes n t ts p q

count_more : (t : PatchToken) (ts : List PatchToken) (m : Mark) → mark_of t ≡ m → (is_mode t || is_at t) ≡ false
    → counted_in (condition (t ∷ ts)) ≡ cond (is_counted m) 1 0 + counted_in (condition ts)
count_more t ts m is goes = ap counted_in (goes_on t ts goes) ∙ ap (λ (k : Mark). cond (is_counted k) 1 0 + counted_in (condition ts)) is

less_by : (n : ℕ) (b : Bool) → (n == 0) ≡ b → (n ≡ 0 → ⊥) → n ≡ (if b then 0 else n - 1) + 1
less_by n true is some = absurd (some (eqb-true n 0 is))
less_by n false is some = omega (arith, some)

less_is : (n : ℕ) → (n ≡ 0 → ⊥) → n ≡ less n + 1
less_is n some = less_by n (n == 0) refl some

no_more : (n : ℕ) → n ≡ n + 0
no_more n = omega arith

same_left : (m rest : ℕ) → m ≡ rest + 0 → m ≡ rest
same_left m rest e = omega (arith, e)

-- if nothing is counted, as many are left
stays : {t : PatchToken} {next rest m : ℕ} {p q : HeaderPlace} → m ≡ rest → Led t p next m q → Led t p next rest q
stays {t = t} {next = next} {p = p} {q = q} e led = subst (λ (k : ℕ). Led t p next k q) e led

word_in : (t : PatchToken) (level m : ℕ) (a b : Bool) → is_word (codes "ever") t ≡ a → is_word (codes "never") t ≡ b → (a || b) ≡ true
    → operand level m t ≡ Some (h.Word level m)
word_in t level m true b is also e = ever_leads level t m is
word_in t level m false true is also e = never_leads level t m also
word_in t level m false false is also e = absurd (cc)

word_place : (t : PatchToken) (level m : ℕ) → (is_word (codes "ever") t || is_word (codes "never") t) ≡ true
    → operand level m t ≡ Some (h.Word level m)
word_place t level m e = word_in t level m (is_word (codes "ever") t) (is_word (codes "never") t) refl refl e

from_hole : (n level : ℕ) (t : PatchToken) (ts : List PatchToken) (q : HeaderPlace) → Operand level n t q
    → Goes n t ts (h.Operand level) q
from_hole n level t ts q (bang is (e, some)) = let g = marks.is_not t is in record {
  cost = 1;
  next = less n;
  left = less_is n some;
  counts = count_more t ts mark.Not g.mark g.goes;
  leads = λ m rest room. record {
    place = h.Operand level rest;
    is = bang_leads level t m is ∙ taken m rest (λ (k : ℕ). h.Operand level k) room;
    pair = subst (λ (x : HeaderPlace). Pair (less n) rest x (h.Operand level rest)) (sym e) (hole level);
  };
}
from_hole n level t ts q (opens is (e, some)) = let g = marks.is_open t is in record {
  cost = 1;
  next = less n;
  left = less_is n some;
  counts = count_more t ts mark.Open g.mark g.goes;
  leads = λ m rest room. record {
    place = h.Operand (level + 1) rest;
    is = open_leads level t m is ∙ taken m rest (λ (k : ℕ). h.Operand (level + 1) k) room;
    pair = subst (λ (x : HeaderPlace). Pair (less n) rest x (h.Operand (level + 1) rest)) (sym e) (hole (level + 1));
  };
}
from_hole n level t ts q (word is e) =
    let w = ever_or_never t is in
    record {
      cost = 0;
      next = n;
      left = no_more n;
      counts = elim w.which [
        | inl ever ↦ count_more t ts mark.Ever ever w.goes
        | inr never ↦ count_more t ts mark.Never never w.goes
      ];
      leads = λ m rest room. stays (same_left m rest room) (record {
        place = h.Word level m;
        is = word_place t level m is;
        pair = subst (λ (x : HeaderPlace). Pair n m x (h.Word level m)) (sym e) (worded level);
      });
    }
from_hole n level t ts q (named is (e, some)) = let g = is_name t is in record {
  cost = 1;
  next = less n;
  left = less_is n some;
  counts = count_more t ts mark.Name g.mark g.goes;
  leads = λ m rest room. record {
    place = h.Operated level rest;
    is = name_leads level t m is ∙ taken m rest (λ (k : ℕ). h.Operated level k) room;
    pair = subst (λ (x : HeaderPlace). Pair (less n) rest x (h.Operated level rest)) (sym e) (full level);
  };
}

from_word : (n level : ℕ) (t : PatchToken) (ts : List PatchToken) (q : HeaderPlace)
    → (is_rule_name t ≡ true) × ((q ≡ h.Operated level (less n)) × (n ≡ 0 → ⊥)) → Goes n t ts (h.Word level) q
from_word n level t ts q (is, (e, some)) = let g = is_name t is in record {
  cost = 1;
  next = less n;
  left = less_is n some;
  counts = count_more t ts mark.Name g.mark g.goes;
  leads = λ m rest room. record {
    place = h.Operated level rest;
    is = word_leads level t m is ∙ taken m rest (λ (k : ℕ). h.Operated level k) room;
    pair = subst (λ (x : HeaderPlace). Pair (less n) rest x (h.Operated level rest)) (sym e) (full level);
  };
}

neither : (a b : Bool) → a ≡ false → b ≡ false → (a || b) ≡ false
neither a b ea eb = rw (ea, eb) refl

leaves : (t : PatchToken) (q : HeaderPlace) (level m : ℕ) → level ≡ 0 → (is_mode t || is_at t) ≡ true → after_depends t ≡ Some q
    → header_step (h.Operated level m) t ≡ Some q
leaves t q level m z is e =
    let sides = marks.no_side t is in
    subst (λ (k : ℕ). header_step (h.Operated k m) t ≡ Some q) (sym z)
    (ap (λ (b : Bool). if b then Some (h.Operand 0 m) else after_depends t) (neither (is_sign (codes "||") t) (is_sign (codes "&&") t) sides.0 sides.1) ∙ e)

from_full : (n level : ℕ) (t : PatchToken) (ts : List PatchToken) (q : HeaderPlace) → Operated level n t q
    → Moves n t ts (h.Operated level) q
from_full n level t ts q (ors is e) = let g = marks.is_or t is in inr (record {
  cost = 0;
  next = n;
  left = no_more n;
  counts = count_more t ts mark.Or g.mark g.goes;
  leads = λ m rest room. stays (same_left m rest room) (record {
    place = h.Operand level m;
    is = or_leads level t m is;
    pair = subst (λ (x : HeaderPlace). Pair n m x (h.Operand level m)) (sym e) (hole level);
  });
})
from_full n level t ts q (ands is e) = let g = marks.is_and t is in inr (record {
  cost = 0;
  next = n;
  left = no_more n;
  counts = count_more t ts mark.And g.mark g.goes;
  leads = λ m rest room. stays (same_left m rest room) (record {
    place = h.Operand level m;
    is = and_leads level t m is;
    pair = subst (λ (x : HeaderPlace). Pair n m x (h.Operand level m)) (sym e) (hole level);
  });
})
from_full n level t ts q (closes some is e) = let g = marks.is_close t is in inr (record {
  cost = 0;
  next = n;
  left = no_more n;
  counts = count_more t ts mark.Close g.mark g.goes;
  leads = λ m rest room. stays (same_left m rest room) (record {
    place = h.Operated (level - 1) m;
    is =
        let up : level ≡ level - 1 + 1 = omega (arith, some) in
        subst (λ (k : ℕ). header_step (h.Operated k m) t ≡ Some (h.Operated (level - 1) m)) (sym up) (close_leads (level - 1) t m is);
    pair = subst (λ (x : HeaderPlace). Pair n m x (h.Operated (level - 1) m)) (sym e) (full (level - 1));
  });
})
from_full n level t ts q (ends z is e) = inl (record {
  none = stops t ts is;
  outer = outer_of t q e;
  leads = λ m. leaves t q level m z is e;
})

-- from each place of a condition, a token leads either further into it or out of it
pub from_place : (n : ℕ) (t : PatchToken) (ts : List PatchToken) (p : ℕ → HeaderPlace) (q : HeaderPlace) → Condition p
    → header_step (p n) t ≡ Some q → Moves n t ts p q
from_place n t ts _ q (hole_of level) e = inr (from_hole n level t ts q (operand_is level n t q e))
from_place n t ts _ q (word_of level) e = inr (from_word n level t ts q (name_by level n t q (is_rule_name t) refl e))
from_place n t ts _ q (full_of level) e = from_full n level t ts q (operated_is level n t q e)
