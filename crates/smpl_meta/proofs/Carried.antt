-- A condition through which a header goes counts no more than is left, and a header goes through it wherever that much is
-- left.
use Rattle.std.proofs.Common.{◌≡◌, ℕ, ◌+◌, ◌-◌, ◌≤◌, inl, inr, List, [], ◌∷◌, Some, refl, sym, ap, subst, arith}
use Rattle.smpl_lexer.specs.declared.token.PatchToken.{PatchToken}
use Rattle.smpl_lexer.specs.declared.places.HeaderPlace.{HeaderPlace}
use Rattle.smpl_lexer.specs.declared.places.HeaderPlace.TheVariants as h
use Rattle.smpl_lexer.specs.Headers.{header_step}
use Rattle.smpl_meta.specs.Heads.{condition}
use Rattle.smpl_meta.specs.Spelled.{counted_in}
use Rattle.smpl_meta.proofs.Passing.{Passes, Live}
use Rattle.smpl_meta.proofs.Passing.Passes.{here, on}
use Rattle.smpl_meta.proofs.Passing.{Live as live}
use Rattle.smpl_meta.proofs.Carrying.{outer_live, Condition, Pair, from_place}
use Rattle.smpl_meta.proofs.Carrying.Condition.{hole_of, word_of, full_of}
use Rattle.smpl_meta.proofs.Carrying.Pair.{hole, worded, full}

-- a pair is one place of a condition with two counts
record Places (n m : ℕ) (p r : HeaderPlace) : Type 0 where
  place : ℕ → HeaderPlace
  of : Condition place
  first : p ≡ place n
  second : r ≡ place m

places : (n m : ℕ) (p r : HeaderPlace) → Pair n m p r → Places n m p r
places n m _ _ (hole level) = record { place = h.Operand level; of = hole_of level; first = refl; second = refl }
places n m _ _ (worded level) = record { place = h.Word level; of = word_of level; first = refl; second = refl }
places n m _ _ (full level) = record { place = h.Operated level; of = full_of level; first = refl; second = refl }

-- with one more left, a place of a condition can be completed
live_place : (n m : ℕ) (p r : HeaderPlace) → Pair n m p r → 1 ≤ m → Live r
live_place n m _ _ (hole level) some = live.hole level m (m - 1) (omega (arith, some))
live_place n m _ _ (worded level) some = live.worded level m (m - 1) (omega (arith, some))
live_place n m _ _ (full level) some = live.full level m

few_by : (ts : List PatchToken) (n : ℕ) (p r q : HeaderPlace) (m : ℕ) → Pair n m p r → Passes p ts q
    → counted_in (condition ts) ≤ n
few_by [] n p r q m pair pass = omega arith
few_by (t ∷ ts) n p r q m pair (on {q = next} is rest) =
    let at = places n m p r pair in
    elim (from_place n t ts at.place next at.of (subst (λ (x : HeaderPlace). header_step x t ≡ Some next) at.first is)) [
      | inl leaves ↦ let none : counted_in (condition (t ∷ ts)) ≡ 0 = ap counted_in leaves.none in omega (arith, none)
      | inr goes ↦
          let led = goes.leads (0 + goes.cost) 0 refl in
          let few = few_by ts goes.next next led.place q 0 led.pair rest in
          omega (arith, few, goes.left, goes.counts)
    ]

pub few_passed : (ts : List PatchToken) (n : ℕ) (q : HeaderPlace) → Passes (h.Operand 0 n) ts q → counted_in (condition ts) ≤ n
few_passed ts n q pass = few_by ts n (h.Operand 0 n) (h.Operand 0 n) q n (hole 0) pass

pub record Carried (m : ℕ) (r : HeaderPlace) (ts : List PatchToken) : Type 0 where
  pub at : HeaderPlace
  pub passes : Passes r ts at
  pub live : counted_in (condition ts) + 1 ≤ m → Live at

carried_by : (ts : List PatchToken) (n m : ℕ) (p r q : HeaderPlace) → Pair n m p r → Passes p ts q
    → counted_in (condition ts) ≤ m → Carried m r ts
carried_by [] n m p r q pair pass few = record { at = r; passes = here; live = λ room. live_place n m p r pair (omega (arith, room)) }
carried_by (t ∷ ts) n m p r q pair (on {q = next} is rest) few =
    let at = places n m p r pair in
    elim (from_place n t ts at.place next at.of (subst (λ (x : HeaderPlace). header_step x t ≡ Some next) at.first is)) [
      | inl leaves ↦
          let lead : header_step r t ≡ Some next = subst (λ (x : HeaderPlace). header_step x t ≡ Some next) (sym at.second) (leaves.leads m) in
          record { at = q; passes = on lead rest; live = λ room. outer_live leaves.outer rest }
      | inr goes ↦
          let room : m ≡ m - goes.cost + goes.cost = omega (arith, few, goes.counts) in
          let led = goes.leads m (m - goes.cost) room in
          let lead : header_step r t ≡ Some led.place = subst (λ (x : HeaderPlace). header_step x t ≡ Some led.place) (sym at.second) led.is in
          let more = carried_by ts goes.next (m - goes.cost) next led.place q led.pair rest (omega (arith, few, goes.counts)) in
          record { at = more.at; passes = on lead more.passes; live = λ left. more.live (omega (arith, left, goes.counts)) }
    ]

pub carried : (ts : List PatchToken) (n m : ℕ) (q : HeaderPlace) → Passes (h.Operand 0 n) ts q → counted_in (condition ts) ≤ m
    → Carried m (h.Operand 0 m) ts
carried ts n m q pass few = carried_by ts n m (h.Operand 0 n) (h.Operand 0 m) q (hole 0) pass few
