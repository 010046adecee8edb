-- Values in order, each once: they form exactly one list, ids aside.
use Rattle.std.proofs.Common.{◌≡◌, ◌⊎◌, inl, inr, refl, sym, ap, ◌∙◌, Bool, true, false, ◌&&◌, ◌||◌, cond, List, [], ◌∷◌, map}
use Rattle.std.specs.List.{filter}
use Rattle.std.specs.declared.cmp.Ordering.{Ordering}
use Rattle.std.specs.declared.cmp.Ordering.TheVariants.{Less, Equal, Greater}
use Rattle.std.specs.Ordering.{ordering_reverse, is_eq}
use Rattle.smpl_terms.specs.declared.value.Value.{Value}
use Rattle.smpl_terms.specs.Values.{same, value_order}
use Rattle.smpl_terms.proofs.ValueLaws.{same-refl, same-sym, same-along, is_eq-value_order, value_order_total}
use Rattle.env_parts.specs.Parts.{bare_value}
use Rattle.env_parts.proofs.PartLemmas.{same-bare_value}
use Rattle.env_sets.specs.Rising.{BeforeFirst, Rise}
use Rattle.ctl_fixpoint.specs.CtlHolds.Values.{is_among}
use Rattle.wit_forest.specs.WitTrees.Rules.{value_placed, put_value, in_order}

equal_to : (o : Ordering) → is_eq o ≡ true → o ≡ Equal
equal_to Less h = absurd cc
equal_to Equal h = refl
equal_to Greater h = absurd cc

or_split : (a b : Bool) → (a || b) ≡ true → (a ≡ true) ⊎ (b ≡ true)
or_split true b h = inl refl
or_split false b h = inr h

-- ---- before the first of a list in order

before_rest : (v w : Value) (ws : List Value) → value_order v w ≡ Less → BeforeFirst w ws → BeforeFirst v ws
before_rest v w [] l b = tt
before_rest v w (u ∷ us) l b = value_order_total.trans v w u l b

apart : (v w : Value) → value_order v w ≡ Less → same w v ≡ false
apart v w l = same-sym w v ∙ sym (is_eq-value_order v w) ∙ ap is_eq l

misses : (v : Value) (ws : List Value) → BeforeFirst v ws → Rise ws → is_among ws v ≡ false
misses v [] b r = refl
misses v (w ∷ ws) b r = (λ i. apart v w b i || is_among ws v) ∙ misses v ws (before_rest v w ws b r.0) r.1

among-along : (vs : List Value) (v z : Value) → same v z ≡ true → is_among vs v ≡ is_among vs z
among-along [] v z h = refl
among-along (u ∷ us) v z h = λ i. same-along v z h u i || among-along us v z h i

-- ---- one list

abbrev AtMost : Ordering → Type 0
AtMost o = (o ≡ Less) ⊎ (o ≡ Equal)

first_least : (v : Value) (vs : List Value) → BeforeFirst v vs → Rise vs → (z : Value) → is_among (v ∷ vs) z ≡ true → AtMost (value_order v z)
first_least v [] b r z h = elim (or_split (same v z) false h) as (λ _. AtMost (value_order v z)) [
  | inl k ↦ inr (equal_to (value_order v z) (is_eq-value_order v z ∙ k))
  | inr k ↦ absurd cc
]
first_least v (u ∷ us) b r z h = elim (or_split (same v z) (is_among (u ∷ us) z) h) as (λ _. AtMost (value_order v z)) [
  | inl k ↦ inr (equal_to (value_order v z) (is_eq-value_order v z ∙ k))
  | inr k ↦ further (first_least u us r.0 r.1 z k)
]
  where
    further : AtMost (value_order u z) → AtMost (value_order v z)
    further (inl l) = inl (value_order_total.trans v u z b l)
    further (inr e) = inl (
        let back : value_order z u ≡ Equal = value_order_total.antisymm z u ∙ ap ordering_reverse e in
        let left : value_order z v ≡ value_order u v = value_order_total.congr z u v back in
        let turned : value_order u v ≡ Greater = value_order_total.antisymm u v ∙ ap ordering_reverse b in
        value_order_total.antisymm v z ∙ ap ordering_reverse (left ∙ turned))

both_ways : (v w : Value) → AtMost (value_order v w) → AtMost (value_order w v) → same v w ≡ true
both_ways v w (inr e) k = sym (is_eq-value_order v w) ∙ ap is_eq e
both_ways v w (inl l) (inr e) = same-sym v w ∙ sym (is_eq-value_order w v) ∙ ap is_eq e
both_ways v w (inl l) (inl k) =
    let clash : ◌≡◌ {A = Ordering} Less Greater = sym k ∙ value_order_total.antisymm w v ∙ ap ordering_reverse l in
    absurd cc

here : (v : Value) (vs : List Value) → is_among (v ∷ vs) v ≡ true
here v vs = ap (λ b. b || is_among vs v) (same-refl v)

drop_first : (a b c d : Bool) → (a || b) ≡ (c || d) → a ≡ c → (a ≡ true → b ≡ false) → (c ≡ true → d ≡ false) → b ≡ d
drop_first true b true d h e f g = f refl ∙ sym (g refl)
drop_first true b false d h e f g = absurd cc
drop_first false b true d h e f g = absurd cc
drop_first false b false d h e f g = h

missed : (v : Value) (vs : List Value) → BeforeFirst v vs → Rise vs → (z : Value) → same v z ≡ true → is_among vs z ≡ false
missed v vs b r z h = sym (among-along vs v z h) ∙ misses v vs b r

pub one_list : (vs ws : List Value) → Rise vs → Rise ws → ((z : Value) → is_among vs z ≡ is_among ws z) → map bare_value vs ≡ map bare_value ws
one_list [] [] r s h = refl
one_list [] (w ∷ ws) r s h = let e : false ≡ true = h w ∙ here w ws in absurd cc
one_list (v ∷ vs) [] r s h = let e : true ≡ false = sym (here v vs) ∙ h v in absurd cc
one_list (v ∷ vs) (w ∷ ws) r s h =
    let first : same v w ≡ true =
    both_ways v w (first_least v vs r.0 r.1 w (h w ∙ here w ws)) (first_least w ws s.0 s.1 v (sym (h v) ∙ here v vs)) in
    let rest = one_list vs ws r.1 s.1 (λ z.
    drop_first (same v z) (is_among vs z) (same w z) (is_among ws z) (h z)
    (same-sym v z ∙ same-along v w first z ∙ same-sym z w) (missed v vs r.0 r.1 z) (missed w ws s.0 s.1 z)) in
    let head = same-bare_value v w first in
    λ i. head i ∷ rest i

-- ---- the values that pass a test

before_kept : (test : Value → Bool) (v : Value) (ws : List Value) → BeforeFirst v ws → Rise ws → BeforeFirst v (filter test ws)
before_kept test v [] b r = tt
before_kept test v (w ∷ ws) b r = at (test w) (before_kept test v ws (before_rest v w ws b r.0) r.1)
  where
    at : (t : Bool) → BeforeFirst v (filter test ws) → BeforeFirst v (cond t (w ∷ filter test ws) (filter test ws))
    at true k = b
    at false k = k

pub Rise-filter : (test : Value → Bool) (vs : List Value) → Rise vs → Rise (filter test vs)
Rise-filter test [] r = tt
Rise-filter test (v ∷ vs) r = at (test v) (Rise-filter test vs r.1)
  where
    at : (t : Bool) → Rise (filter test vs) → Rise (cond t (v ∷ filter test vs) (filter test vs))
    at true k = (before_kept test v vs r.0 r.1, k)
    at false k = k

-- a value that passes, and one that fails
passing : (s a m u : Bool) → a ≡ (u && m) → (s ≡ true → true ≡ u) → (s || a) ≡ (u && (s || m))
passing true a m u k h = ap (λ b. b && true) (h refl)
passing false a m u k h = k

failing : (s a m u : Bool) → a ≡ (u && m) → (s ≡ true → false ≡ u) → a ≡ (u && (s || m))
failing true a m u k h = k ∙ (λ i. sym (h refl) i && m) ∙ (λ i. h refl i && true)
failing false a m u k h = k

-- a test that doesn't distinguish equal values
pub among-filter : (test : Value → Bool) → ((v w : Value) → same v w ≡ true → test v ≡ test w) → (vs : List Value) (z : Value)
    → is_among (filter test vs) z ≡ (test z && is_among vs z)
among-filter test alike [] z = at (test z)
  where
    at : (t : Bool) → false ≡ (t && false)
    at true = refl
    at false = refl
among-filter test alike (v ∷ vs) z = at (test v) (among-filter test alike vs z) (alike v z)
  where
    at : (t : Bool) → is_among (filter test vs) z ≡ (test z && is_among vs z) → (same v z ≡ true → t ≡ test z)
        → is_among (cond t (v ∷ filter test vs) (filter test vs)) z ≡ (test z && (same v z || is_among vs z))
    at true k h = passing (same v z) (is_among (filter test vs) z) (is_among vs z) (test z) k h
    at false k h = failing (same v z) (is_among (filter test vs) z) (is_among vs z) (test z) k h

-- ---- the values of a list in order

swapped : (a b c : Bool) → (a || (b || c)) ≡ (b || (a || c))
swapped true true c = refl
swapped true false c = refl
swapped false b c = refl

once : (a b c : Bool) → a ≡ b → (a || c) ≡ (b || (a || c))
once true true c h = refl
once true false c h = absurd cc
once false true c h = absurd cc
once false false c h = refl

among_placed : (o : Ordering) (v u : Value) (us more : List Value) (z : Value) → value_order v u ≡ o
    → is_among more z ≡ (same v z || is_among us z) → is_among (value_placed o v u us more) z ≡ (same v z || (same u z || is_among us z))
among_placed Less v u us more z e h = refl
among_placed Equal v u us more z e h =
    let alike : same v u ≡ true = sym (is_eq-value_order v u) ∙ ap is_eq e in
    once (same u z) (same v z) (is_among us z) (same-sym u z ∙ sym (same-along v u alike z) ∙ same-sym z v)
among_placed Greater v u us more z e h =
    ap (λ b. same u z || b) h ∙ swapped (same u z) (same v z) (is_among us z)

among-put_value : (v : Value) (us : List Value) (z : Value) → is_among (put_value v us) z ≡ (same v z || is_among us z)
among-put_value v [] z = refl
among-put_value v (u ∷ us) z = among_placed (value_order v u) v u us (put_value v us) z refl (among-put_value v us z)

pub among-in_order : (vs : List Value) (z : Value) → is_among (in_order vs) z ≡ is_among vs z
among-in_order [] z = refl
among-in_order (v ∷ vs) z = among-put_value v (in_order vs) z ∙ ap (λ b. same v z || b) (among-in_order vs z)

placed_first : (o : Ordering) (v w u : Value) (us more : List Value) → value_order v w ≡ Less → value_order v u ≡ Less
    → BeforeFirst v (value_placed o w u us more)
placed_first Less v w u us more h k = h
placed_first Equal v w u us more h k = k
placed_first Greater v w u us more h k = k

put_first : (v w : Value) (us : List Value) → value_order v w ≡ Less → BeforeFirst v us → BeforeFirst v (put_value w us)
put_first v w [] h b = h
put_first v w (u ∷ us) h b = placed_first (value_order w u) v w u us (put_value w us) h b

placed_rise : (o : Ordering) (w u : Value) (us : List Value) → value_order w u ≡ o → BeforeFirst u us → Rise us
    → Rise (put_value w us) → Rise (value_placed o w u us (put_value w us))
placed_rise Less w u us e b r s = (e, (b, r))
placed_rise Equal w u us e b r s = (b, r)
placed_rise Greater w u us e b r s =
    let turned : value_order u w ≡ Less = value_order_total.antisymm u w ∙ ap ordering_reverse e in
    (put_first u w us turned b, s)

Rise-put_value : (w : Value) (us : List Value) → Rise us → Rise (put_value w us)
Rise-put_value w [] r = (tt, tt)
Rise-put_value w (u ∷ us) r = placed_rise (value_order w u) w u us refl r.0 r.1 (Rise-put_value w us r.1)

pub Rise-in_order : (vs : List Value) → Rise (in_order vs)
Rise-in_order [] = tt
Rise-in_order (v ∷ vs) = Rise-put_value v (in_order vs) (Rise-in_order vs)
