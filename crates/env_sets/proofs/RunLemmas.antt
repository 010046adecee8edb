-- Lists in order that are stored as several lists.
use Rattle.std.proofs.Common.{inl, inr, ◌≡◌, ℕ, suc, zero, ◌+◌, ◌<◌, Bool, true, false, ◌||◌, ◌&&◌, cond, refl, sym, ap, ◌∙◌}
use Rattle.std.proofs.Common.{subst, arith, List, [], ◌∷◌, ◌++◌, length, get_or, take, drop, append_assoc, take-append-drop}
use Rattle.std.proofs.Common.{length-drop}
use Rattle.std.proofs.lemmas.List.{at_drop_more, drop_all, get_or_default}
use Rattle.std.specs.List.{list_any, list_all}
use Rattle.std.specs.declared.cmp.Ordering.{Ordering}
use Rattle.std.specs.declared.cmp.Ordering.TheVariants.{Less, Equal, Greater}
use Rattle.std.specs.Ordering.{is_lt, is_eq}
use Rattle.std.proofs.lemmas.Grind.{common_steps}
use Rattle.std.proofs.lemmas.Bool.{false≢true}
use Rattle.smpl_terms.specs.declared.value.Value.{Value}
use Rattle.smpl_terms.specs.Values.{same, value_order}
use Rattle.smpl_terms.proofs.ValueLaws.{value_order_total, is_eq-value_order}
use Rattle.env_sets.specs.Rising.{BeforeFirst, Rise}
use Rattle.env_sets.specs.Runs.{by_order, with_value, with_values, all_of, AllRise, unless_first}
use Rattle.std.proofs.lemmas.List.Folds.{list_any-append}
use Rattle.env_sets.proofs.LoopLemmas.{any_step, either_true, or_cases}
use Rattle.env_sets.proofs.BoundLemmas.{any_same-along}
use Rattle.env_sets.proofs.SameLemmas.{same_alike}
use Rattle.env_sets.proofs.RisingLemmas.{turned, all_less, both_hold}

or_twice : (a b : Bool) → (a || (a || b)) ≡ (a || b)
or_twice true b = refl
or_twice false b = refl

or_past : (a b c : Bool) → (a || (b || c)) ≡ (b || (a || c))
or_past true true c = refl
or_past true false c = refl
or_past false b c = refl

or_none : (a : Bool) → a ≡ (a || false)
or_none true = refl
or_none false = refl

either_way : (a b : Bool) → (a ≡ true → b ≡ true) → (b ≡ true → a ≡ true) → a ≡ b
either_way true b h k = sym (h refl)
either_way false true h k = k refl
either_way false false h k = refl

pub or_group : (a b c : Bool) → ((a || b) || c) ≡ (a || (b || c))
or_group true b c = refl
or_group false b c = refl

equal_same : (v w : Value) → value_order v w ≡ Equal → same v w ≡ true
equal_same v w h = sym (is_eq-value_order v w) ∙ ap is_eq h

any_by_order : (o : Ordering) (v w z : Value) (ws more : List Value) → value_order v w ≡ o
    → list_any (λ x. same x z) more ≡ (same v z || list_any (λ x. same x z) ws)
    → list_any (λ x. same x z) (by_order o (v ∷ w ∷ ws) (w ∷ ws) (w ∷ more)) ≡ (same v z || list_any (λ x. same x z) (w ∷ ws))
any_by_order Less v w z ws more h k = refl
any_by_order Equal v w z ws more h k =
    sym (or_twice (same w z) (list_any (λ x. same x z) ws))
    ∙ ap (λ b. b || (same w z || list_any (λ x. same x z) ws)) (sym (same_alike v w z (equal_same v w h)))
any_by_order Greater v w z ws more h k = ap (λ b. same w z || b) k ∙ or_past (same w z) (same v z) (list_any (λ x. same x z) ws)

any-with_value : (v z : Value) (ws : List Value) → list_any (λ x. same x z) (with_value v ws) ≡ (same v z || list_any (λ x. same x z) ws)
any-with_value v z [] = refl
any-with_value v z (w ∷ ws) = any_by_order (value_order v w) v w z ws (with_value v ws) refl (any-with_value v z ws)

pub any-with_values : (vs ws : List Value) (z : Value)
    → list_any (λ x. same x z) (with_values vs ws) ≡ (list_any (λ x. same x z) vs || list_any (λ x. same x z) ws)
any-with_values [] ws z = refl
any-with_values (v ∷ vs) ws z =
    any-with_value v z (with_values vs ws) ∙ ap (λ b. same v z || b) (any-with_values vs ws z)
    ∙ sym (or_group (same v z) (list_any (λ x. same x z) vs) (list_any (λ x. same x z) ws))

-- what several lists have
pub any-all_of : (vs : List Value) (rest : List (List Value)) (z : Value)
    → list_any (λ x. same x z) (all_of vs rest) ≡ (list_any (λ x. same x z) vs || list_any (λ ws. list_any (λ x. same x z) ws) rest)
any-all_of vs [] z = or_none (list_any (λ x. same x z) vs)
any-all_of vs (ws ∷ rest) z = any-with_values vs (all_of ws rest) z ∙ ap (λ b. list_any (λ x. same x z) vs || b) (any-all_of ws rest z)

-- a test that all pass
all_by_order : (q : Value → Bool) (o : Ordering) (v w : Value) (ws more : List Value) → q v ≡ true → list_all q (w ∷ ws) ≡ true
    → (list_all q ws ≡ true → list_all q more ≡ true)
    → list_all q (by_order o (v ∷ w ∷ ws) (w ∷ ws) (w ∷ more)) ≡ true
all_by_order q Less v w ws more h k m = grind (arith, common_steps)
all_by_order q Equal v w ws more h k m = k
all_by_order q Greater v w ws more h k m = grind (arith, common_steps)

all-with_value : (q : Value → Bool) (v : Value) (ws : List Value) → q v ≡ true → list_all q ws ≡ true → list_all q (with_value v ws) ≡ true
all-with_value q v [] h k = ap (λ b. b && true) h
all-with_value q v (w ∷ ws) h k = all_by_order q (value_order v w) v w ws (with_value v ws) h k (all-with_value q v ws h)

all-with_values : (q : Value → Bool) (vs ws : List Value) → list_all q vs ≡ true → list_all q ws ≡ true → list_all q (with_values vs ws) ≡ true
all-with_values q [] ws h k = k
all-with_values q (v ∷ vs) ws h k =
    let here : q v ≡ true = grind (arith, common_steps) in
    let there : list_all q vs ≡ true = grind (arith, common_steps) in
    all-with_value q v (with_values vs ws) here (all-with_values q vs ws there k)

pub all-all_of : (q : Value → Bool) (vs : List Value) (rest : List (List Value)) → list_all q vs ≡ true
    → list_all (λ ws. list_all q ws) rest ≡ true → list_all q (all_of vs rest) ≡ true
all-all_of q vs [] h k = h
all-all_of q vs (ws ∷ rest) h k =
    let here : list_all q ws ≡ true = grind (arith, common_steps) in
    let there : list_all (λ xs. list_all q xs) rest ≡ true = grind (arith, common_steps) in
    all-with_values q vs (all_of ws rest) h (all-all_of q ws rest here there)

-- order
first_by_order : (o : Ordering) (u v w : Value) (ws more : List Value) → value_order u v ≡ Less → value_order u w ≡ Less
    → BeforeFirst u (by_order o (v ∷ w ∷ ws) (w ∷ ws) (w ∷ more))
first_by_order Less u v w ws more h k = h
first_by_order Equal u v w ws more h k = k
first_by_order Greater u v w ws more h k = k

first-with_value : (u v : Value) (ws : List Value) → value_order u v ≡ Less → BeforeFirst u ws → BeforeFirst u (with_value v ws)
first-with_value u v [] h b = h
first-with_value u v (w ∷ ws) h b = first_by_order (value_order v w) u v w ws (with_value v ws) h b

Rise_by_order : (o : Ordering) (v w : Value) (ws more : List Value) → value_order v w ≡ o → Rise (w ∷ ws) → Rise more
    → (value_order w v ≡ Less → BeforeFirst w more) → Rise (by_order o (v ∷ w ∷ ws) (w ∷ ws) (w ∷ more))
Rise_by_order Less v w ws more h r m b = (h, r)
Rise_by_order Equal v w ws more h r m b = r
Rise_by_order Greater v w ws more h r m b = (b (turned v w Greater h), m)

Rise-with_value : (v : Value) (ws : List Value) → Rise ws → Rise (with_value v ws)
Rise-with_value v [] r = (tt, tt)
Rise-with_value v (w ∷ ws) r = Rise_by_order (value_order v w) v w ws (with_value v ws) refl r (Rise-with_value v ws r.1) (λ h. first-with_value w v ws h r.0)

pub Rise-with_values : (vs ws : List Value) → Rise ws → Rise (with_values vs ws)
Rise-with_values [] ws r = r
Rise-with_values (v ∷ vs) ws r = Rise-with_value v (with_values vs ws) (Rise-with_values vs ws r)

pub Rise-all_of : (vs : List Value) (rest : List (List Value)) → Rise vs → AllRise rest → Rise (all_of vs rest)
Rise-all_of vs [] r all = r
Rise-all_of vs (ws ∷ rest) r all = Rise-with_values vs (all_of ws rest) (Rise-all_of ws rest all.0 all.1)

-- merging
before_next : (u v : Value) (vs : List Value) → value_order u v ≡ Less → BeforeFirst v vs → BeforeFirst u vs
before_next u v [] h b = tt
before_next u v (w ∷ vs) h b = value_order_total.trans u v w h b

first-with_values : (u : Value) (vs ws : List Value) → BeforeFirst u vs → Rise vs → BeforeFirst u ws → BeforeFirst u (with_values vs ws)
first-with_values u [] ws b r c = c
first-with_values u (v ∷ vs) ws b r c = first-with_value u v (with_values vs ws) b (first-with_values u vs ws (before_next u v vs b r.0) r.1 c)

value_before : (v : Value) (ws : List Value) → BeforeFirst v ws → with_value v ws ≡ v ∷ ws
value_before v [] b = refl
value_before v (w ∷ ws) b = ap (λ o. by_order o (v ∷ w ∷ ws) (w ∷ ws) (w ∷ with_value v ws)) b

value_after : (v w : Value) (ws : List Value) → value_order w v ≡ Less → with_value v (w ∷ ws) ≡ w ∷ with_value v ws
value_after v w ws h = ap (λ o. by_order o (v ∷ w ∷ ws) (w ∷ ws) (w ∷ with_value v ws)) (turned w v Less h)

-- a value before all others stays first
lesser_first : (w : Value) (vs ws : List Value) → BeforeFirst w vs → Rise vs → with_values vs (w ∷ ws) ≡ w ∷ with_values vs ws
lesser_first w [] ws b r = refl
lesser_first w (v ∷ vs) ws b r = ap (with_value v) (lesser_first w vs ws (before_next w v vs b r.0) r.1) ∙ value_after v w (with_values vs ws) b

pub less : (o : Ordering) → is_lt o ≡ true → o ≡ Less
less Less h = refl
less Equal h = absurd cc
less Greater h = absurd cc

-- values before all others stay in front
front_stays : (front ws : List Value) (v : Value) (vs : List Value) → list_all (λ w. is_lt (value_order w v)) front ≡ true
    → Rise (v ∷ vs) → with_values (v ∷ vs) (front ++ ws) ≡ front ++ with_values (v ∷ vs) ws
front_stays [] ws v vs h r = refl
front_stays (w ∷ front) ws v vs h r =
    let here : is_lt (value_order w v) ≡ true = grind (arith, common_steps) in
    let there : list_all (λ u. is_lt (value_order u v)) front ≡ true = grind (arith, common_steps) in
    lesser_first w (v ∷ vs) (front ++ ws) (less (value_order w v) here) r ∙ ap (λ xs. w ∷ xs) (front_stays front ws v vs there r)

along_first : (v w : Value) (us : List Value) → value_order w v ≡ Equal → BeforeFirst v us → BeforeFirst w us
along_first v w [] h b = tt
along_first v w (u ∷ us) h b = value_order_total.congr w v u h ∙ b

here_by : (o : Ordering) (v w : Value) (vs ws : List Value) → value_order w v ≡ o → is_lt o ≡ false → Rise (v ∷ vs)
    → with_values (v ∷ vs) (w ∷ ws) ≡ cond (is_eq o) [] (v ∷ []) ++ with_values vs (w ∷ ws)
here_by Less v w vs ws h k r = absurd cc
here_by Equal v w vs ws h k r =
    let alike : value_order v w ≡ Equal = turned w v Equal h in
    let after : BeforeFirst w vs = along_first v w vs h r.0 in
    ap (with_value v) (lesser_first w vs ws after r.1)
    ∙ ap (λ o. by_order o (v ∷ w ∷ with_values vs ws) (w ∷ with_values vs ws) (w ∷ with_value v (with_values vs ws))) alike
    ∙ sym (lesser_first w vs ws after r.1)
here_by Greater v w vs ws h k r = value_before v (with_values vs (w ∷ ws)) (first-with_values v vs (w ∷ ws) r.0 r.1 (turned w v Greater h))

here : (v : Value) (vs ws : List Value) → Rise (v ∷ vs)
    → ((w : Value) → w ≡ get_or ws 0 w → 0 < length ws → is_lt (value_order w v) ≡ false) → with_values (v ∷ vs) ws ≡ unless_first v ws ++ with_values vs ws
here v vs [] r h = value_before v (with_values vs []) (first-with_values v vs [] r.0 r.1 tt)
here v vs (w ∷ ws) r h =
    here_by (value_order w v) v w vs ws refl (h w refl (omega arith)) r ∙ ap (λ b. cond b [] (v ∷ []) ++ with_values vs (w ∷ ws)) (is_eq-value_order w v)

-- one step of a merge: the values before v, and v unless the others begin with it
pub merge_step : (v : Value) (vs front ws : List Value) → Rise (v ∷ vs) → list_all (λ w. is_lt (value_order w v)) front ≡ true
    → ((w : Value) → w ≡ get_or ws 0 w → 0 < length ws → is_lt (value_order w v) ≡ false)
    → with_values (v ∷ vs) (front ++ ws) ≡ front ++ (unless_first v ws ++ with_values vs ws)
merge_step v vs front ws r h k = front_stays front ws v vs h r ∙ ap (λ xs. front ++ xs) (here v vs ws r k)

pub Rise-drop : (n : ℕ) (xs : List Value) → Rise xs → Rise (drop n xs)
Rise-drop zero xs r = r
Rise-drop (suc n) [] r = tt
Rise-drop (suc n) (x ∷ xs) r = Rise-drop n xs r.1

pub AllRise-drop : (n : ℕ) (xs : List (List Value)) → AllRise xs → AllRise (drop n xs)
AllRise-drop zero xs r = r
AllRise-drop (suc n) [] r = tt
AllRise-drop (suc n) (x ∷ xs) r = AllRise-drop n xs r.1

pub AllRise-at : (n : ℕ) (xs : List (List Value)) (x : List Value) → AllRise xs → n < length xs → x ≡ get_or xs n x → Rise x
AllRise-at n [] x r lt e = absurd (omega arith)
AllRise-at zero (y ∷ xs) x r lt e = subst Rise (sym e) r.0
AllRise-at (suc n) (y ∷ xs) x r lt e = AllRise-at n xs x r.1 (omega arith) e

first_dropped : (n : ℕ) (xs : List Value) (d : Value) → get_or (drop n xs) 0 d ≡ get_or xs n d
first_dropped zero xs d = refl
first_dropped (suc n) [] d = refl
first_dropped (suc n) (x ∷ xs) d = first_dropped n xs d

-- the invariant of the loop of a merge
pub merge_turn : (small large rest out kept last : List Value) (i n : ℕ) (v : Value)
    → Rise small → i < length small → v ≡ get_or small i v
    → list_all (λ w. is_lt (value_order w v)) (take n rest) ≡ true
    → ((w : Value) → n < length rest → w ≡ get_or rest n w → is_lt (value_order w v) ≡ false)
    → kept ≡ out ++ take n rest → last ≡ kept ++ unless_first v (drop n rest)
    → out ++ with_values (drop i small) rest ≡ with_values small large
    → last ++ with_values (drop (i + 1) small) (drop n rest) ≡ with_values small large
merge_turn small large rest out kept last i n v r lt e h k f g whole =
    let here : drop i small ≡ v ∷ drop (i + 1) small = at_drop_more (λ xs. xs) small i v lt ∙ ap (λ x. x ∷ drop (i + 1) small) (sym e) in
    let step = merge_step v (drop (i + 1) small) (take n rest) (drop n rest) (subst Rise here (Rise-drop i small r)) h
    (λ w is more. k w (omega (arith, length-drop n rest)) (is ∙ first_dropped n rest w)) in
    let all : with_values (drop i small) rest ≡ take n rest ++ (unless_first v (drop n rest) ++ with_values (drop (i + 1) small) (drop n rest)) =
    ap (λ xs. with_values xs rest) here ∙ ap (with_values (v ∷ drop (i + 1) small)) (sym (take-append-drop n rest)) ∙ step in
    ap (λ xs. xs ++ with_values (drop (i + 1) small) (drop n rest)) (g ∙ ap (λ xs. xs ++ unless_first v (drop n rest)) f)
    ∙ append_assoc (out ++ take n rest) (unless_first v (drop n rest)) (with_values (drop (i + 1) small) (drop n rest))
    ∙ append_assoc out (take n rest) (unless_first v (drop n rest) ++ with_values (drop (i + 1) small) (drop n rest))
    ∙ ap (λ xs. out ++ xs) (sym all) ∙ whole

-- values before one that is before v
pub front_less : (ws : List Value) (n : ℕ) (x v : Value) → Rise ws → n < length ws → x ≡ get_or ws n x → value_order x v ≡ Less
    → list_all (λ w. is_lt (value_order w v)) (take (suc n) ws) ≡ true
front_less [] n x v r lt e h = absurd (omega arith)
front_less (w ∷ ws) zero x v r lt e h = both_hold (ap is_lt (ap (λ y. value_order y v) (sym e) ∙ h)) refl
front_less (w ∷ ws) (suc n) x v r lt e h =
    both_hold (ap is_lt (value_order_total.trans w x v (all_less w x v ws n r.0 r.1 (omega arith) e) h)) (front_less ws n x v r.1 (omega arith) e h)

pub front_less_at : (ws : List Value) (n m : ℕ) (x v : Value) → Rise ws → n < length ws → x ≡ get_or ws n x
    → value_order x v ≡ Less → m ≡ suc n → list_all (λ w. is_lt (value_order w v)) (take m ws) ≡ true
front_less_at ws n m x v r lt e h k = ap (λ j. list_all (λ w. is_lt (value_order w v)) (take j ws)) k ∙ front_less ws n x v r lt e h

pub not_less_at : (ws : List Value) (n : ℕ) (x v : Value) (o : Ordering) → n < length ws → x ≡ get_or ws n x
    → value_order x v ≡ o → is_lt o ≡ false → (w : Value) → w ≡ get_or ws n w → is_lt (value_order w v) ≡ false
not_less_at ws n x v o lt e h k w f =
    let same_one : w ≡ x = f ∙ get_or_default ws n w x lt ∙ sym e in ap (λ y. is_lt (value_order y v)) same_one ∙ ap is_lt h ∙ k

-- values that a list lacks
pub had_value : (a b s : Bool) → (s ≡ true → a ≡ true) → (a || b) ≡ ((a || b) || s)
had_value true b s k = refl
had_value false b true k = absurd (false≢true (k refl))
had_value false b false k = or_none b

pub or_more : (p q t s : Bool) → p ≡ (q || t) → (p || s) ≡ (q || (t || s))
or_more p q t s h = ap (λ b. b || s) h ∙ or_group q t s

pub or_swap : (a b : Bool) → (a || b) ≡ (b || a)
or_swap true true = refl
or_swap true false = refl
or_swap false true = refl
or_swap false false = refl

pub put_both : (out fs first kept new all : List Value) (rs rest : List (List Value)) (z : Value)
    → kept ≡ out ++ fs → fs ≡ first → rs ≡ rest → all_of first rest ≡ all
    → list_any (λ v. same v z) new ≡ (list_any (λ v. same v z) kept || list_any (λ ws. list_any (λ v. same v z) ws) rs)
    → list_any (λ v. same v z) new ≡ (list_any (λ v. same v z) out || list_any (λ v. same v z) all)
put_both out fs first kept new all rs rest z k f r s h =
    let is = λ (v : Value). same v z in
    let has = λ (ws : List Value). list_any (λ v. same v z) ws in
    h
    ∙ ap (λ b. b || list_any has rs) (ap (list_any is) k ∙ list_any-append is out fs)
    ∙ or_group (list_any is out) (list_any is fs) (list_any has rs)
    ∙ ap (λ b. list_any is out || b) ((λ i. list_any is (f i) || list_any has (r i)) ∙ sym (any-all_of first rest z) ∙ ap (list_any is) s)

pub absorb_step : (runs : List (List Value)) (k : ℕ) (x y all new : List Value) (z : Value) (b : Bool) → k < length runs
    → x ≡ get_or runs k x → y ≡ x → new ≡ with_values all y
    → list_any (λ v. same v z) all ≡ (b || list_any (λ ws. list_any (λ v. same v z) ws) (take k runs))
    → list_any (λ v. same v z) new ≡ (b || list_any (λ ws. list_any (λ v. same v z) ws) (take (k + 1) runs))
absorb_step runs k x y all new z b lt e f n h =
    let is = λ (v : Value). same v z in
    let has = λ (ws : List Value). list_any (λ v. same v z) ws in
    ap (list_any is) n ∙ any-with_values all y z ∙ (λ i. h i || list_any is (f i))
    ∙ or_group b (list_any has (take k runs)) (list_any is x) ∙ ap (λ c. b || c) (sym (any_step has runs k x lt e))

pub absorb_end : (f all : List Value) (r runs rest : List (List Value)) (k : ℕ) (b : Bool) (z : Value) → f ≡ all → r ≡ drop k rest → runs ≡ rest
    → list_any (λ v. same v z) all ≡ (b || list_any (λ ws. list_any (λ v. same v z) ws) (take k runs))
    → list_any (λ v. same v z) (all_of f r) ≡ (b || list_any (λ ws. list_any (λ v. same v z) ws) rest)
absorb_end f all r runs rest k b z e g h n =
    let is = λ (v : Value). same v z in
    let has = λ (ws : List Value). list_any (λ v. same v z) ws in
    any-all_of f r z ∙ (λ i. (ap (list_any is) e ∙ n) i || list_any has (g i))
    ∙ or_group b (list_any has (take k runs)) (list_any has (drop k rest))
    ∙ ap (λ c. b || c) ((λ i. list_any has (take k (h i)) || list_any has (drop k rest))
    ∙ sym (list_any-append has (take k rest) (drop k rest)) ∙ ap (list_any has) (take-append-drop k rest))

pub under_any : (a more first : List Value) (b rest : List (List Value)) (z : Value) → a ≡ more → b ≡ first ∷ rest
    → list_any (λ v. same v z) (all_of a b) ≡ (list_any (λ v. same v z) (all_of first rest) || list_any (λ v. same v z) more)
under_any a more first b rest z f e =
    let is = λ (v : Value). same v z in
    let has = λ (ws : List Value). list_any (λ v. same v z) ws in
    any-all_of a b z ∙ (λ i. list_any is (f i) || list_any has (e i))
    ∙ ap (λ c. list_any is more || c) (sym (any-all_of first rest z)) ∙ or_swap (list_any is more) (list_any is (all_of first rest))

pub more_any : (run more d s first : List Value) (rest : List (List Value)) (z : Value) → run ≡ with_values d s → d ≡ more → s ≡ first
    → (list_any (λ v. same v z) run || list_any (λ ws. list_any (λ v. same v z) ws) rest)
    ≡ (list_any (λ v. same v z) (all_of first rest) || list_any (λ v. same v z) more)
more_any run more d s first rest z e f g =
    let is = λ (v : Value). same v z in
    let has = λ (ws : List Value). list_any (λ v. same v z) ws in
    ap (λ b. b || list_any has rest) (ap (list_any is) e ∙ any-with_values d s z ∙ (λ i. list_any is (f i) || list_any is (g i)))
    ∙ or_group (list_any is more) (list_any is first) (list_any has rest)
    ∙ ap (λ c. list_any is more || c) (sym (any-all_of first rest z)) ∙ or_swap (list_any is more) (list_any is (all_of first rest))

pub have_first : (h : Bool) (s first : List Value) (rest : List (List Value)) (v : Value) → h ≡ list_any (λ w. same w v) s
    → s ≡ first → h ≡ true → h ≡ list_any (λ w. same w v) (all_of first rest)
have_first h s first rest v e f t =
    t ∙ sym (any-all_of first rest v ∙ either_true (list_any (λ w. same w v) first)
    (list_any (λ ws. list_any (λ w. same w v) ws) rest) (sym (e ∙ ap (list_any (λ w. same w v)) f) ∙ t))

pub have_rest : (h k : Bool) (s first : List Value) (q rest : List (List Value)) (v : Value) → h ≡ list_any (λ w. same w v) s → s ≡ first → h ≡ false
    → k ≡ list_any (λ ws. list_any (λ w. same w v) ws) q → q ≡ rest → k ≡ list_any (λ w. same w v) (all_of first rest)
have_rest h k s first q rest v e f t g r =
    g ∙ ap (list_any (λ (ws : List Value). list_any (λ w. same w v) ws)) r
    ∙ sym (any-all_of first rest v ∙ ap (λ b. b || list_any (λ ws. list_any (λ w. same w v) ws) rest) (sym (e ∙ ap (list_any (λ w. same w v)) f) ∙ t))

pub lacked : (a : Bool) (new one two s first more : List Value) (rs rest : List (List Value)) (z : Value) → new ≡ [] → s ≡ first
    → rs ≡ rest → all_of first rest ≡ more
    → (a || list_any (λ v. same v z) one) ≡ ((a || list_any (λ v. same v z) new) || list_any (λ v. same v z) s)
    → (a || list_any (λ v. same v z) two) ≡ ((a || list_any (λ v. same v z) one) || list_any (λ ws. list_any (λ v. same v z) ws) rs)
    → (a || list_any (λ v. same v z) two) ≡ (a || list_any (λ v. same v z) more)
lacked a new one two s first more rs rest z n f r e h k =
    let is = λ (v : Value). same v z in
    let has = λ (ws : List Value). list_any (λ v. same v z) ws in
    k
    ∙ ap (λ p. p || list_any has rs) (h ∙ ap (λ xs. (a || list_any is xs) || list_any is s) n ∙ ap (λ p. p || list_any is s) (sym (or_none a)))
    ∙ or_group a (list_any is s) (list_any has rs)
    ∙ ap (λ b. a || b) ((λ i. list_any is (f i) || list_any has (r i)) ∙ sym (any-all_of first rest z) ∙ ap (list_any is) e)

-- one more value that is looked up
pub lacking_step : (a b c t : Bool) (items : List Value) (i : ℕ) (v z : Value) → i < length items → v ≡ get_or items i v
    → (a || c) ≡ ((a || b) || same v z) → (a || b) ≡ (t || list_any (λ w. same w z) (take i items))
    → (a || c) ≡ (t || list_any (λ w. same w z) (take (i + 1) items))
lacking_step a b c t items i v z lt e h k =
    h ∙ or_more (a || b) t (list_any (λ w. same w z) (take i items)) (same v z) k ∙ ap (λ p. t || p) (sym (any_step (λ w. same w z) items i v lt e))

among : (vs ws : List Value) (x : Value) → list_all (λ v. list_any (λ w. same w v) ws) vs ≡ true
    → list_any (λ v. same v x) vs ≡ true → list_any (λ w. same w x) ws ≡ true
among [] ws x h k = absurd (false≢true k)
among (v ∷ vs) ws x h k =
    let first : list_any (λ w. same w v) ws ≡ true = grind (arith, common_steps) in
    let others : list_all (λ u. list_any (λ w. same w u) ws) vs ≡ true = grind (arith, common_steps) in
    elim (or_cases (same v x) (list_any (λ u. same u x) vs) k) [ inl e ↦ sym (any_same-along v x e ws) ∙ first | inr e ↦ among vs ws x others e ]

-- each of two lists has the values of the other
pub among_alike : (vs ws : List Value) → list_all (λ v. list_any (λ w. same w v) ws) vs ≡ true → list_all (λ v. list_any (λ w. same w v) vs) ws ≡ true
    → (x : Value) → list_any (λ v. same v x) vs ≡ list_any (λ w. same w x) ws
among_alike vs ws h k x = either_way _ _ (among vs ws x h) (among ws vs x k)

-- the last of several lists, and one before others
pub run_last : (runs : List (List Value)) (n : ℕ) (x y all : List Value) → n + 1 ≡ length runs → x ≡ get_or runs n x → y ≡ x
    → all ≡ [] ++ y → (vs : List Value) → all_of vs (drop n runs) ≡ with_values vs all
run_last runs n x y all e at f a vs =
    let last : drop n runs ≡ x ∷ [] =
    at_drop_more (λ rs. rs) runs n x (omega (arith, e)) ∙ ap (λ r. r ∷ drop (n + 1) runs) (sym at)
    ∙ ap (λ rs. x ∷ rs) (drop_all (n + 1) runs (omega (arith, e))) in
    ap (λ rs. all_of vs rs) last ∙ ap (with_values vs) (sym (a ∙ f))

pub run_before : (runs : List (List Value)) (i j : ℕ) (x y all new : List Value) → j + 1 ≡ i → j < length runs
    → x ≡ get_or runs j x → y ≡ x → new ≡ with_values y all
    → ((vs : List Value) → all_of vs (drop i runs) ≡ with_values vs all) → (vs : List Value) → all_of vs (drop j runs) ≡ with_values vs new
run_before runs i j x y all new e lt at f n h vs =
    let here : drop j runs ≡ x ∷ drop i runs =
    at_drop_more (λ rs. rs) runs j x lt ∙ ap (λ r. r ∷ drop (j + 1) runs) (sym at) ∙ ap (λ k. x ∷ drop k runs) e in
    ap (λ rs. all_of vs rs) here ∙ ap (with_values vs) (h x ∙ ap (λ xs. with_values xs all) (sym f) ∙ sym n)

-- lists that are stored alike
pub alike : (first other f g : List Value) (rest others r s : List (List Value)) (z : Value) → f ≡ first → g ≡ other → r ≡ rest → s ≡ others
    → list_any (λ v. same v z) f ≡ list_any (λ v. same v z) g
    → list_any (λ ws. list_any (λ v. same v z) ws) r ≡ list_any (λ ws. list_any (λ v. same v z) ws) s
    → list_any (λ v. same v z) (all_of first rest) ≡ list_any (λ v. same v z) (all_of other others)
alike first other f g rest others r s z a b c d h k =
    let is = λ (v : Value). same v z in
    let has = λ (ws : List Value). list_any (λ v. same v z) ws in
    any-all_of first rest z
    ∙ (λ i. (ap (list_any is) (sym a) ∙ h ∙ ap (list_any is) b) i || (ap (list_any has) (sym c) ∙ k ∙ ap (list_any has) d) i)
    ∙ sym (any-all_of other others z)
