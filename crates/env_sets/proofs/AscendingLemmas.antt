-- Binary search in entries that ascend.
use Rattle.std.proofs.Common.{◌≡◌, ℕ, suc, zero, ◌-◌, ◌<◌, ◌≤◌, Bool, true, false, ◌&&◌, ◌||◌, refl, sym, ap, ◌∙◌, subst, arith}
use Rattle.std.proofs.Common.{List, [], ◌∷◌, length, get_or, take, drop, take-append-drop}
use Rattle.std.specs.declared.cmp.Ordering.{Ordering}
use Rattle.std.specs.declared.cmp.Ordering.TheVariants.{Less, Equal, Greater}
use Rattle.std.specs.Ordering.{ordering_then, is_lt, is_eq, is_gt}
use Rattle.std.proofs.Math.Seq.{drop-cons}
use Rattle.std.proofs.lemmas.List.{drop_all}
use Rattle.std.proofs.lemmas.List.Folds.{list_any-append}
use Rattle.smpl_terms.specs.declared.var.Var.{Var}
use Rattle.smpl_terms.specs.declared.value.Value.{Value}
use Rattle.smpl_terms.specs.Values.{value_order}
use Rattle.smpl_terms.specs.Environments.{Environment}
use Rattle.smpl_terms.specs.Vars.{same_var}
use Rattle.smpl_terms.proofs.VarLaws.{same_var-equal}
use Rattle.smpl_terms.proofs.ValueLaws.{value_order_total, is_eq-value_order}
use Rattle.env_sets.specs.declared.bounds.Bound.{Bound}
use Rattle.env_sets.specs.declared.bounds.Bound.TheVariants.{Is, Not}
use Rattle.env_sets.specs.Bounds.{fits}
use Rattle.env_sets.specs.Sets.{Entries, entry_denotes, set_denotes}
use Rattle.env_sets.specs.Ascending.{bound_side, side, NoLater, MayFollow, FirstMayFollow, Ascend, IsInOrder}
use Rattle.env_sets.proofs.RisingLemmas.{turned}

-- how values compare with one value
no_later_less : (o p r s : Ordering) → (p ≡ Less → o ≡ Less) → (p ≡ Equal → o ≡ Less)
    → NoLater (ordering_then o r) (ordering_then p s)
no_later_less o Less r s h k = subst (λ q. NoLater (ordering_then q r) Less) (sym (h refl)) (λ a. refl, λ b. absurd cc)
no_later_less o Equal r s h k = subst (λ q. NoLater (ordering_then q r) s) (sym (k refl)) (λ a. refl, λ b. absurd cc)
no_later_less o Greater r s h k = (λ a. absurd cc, λ b. refl)

no_later_same : (o r s : Ordering) → NoLater r s → NoLater (ordering_then o r) (ordering_then o s)
no_later_same Less r s t = (λ a. refl, λ b. b)
no_later_same Equal r s t = t
no_later_same Greater r s t = (λ a. a, λ b. refl)

-- a value before another, compared with a value that is the same as the other
pub beside_same : (v w x : Value) → value_order v w ≡ Less → value_order w x ≡ Equal → value_order v x ≡ Less
beside_same v w x h k =
    turned x v Greater (sym (value_order_total.congr w x v k) ∙ turned v w Less h)

fixed_less : (v w x : Value) (r s : Ordering) → value_order v w ≡ Less
    → NoLater (bound_side (Is v) x r) (bound_side (Is w) x s)
fixed_less v w x r s h =
    no_later_less (value_order v x) (value_order w x) r s (λ k. value_order_total.trans v w x h k)
    (λ k. beside_same v w x h k)

fixed_same : (v w x : Value) (r s : Ordering) → value_order v w ≡ Equal → NoLater r s
    → NoLater (bound_side (Is v) x r) (bound_side (Is w) x s)
fixed_same v w x r s h t =
    subst (λ o. NoLater (ordering_then (value_order v x) r) (ordering_then o s)) (value_order_total.congr v w x h)
    (no_later_same (value_order v x) r s t)

-- an entry from one pair on
pub side_from : (ps : List (Var × Bound)) (n : ℕ) (p : Var × Bound) (env : Environment) → n < length ps
    → p ≡ get_or ps n p
    → side (drop n ps) env ≡ bound_side p.1 (env p.0) (side (drop (suc n) ps) env)
side_from ps n p env lt e =
    ap (λ qs. side qs env) (drop-cons ps n p lt)
    ∙ ap (λ (q : Var × Bound). bound_side q.1 (env q.0) (side (drop (suc n) ps) env)) (sym e)

-- an entry that is not beside env does not stand for it
and_false : (a b : Bool) → b ≡ false → (a && b) ≡ false
and_false true b h = h
and_false false b h = refl

then_apart : (o r : Ordering) (b : Bool) → is_eq (ordering_then o r) ≡ false → (is_eq r ≡ false → b ≡ false)
    → (is_eq o && b) ≡ false
then_apart Less r b h k = refl
then_apart Equal r b h k = k h
then_apart Greater r b h k = refl

bound_apart : (d : Bound) (x : Value) (r : Ordering) (b : Bool) → is_eq (bound_side d x r) ≡ false
    → (is_eq r ≡ false → b ≡ false) → (fits x d && b) ≡ false
bound_apart (Is v) x r b h k = ap (λ a. a && b) (sym (is_eq-value_order v x)) ∙ then_apart (value_order v x) r b h k
bound_apart (Not vs) x r b h k = absurd cc

pub aside : (ps : List (Var × Bound)) (env : Environment) → is_eq (side ps env) ≡ false → entry_denotes ps env ≡ false
aside [] env h = absurd cc
aside (p ∷ ps) env h = bound_apart p.1 (env p.0) (side ps env) (entry_denotes ps env) h (aside ps env)

pub before_misses : (e : List (Var × Bound)) (env : Environment) → side e env ≡ Less → entry_denotes e env ≡ false
before_misses e env h = aside e env (ap is_eq h)

pub after_misses : (e : List (Var × Bound)) (env : Environment) → side e env ≡ Greater → entry_denotes e env ≡ false
after_misses e env h = aside e env (ap is_eq h)

pub neither : (b c : Bool) → b ≡ false → c ≡ false → (b || c) ≡ false
neither b c h k = ap (λ x. x || c) h ∙ k

-- all entries before an entry that is before env are before env
all_before : (es : Entries) (n : ℕ) (e x : List (Var × Bound)) (env : Environment) → FirstMayFollow e es
    → Ascend es → n < length es → x ≡ get_or es n x → side x env ≡ Less → side e env ≡ Less
all_before [] n e x env f a lt at h = absurd (omega arith)
all_before (y ∷ es) zero e x env f a lt at h = (f env).0 (ap (λ z. side z env) (sym at) ∙ h)
all_before (y ∷ es) (suc n) e x env f a lt at h = (f env).0 (all_before es n y x env a.0 a.1 (omega arith) at h)

front_misses : (es : Entries) (n : ℕ) (x : List (Var × Bound)) (env : Environment) → Ascend es → n < length es
    → x ≡ get_or es n x → side x env ≡ Less → set_denotes (take (suc n) es) env ≡ false
front_misses [] n x env a lt at h = absurd (omega arith)
front_misses (y ∷ es) zero x env a lt at h =
    neither (entry_denotes y env) false (before_misses y env (ap (λ z. side z env) (sym at) ∙ h)) refl
front_misses (y ∷ es) (suc n) x env a lt at h =
    neither (entry_denotes y env) (set_denotes (take (suc n) es) env)
    (before_misses y env (all_before es n y x env a.0 a.1 (omega arith) at h))
    (front_misses es n x env a.1 (omega arith) at h)

pub front_misses_at : (es : Entries) (n m : ℕ) (x : List (Var × Bound)) (env : Environment) → Ascend es
    → n < length es → x ≡ get_or es n x → side x env ≡ Less → m ≡ suc n → set_denotes (take m es) env ≡ false
front_misses_at es n m x env a lt at h k = ap (λ j. set_denotes (take j es) env) k ∙ front_misses es n x env a lt at h

-- all entries after an entry that is after env are after env
pub all_after : (es : Entries) (e : List (Var × Bound)) (env : Environment) → FirstMayFollow e es → Ascend es
    → side e env ≡ Greater → set_denotes es env ≡ false
all_after [] e env f a h = refl
all_after (y ∷ es) e env f a h =
    let after : side y env ≡ Greater = (f env).1 h in
    neither (entry_denotes y env) (set_denotes es env) (after_misses y env after) (all_after es y env a.0 a.1 after)

back_misses : (es : Entries) (n : ℕ) (x : List (Var × Bound)) (env : Environment) → Ascend es → n < length es
    → x ≡ get_or es n x → side x env ≡ Greater → set_denotes (drop n es) env ≡ false
back_misses [] n x env a lt at h = absurd (omega arith)
back_misses (y ∷ es) zero x env a lt at h =
    let after : side y env ≡ Greater = ap (λ z. side z env) (sym at) ∙ h in
    neither (entry_denotes y env) (set_denotes es env) (after_misses y env after) (all_after es y env a.0 a.1 after)
back_misses (y ∷ es) (suc n) x env a lt at h = back_misses es n x env a.1 (omega arith) at h

-- what neither the first n nor the rest stand for
pub parts_miss : (es : Entries) (n : ℕ) (x : List (Var × Bound)) (env : Environment) → Ascend es → n < length es
    → x ≡ get_or es n x → side x env ≡ Greater
    → set_denotes (take n es) env ≡ false → set_denotes es env ≡ false
parts_miss es n x env a lt at h front =
    ap (λ fs. set_denotes fs env) (sym (take-append-drop n es))
    ∙ list_any-append (λ e. entry_denotes e env) (take n es) (drop n es)
    ∙ neither _ _ front (back_misses es n x env a lt at h)

-- what a test of the side shows
less : (o : Ordering) → is_lt o ≡ true → o ≡ Less
less Less h = refl
less Equal h = absurd cc
less Greater h = absurd cc

more : (o : Ordering) → is_gt o ≡ true → o ≡ Greater
more Less h = absurd cc
more Equal h = absurd cc
more Greater h = refl

pub is_before : (x ps : List (Var × Bound)) (env : Environment) (o : Ordering) → ps ≡ x → o ≡ side ps env
    → true ≡ is_lt o → side x env ≡ Less
is_before x ps env o e f h = ap (λ z. side z env) (sym e) ∙ sym f ∙ less o (sym h)

pub is_after : (x ps : List (Var × Bound)) (env : Environment) (o : Ordering) → ps ≡ x → o ≡ side ps env
    → true ≡ is_gt o → side x env ≡ Greater
is_after x ps env o e f h = ap (λ z. side z env) (sym e) ∙ sym f ∙ more o (sym h)

-- one more entry in front
ascend_more : (es : Entries) (n : ℕ) (x y : List (Var × Bound)) → suc n < length es → x ≡ get_or es n x
    → y ≡ get_or es (suc n) y → MayFollow x y
    → Ascend (drop (suc n) es) → Ascend (drop n es)
ascend_more [] n x y lt at next m a = absurd (omega arith)
ascend_more (e ∷ []) n x y lt at next m a = absurd (omega arith)
ascend_more (e ∷ f ∷ es) zero x y lt at next m a =
    (subst (λ b. MayFollow e b) next (subst (λ b. MayFollow b y) at m), a)
ascend_more (e ∷ f ∷ es) (suc n) x y lt at next m a = ascend_more (f ∷ es) n x y (omega arith) at next m a

pub ascend_step : (es : Entries) (n : ℕ) (x y ps qs : List (Var × Bound)) → 0 < n → n < length es
    → x ≡ get_or es (n - 1) x → y ≡ get_or es n y
    → ps ≡ x → qs ≡ y → MayFollow ps qs → Ascend (drop n es) → Ascend (drop (n - 1) es)
ascend_step es zero x y ps qs some lt at next e f m a = absurd (omega arith)
ascend_step es (suc n) x y ps qs some lt at next e f m a =
    let one : suc n - 1 ≡ n = omega arith in
    subst (λ k. Ascend (drop k es)) (sym one)
    (ascend_more es n x y lt (subst (λ k. x ≡ get_or es k x) one at) next
    (subst (λ b. MayFollow x b) f (subst (λ b. MayFollow b qs) e m)) a)

-- the last entry alone
last_alone : (es : Entries) (n : ℕ) → suc n ≡ length es → Ascend (drop n es)
last_alone [] n e = absurd (omega (arith, e))
last_alone (x ∷ []) zero e = (tt, tt)
last_alone (x ∷ []) (suc n) e = absurd (omega (arith, e))
last_alone (x ∷ y ∷ es) zero e = absurd (omega (arith, e))
last_alone (x ∷ y ∷ es) (suc n) e = last_alone (y ∷ es) n (omega (arith, e))

pub ascend_last : (es : Entries) (n : ℕ) → 0 < n → n ≡ length es → Ascend (drop (n - 1) es)
ascend_last es n some e = last_alone es (n - 1) (omega (arith, some, e))

-- the number after all of them
pub none_in_order : (es : Entries) (n : ℕ) → n ≡ length es → IsInOrder n es
unfolding IsInOrder
none_in_order es n e = (omega (arith, e), subst Ascend (sym (drop_all n es (omega (arith, e)))) tt)

-- what the order shows
pub in_order_within : (es : Entries) (n : ℕ) → IsInOrder n es → n ≤ length es
unfolding IsInOrder
in_order_within es n h = h.0

pub in_order_ascend : (es : Entries) (n : ℕ) → IsInOrder n es → Ascend (drop n es)
unfolding IsInOrder
in_order_ascend es n h = h.1

-- pairs that fix one variable
at_one : (p q : Var × Bound) (v w : Value) (env : Environment) (r s : Ordering) → p.1 ≡ Is v → q.1 ≡ Is w
    → same_var p.0 q.0 ≡ true
    → NoLater (bound_side (Is v) (env q.0) r) (bound_side (Is w) (env q.0) s)
    → NoLater (bound_side p.1 (env p.0) r) (bound_side q.1 (env q.0) s)
at_one p q v w env r s e f one t =
    subst (λ b. NoLater (bound_side p.1 (env p.0) r) (bound_side b (env q.0) s)) (sym f)
    (subst (λ b. NoLater (bound_side b (env p.0) r) (bound_side (Is w) (env q.0) s)) (sym e)
    (subst (λ y. NoLater (bound_side (Is v) (env y) r) (bound_side (Is w) (env q.0) s))
    (sym (same_var-equal p.0 q.0 one)) t))

pub pair_less : (p q : Var × Bound) (v w : Value) (o : Ordering) → p.1 ≡ Is v → q.1 ≡ Is w
    → same_var p.0 q.0 ≡ true → o ≡ value_order v w
    → o ≡ Less → (env : Environment) (r s : Ordering)
    → NoLater (bound_side p.1 (env p.0) r) (bound_side q.1 (env q.0) s)
pair_less p q v w o e f one is h env r s = at_one p q v w env r s e f one (fixed_less v w (env q.0) r s (sym is ∙ h))

pub pair_equal : (p q : Var × Bound) (v w : Value) (o : Ordering) → p.1 ≡ Is v → q.1 ≡ Is w
    → same_var p.0 q.0 ≡ true → o ≡ value_order v w
    → o ≡ Equal → (env : Environment) (r s : Ordering) → NoLater r s
    → NoLater (bound_side p.1 (env p.0) r) (bound_side q.1 (env q.0) s)
pair_equal p q v w o e f one is h env r s t =
    at_one p q v w env r s e f one (fixed_same v w (env q.0) r s (sym is ∙ h) t)
