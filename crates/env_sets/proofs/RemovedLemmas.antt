-- Blocks of entries in order, without some entries.
use Rattle.std.proofs.Common.{◌≡◌, ◌<◌, Bool, true, false, ◌&&◌, ◌||◌, not, eqb, refl, sym, ap, ◌∙◌, subst, arith, List, [], ◌∷◌, ◌++◌, length, get_or}
use Rattle.std.specs.declared.cmp.Ordering.{Ordering}
use Rattle.std.specs.declared.cmp.Ordering.TheVariants.{Less, Equal, Greater}
use Rattle.std.specs.Ordering.{ordering_then, is_eq}
use Rattle.std.proofs.lemmas.Bool.Decides.{nat_tests}
use Rattle.smpl_terms.specs.declared.var.Var.{Var}
use Rattle.smpl_terms.specs.declared.value.Value.{Value}
use Rattle.smpl_terms.specs.Values.{same, value_order}
use Rattle.smpl_terms.specs.Vars.{same_var}
use Rattle.smpl_terms.specs.Environments.{Environment}
use Rattle.smpl_terms.proofs.VarLaws.{same_var-equal}
use Rattle.smpl_terms.proofs.ValueLaws.{value_order_total, is_eq-value_order}
use Rattle.env_sets.specs.declared.bounds.Bound.{Bound}
use Rattle.env_sets.specs.declared.bounds.Bound.TheVariants.{Is}
use Rattle.env_sets.specs.Bounds.{fits}
use Rattle.env_sets.specs.Sets.{Entries, entry_denotes, set_denotes, set_vars}
use Rattle.env_sets.specs.Ascending.{bound_side, side, Ascend}
use Rattle.env_sets.specs.Blocks.{LastIsBefore, FirstIsAfter}
use Rattle.env_sets.proofs.AscendingLemmas.{beside_same}
use Rattle.env_sets.proofs.RisingLemmas.{turned}
use Rattle.env_sets.proofs.SameLemmas.{same_alike}
use Rattle.env_sets.proofs.LoopLemmas.{both_parts}
use Rattle.env_sets.proofs.PairLemmas.{both_true}
use Rattle.env_sets.proofs.BlockLemmas.{denotes-append, vars-append, ascend_front, ascend_back, front_misses_env, back_misses_env}

-- without some entries
both_kept : (p m s : Bool) → m ≡ false → (p || s) ≡ ((p || (m || s)) && true)
both_kept true m s h = refl
both_kept false true s h = absurd cc
both_kept false false true h = refl
both_kept false false false h = refl

none_kept : (p s w : Bool) → p ≡ false → s ≡ false → (p || s) ≡ (w && false)
none_kept true s w h k = absurd cc
none_kept false true w h k = absurd cc
none_kept false false true h k = refl
none_kept false false false h k = refl

cut_by : (xs ms ys : Entries) (env : Environment) (s : Bool) → Ascend (xs ++ (ms ++ ys))
    → (s ≡ false → set_denotes ms env ≡ false) → (s ≡ true → LastIsBefore env xs) → (s ≡ true → FirstIsAfter env ys)
    → (set_denotes xs env || set_denotes ys env) ≡ ((set_denotes xs env || (set_denotes ms env || set_denotes ys env)) && not s)
cut_by xs ms ys env true a m l f =
    none_kept (set_denotes xs env) (set_denotes ys env) (set_denotes xs env || (set_denotes ms env || set_denotes ys env))
    (front_misses_env xs env (ascend_front xs (ms ++ ys) a) (l refl))
    (back_misses_env ys env (ascend_back ms ys (ascend_back xs (ms ++ ys) a)) (f refl))
cut_by xs ms ys env false a m l f = both_kept (set_denotes xs env) (set_denotes ms env) (set_denotes ys env) (m refl)

pub without_meaning : (all xs ms ys : Entries) (env : Environment) (s : Bool) → all ≡ xs ++ (ms ++ ys) → Ascend all
    → (s ≡ false → set_denotes ms env ≡ false) → (s ≡ true → LastIsBefore env xs) → (s ≡ true → FirstIsAfter env ys)
    → set_denotes (xs ++ ys) env ≡ (set_denotes all env && not s)
without_meaning all xs ms ys env s is a m l f =
    denotes-append xs ys env
    ∙ cut_by xs ms ys env s (subst Ascend is a) m l f
    ∙ ap (λ b. (set_denotes xs env || b) && not s) (sym (denotes-append ms ys env))
    ∙ ap (λ b. b && not s) (sym (denotes-append xs (ms ++ ys) env))
    ∙ ap (λ es. set_denotes es env && not s) (sym is)

pub without_vars : (all xs ms ys : Entries) (t : Var → Bool) → all ≡ xs ++ (ms ++ ys) → set_vars t all ≡ true
    → set_vars t (xs ++ ys) ≡ true
without_vars all xs ms ys t is h =
    let parts = both_parts (set_vars t xs) (set_vars t (ms ++ ys)) (sym (vars-append xs (ms ++ ys) t) ∙ ap (set_vars t) (sym is) ∙ h) in
    let more = both_parts (set_vars t ms) (set_vars t ys) (sym (vars-append ms ys t) ∙ parts.1) in
    vars-append xs ys t ∙ both_true (set_vars t xs) (set_vars t ys) parts.0 more.1

-- if no entry is removed, nothing changes
pub nothing_taken : (all xs ms ys : Entries) (env : Environment) (s : Bool) → all ≡ xs ++ (ms ++ ys)
    → eqb (length ms) 0 ≡ true → set_denotes (xs ++ ys) env ≡ (set_denotes all env && not s)
    → set_denotes all env ≡ (set_denotes all env && not s)
nothing_taken all xs [] ys env s is none h = ap (λ es. set_denotes es env) is ∙ h
nothing_taken all xs (m ∷ ms) ys env s is none h = absurd (grind (arith, nat_tests, none))

-- an entry that fixes x first
side_of : (e pairs : List (Var × Bound)) (p : Var × Bound) (x : Var) (w : Value) (env : Environment) → pairs ≡ e
    → 0 < length pairs → p ≡ get_or pairs 0 p → p.1 ≡ Is w → same_var p.0 x ≡ true
    → (r : Ordering) × (side e env ≡ ordering_then (value_order w (env x)) r)
side_of e [] p x w env f some at is here = absurd (omega arith)
side_of e (q ∷ qs) p x w env f some at is here = (
  side qs env,
  ap (λ ps. side ps env) (sym f)
      ∙ ap (λ (r : Var × Bound). bound_side r.1 (env r.0) (side qs env)) (sym at)
      ∙ ap (λ b. bound_side b (env p.0) (side qs env)) is
      ∙ ap (λ y. ordering_then (value_order w (env y)) (side qs env)) (same_var-equal p.0 x here),
)

equal_order : (o : Ordering) → is_eq o ≡ true → o ≡ Equal
equal_order Less h = absurd cc
equal_order Equal h = refl
equal_order Greater h = absurd cc

same_order : (v z : Value) → same v z ≡ true → value_order v z ≡ Equal
same_order v z h = equal_order (value_order v z) (is_eq-value_order v z ∙ h)

pub side_less : (e pairs : List (Var × Bound)) (p : Var × Bound) (x : Var) (v w : Value) (o : Ordering) → pairs ≡ e
    → 0 < length pairs → p ≡ get_or pairs 0 p → p.1 ≡ Is w → same_var p.0 x ≡ true → o ≡ value_order w v → o ≡ Less
    → (env : Environment) → same v (env x) ≡ true → side e env ≡ Less
side_less e pairs p x v w o f some at is here g h env k =
    let s = side_of e pairs p x w env f some at is here in
    s.1 ∙ ap (λ q. ordering_then q s.0) (beside_same w v (env x) (sym g ∙ h) (same_order v (env x) k))

above_same : (w v z : Value) → value_order w v ≡ Greater → value_order v z ≡ Equal → value_order w z ≡ Greater
above_same w v z h k = turned z w Less (sym (value_order_total.congr v z w k) ∙ turned w v Greater h)

pub side_greater : (e pairs : List (Var × Bound)) (p : Var × Bound) (x : Var) (v w : Value) (o : Ordering) → pairs ≡ e
    → 0 < length pairs → p ≡ get_or pairs 0 p → p.1 ≡ Is w → same_var p.0 x ≡ true → o ≡ value_order w v → o ≡ Greater
    → (env : Environment) → same v (env x) ≡ true → side e env ≡ Greater
side_greater e pairs p x v w o f some at is here g h env k =
    let s = side_of e pairs p x w env f some at is here in
    s.1 ∙ ap (λ q. ordering_then q s.0) (above_same w v (env x) (sym g ∙ h) (same_order v (env x) k))

denotes_of : (e pairs : List (Var × Bound)) (p : Var × Bound) (x : Var) (w : Value) (env : Environment) → pairs ≡ e
    → 0 < length pairs → p ≡ get_or pairs 0 p → p.1 ≡ Is w → same_var p.0 x ≡ true
    → (r : Bool) × (entry_denotes e env ≡ (same w (env x) && r))
denotes_of e [] p x w env f some at is here = absurd (omega arith)
denotes_of e (q ∷ qs) p x w env f some at is here = (
  entry_denotes qs env,
  ap (λ ps. entry_denotes ps env) (sym f)
      ∙ ap (λ (r : Var × Bound). fits (env r.0) r.1 && entry_denotes qs env) (sym at)
      ∙ ap (λ b. fits (env p.0) b && entry_denotes qs env) is
      ∙ ap (λ y. same w (env y) && entry_denotes qs env) (same_var-equal p.0 x here),
)

pub side_equal : (e pairs : List (Var × Bound)) (p : Var × Bound) (x : Var) (v w : Value) (o : Ordering) → pairs ≡ e
    → 0 < length pairs → p ≡ get_or pairs 0 p → p.1 ≡ Is w → same_var p.0 x ≡ true → o ≡ value_order w v → o ≡ Equal
    → (env : Environment) → same v (env x) ≡ false → entry_denotes e env ≡ false
side_equal e pairs p x v w o f some at is here g h env k =
    let s = denotes_of e pairs p x w env f some at is here in
    s.1 ∙ ap (λ b. b && s.0)
    (same_alike w v (env x) (sym (is_eq-value_order w v) ∙ ap is_eq (sym g ∙ h)) ∙ k)
