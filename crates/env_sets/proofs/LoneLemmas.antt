-- Entries that bound one variable alone, and what is kept of a list of values.
use Rattle.std.proofs.Common.{◌≡◌, ◌<◌, ◌≤◌, Bool, true, false, ◌&&◌, ◌||◌, not, refl, sym, ap, ◌∙◌, arith, List, [], ◌∷◌, ◌++◌, length, get_or}
use Rattle.std.specs.List.{list_any}
use Rattle.std.proofs.lemmas.Grind.{common_steps}
use Rattle.std.proofs.lemmas.List.Folds.{list_any-append, list_all-append}
use Rattle.smpl_terms.specs.declared.var.Var.{Var}
use Rattle.smpl_terms.specs.declared.value.Value.{Value}
use Rattle.smpl_terms.specs.Values.{same}
use Rattle.smpl_terms.specs.Vars.{same_var}
use Rattle.smpl_terms.specs.Environments.{Environment}
use Rattle.smpl_terms.proofs.VarLaws.{same_var-equal}
use Rattle.env_sets.specs.declared.bounds.Bound.{Bound}
use Rattle.env_sets.specs.Bounds.{fits}
use Rattle.env_sets.specs.Sets.{entry_denotes, entry_vars, set_denotes, set_vars}
use Rattle.env_sets.proofs.LoopLemmas.{both_parts}

-- an entry that bounds one variable alone
and-true : (a : Bool) → (a && true) ≡ a
and-true true = refl
and-true false = refl

pub lone_meaning : (e pairs : List (Var × Bound)) (p : Var × Bound) (x : Var) (env : Environment) → pairs ≡ e → 1 ≤ length pairs → length pairs < 2
    → p ≡ get_or pairs 0 p → same_var p.0 x ≡ true → entry_denotes e env ≡ fits (env x) p.1
lone_meaning e [] p x env f some one at here = absurd (omega arith)
lone_meaning e (q ∷ []) p x env f some one at here =
    ap (λ ps. entry_denotes ps env) (sym f) ∙ and-true (fits (env q.0) q.1) ∙ ap (λ (r : Var × Bound). fits (env r.0) r.1) (sym at)
    ∙ ap (λ y. fits (env y) p.1) (same_var-equal p.0 x here)
lone_meaning e (q ∷ r ∷ ps) p x env f some one at here = absurd (omega arith)

pub lone_vars : (e pairs : List (Var × Bound)) (p : Var × Bound) (x : Var) (t : Var → Bool) → pairs ≡ e → 1 ≤ length pairs
    → p ≡ get_or pairs 0 p → same_var p.0 x ≡ true → entry_vars t e ≡ true → t x ≡ true
lone_vars e [] p x t f some at here h = absurd (omega arith)
lone_vars e (q ∷ ps) p x t f some at here h =
    ap t (sym (same_var-equal p.0 x here)) ∙ ap (λ (r : Var × Bound). t r.0) at ∙ (both_parts (t q.0) (entry_vars t ps) (ap (entry_vars t) f ∙ h)).0

-- one more value of the list, which is kept or not
kept_step : (k y s w : Bool) → (s ≡ true → w ≡ true) → k ≡ (y && w) → (k || (s || false)) ≡ ((y || (s || false)) && w)
kept_step k y true w kept h = let e = kept refl in grind (arith, common_steps)
kept_step k y false w kept h = grind (arith, common_steps)

dropped_step : (k y s w : Bool) → (s ≡ true → w ≡ false) → k ≡ (y && w) → k ≡ ((y || (s || false)) && w)
dropped_step k y true w kept h = let e = kept refl in grind (arith, common_steps)
dropped_step k y false w kept h = grind (arith, common_steps)

pub value_kept : (q : Value → Bool) (ks new ys : List Value) (v z : Value) → new ≡ ks ++ v ∷ [] → (same v z ≡ true → q v ≡ q z) → q v ≡ true
    → list_any (λ w. same w z) ks ≡ (list_any (λ w. same w z) ys && q z) → list_any (λ w. same w z) new ≡ (list_any (λ w. same w z) (ys ++ v ∷ []) && q z)
value_kept q ks new ys v z is along kept h =
    ap (list_any (λ w. same w z)) is ∙ list_any-append (λ w. same w z) ks (v ∷ [])
    ∙ kept_step (list_any (λ w. same w z) ks) (list_any (λ w. same w z) ys) (same v z) (q z) (λ s. sym (along s) ∙ kept) h
    ∙ ap (λ b. b && q z) (sym (list_any-append (λ w. same w z) ys (v ∷ [])))

pub value_dropped : (q : Value → Bool) (ks ys : List Value) (v z : Value) → (same v z ≡ true → q v ≡ q z) → q v ≡ false
    → list_any (λ w. same w z) ks ≡ (list_any (λ w. same w z) ys && q z) → list_any (λ w. same w z) ks ≡ (list_any (λ w. same w z) (ys ++ v ∷ []) && q z)
value_dropped q ks ys v z along out h =
    dropped_step (list_any (λ w. same w z) ks) (list_any (λ w. same w z) ys) (same v z) (q z) (λ s. sym (along s) ∙ out) h
    ∙ ap (λ b. b && q z) (sym (list_any-append (λ w. same w z) ys (v ∷ [])))

-- if no value is left to exclude, each value is allowed
nothing_has : (vs : List Value) (z : Value) → length vs ≡ 0 → list_any (λ v. same v z) vs ≡ false
nothing_has [] z h = refl
nothing_has (v ∷ vs) z h = absurd (omega arith)

pub nothing_left : (vs left : List Value) (z : Value) (e f d : Bool) → vs ≡ left → length vs ≡ 0
    → list_any (λ v. same v z) left ≡ (e && not f) → (not e ≡ true → d ≡ true) → (f ≡ true → d ≡ true) → d ≡ true
nothing_left vs left z e true d is none split outside fixed = fixed refl
nothing_left vs left z true false d is none split outside fixed =
    absurd (let n = sym split ∙ ap (list_any (λ v. same v z)) (sym is) ∙ nothing_has vs z none in cc)
nothing_left vs left z false false d is none split outside fixed = outside refl

-- more entries that add no environment
absorbed : (a b : Bool) → (b ≡ true → a ≡ true) → (a || b) ≡ a
absorbed true b h = refl
absorbed false true h = sym (h refl)
absorbed false false h = refl

pub more_meaning : (es ws all : List (List (Var × Bound))) (env : Environment) → all ≡ es ++ ws
    → (set_denotes ws env ≡ true → set_denotes es env ≡ true) → set_denotes all env ≡ set_denotes es env
more_meaning es ws all env is h =
    ap (λ ds. set_denotes ds env) is ∙ list_any-append (λ e. entry_denotes e env) es ws ∙ absorbed (set_denotes es env) (set_denotes ws env) h

pub more_vars : (es ws all : List (List (Var × Bound))) (t : Var → Bool) → all ≡ es ++ ws → set_vars t es ≡ true → set_vars t ws ≡ true → set_vars t all ≡ true
more_vars es ws all t is h k =
    ap (set_vars t) is ∙ list_all-append (λ e. entry_vars t e) es ws ∙ (λ i. h i && k i)
