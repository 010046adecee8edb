-- The entries of a set, grouped by the value at which they fix a variable.
use Rattle.std.proofs.Common.{◌≡◌, ℕ, ◌+◌, ◌<◌, Bool, true, false, ◌&&◌, ◌||◌, refl, sym, ap, ◌∙◌, subst, arith, List, [], ◌∷◌}
use Rattle.std.proofs.Common.{◌++◌, length, get_or, take, set, Option, Some, None, ⊎_elim}
use Rattle.std.specs.Option.{IfSome, MatchOption}
use Rattle.std.specs.List.{list_any}
use Rattle.std.proofs.lemmas.Bool.{cases_eq}
use Rattle.std.proofs.lemmas.List.{get_or-set_same, get_or-set_other, get_or_default, length-set, take_more}
use Rattle.smpl_terms.specs.declared.var.Var.{Var}
use Rattle.smpl_terms.specs.declared.value.Value.{Value}
use Rattle.smpl_terms.specs.Values.{same}
use Rattle.smpl_terms.specs.Environments.{Environment}
use Rattle.smpl_terms.proofs.ValueLaws.{same-refl, same-sym, same-along}
use Rattle.env_sets.specs.declared.bounds.Bound.{Bound}
use Rattle.env_sets.specs.Bounds.{fits}
use Rattle.env_sets.specs.Rising.{Rise}
use Rattle.env_sets.specs.Sets.{Entries, entry_denotes, entry_vars, set_denotes, set_vars}
use Rattle.env_sets.specs.Splits.{passes, without, AreGroupsOf, HaveVars}
use Rattle.env_sets.proofs.BoundLemmas.{any_same-along}
use Rattle.env_sets.proofs.LoopLemmas.{all_step, both_parts, denotes_one}
use Rattle.env_sets.proofs.PartLemmas.{any_none, two_places, some_value}
use Rattle.env_sets.proofs.RisingLemmas.{read_again}
use Rattle.env_sets.proofs.SplitLemmas.{entry-split, fits-Decided}

-- an entry that does not allow the value of x
not_denoted : (x : Var) (env : Environment) (e : List (Var × Bound)) → passes x (fits (env x)) e ≡ false → entry_denotes e env ≡ false
not_denoted x env e h = entry-split x (fits (env x)) env e (fits-Decided x (env x) (env x) (same-refl (env x)) e)
    ∙ ap (λ b. b && entry_denotes (without x e) env) h

-- an entry that fixes x to a value of the list
pub fixed_at : (x : Var) (values : List Value) (e : List (Var × Bound)) (v : Value) (k : ℕ) → k < length values → same (get_or values k v) v ≡ true
    → ((u : Value) → same v u ≡ false → passes x (fits u) e ≡ false)
    → (env : Environment) (w : Value) → w ≡ get_or values k w → same w (env x) ≡ false → entry_denotes e env ≡ false
fixed_at x values e v k within here only env w at apart =
    let equal : w ≡ get_or values k v = at ∙ get_or_default values k w v within in
    let alike : same w v ≡ true = ap (λ y. same y v) equal ∙ here in
    not_denoted x env e (only (env x) (same-sym v (env x) ∙ sym (same-along w v alike (env x)) ∙ same-sym (env x) w ∙ apart))

-- an entry that fixes x
pub fixed_same : (x : Var) (e : List (Var × Bound)) (v : Value) → ((u : Value) → same v u ≡ false → passes x (fits u) e ≡ false)
    → (env : Environment) → entry_denotes e env ≡ true → same v (env x) ≡ true
fixed_same x e v only env h =
    elim (same v (env x)) as (λ s. same v (env x) ≡ s → s ≡ true) [
      | true ↦ λ alike. refl
      | false ↦ λ apart. sym (not_denoted x env e (only (env x) apart)) ∙ h
    ] refl

or_gone : (a b : Bool) → b ≡ false → (a || b) ≡ a
or_gone true b h = refl
or_gone false b h = h

or_turned : (a b c : Bool) → ((a || b) || c) ≡ ((a || c) || b)
or_turned true b c = refl
or_turned false true true = refl
or_turned false true false = refl
or_turned false false true = refl
or_turned false false false = refl

-- one more entry in a group
pub group_more : (x : Var) (values : List Value) (groups next : List Entries) (others : Entries) (e : List (Var × Bound))
    (k : ℕ) → Rise values → k < length values
    → ((env : Environment) (w : Value) → w ≡ get_or values k w → same w (env x) ≡ false → entry_denotes e env ≡ false)
    → next ≡ set groups k (get_or groups k [] ++ e ∷ [])
    → (es : Entries) → AreGroupsOf x values es groups others → AreGroupsOf x values (es ++ e ∷ []) next others
group_more x values groups next others e k r within only is es h =
    let w = some_value values k within in (
      ap length is ∙ length-set groups k (get_or groups k [] ++ e ∷ []) ∙ h.0,
      (
        λ env j v lt at here. ⊎_elim
            (λ (same_place : j ≡ k).
            let now : get_or next j [] ≡ get_or groups j [] ++ e ∷ [] =
            (λ i. get_or (is i) (same_place i) []) ∙ get_or-set_same groups k (get_or groups k [] ++ e ∷ []) [] (omega (arith, within, h.0))
            ∙ ap (λ i. get_or groups i [] ++ e ∷ []) (sym same_place) in
            denotes_one es e env ∙ ap (λ b. b || entry_denotes e env) (h.1.0 env j v lt at here)
            ∙ or_turned (set_denotes (get_or groups j []) env) (set_denotes others env) (entry_denotes e env)
            ∙ ap (λ b. b || set_denotes others env) (sym (denotes_one (get_or groups j []) e env))
            ∙ ap (λ g. set_denotes g env || set_denotes others env) (sym now))
            (λ (other : j ≡ k → ⊥).
            let apart : same w.0 (env x) ≡ false = sym (same-along v (env x) here w.0) ∙ two_places values j k v w.0 r other lt within at w.1 in
            denotes_one es e env ∙ or_gone (set_denotes es env) (entry_denotes e env) (only env w.0 w.1 apart) ∙ h.1.0 env j v lt at here
            ∙ ap (λ g. set_denotes g env || set_denotes others env)
            (sym (ap (λ ps. get_or ps j []) is ∙ get_or-set_other groups k j (get_or groups k [] ++ e ∷ []) [] other)))
            (cases_eq j k),
        λ env none.
            denotes_one es e env
            ∙ or_gone (set_denotes es env) (entry_denotes e env) (only env w.0 w.1 (any_none (λ y. same y (env x)) values k w.0 within w.1 none))
            ∙ h.1.1 env none,
      ),
    )

-- an entry meets only its group and the others
pub met_in_group : (x : Var) (values : List Value) (b : Entries) (groups : List Entries) (others group : Entries) (e : List (Var × Bound)) (v : Value) (k : ℕ)
    → AreGroupsOf x values b groups others → ((u : Value) → same v u ≡ false → passes x (fits u) e ≡ false)
    → k < length values → same (get_or values k v) v ≡ true → group ≡ get_or groups k []
    → (env : Environment) → (entry_denotes e env && (set_denotes group env || set_denotes others env)) ≡ (entry_denotes e env && set_denotes b env)
met_in_group x values b groups others group e v k h only within here at env =
    elim (same v (env x)) as (λ s. same v (env x) ≡ s
    → (entry_denotes e env && (set_denotes group env || set_denotes others env)) ≡ (entry_denotes e env && set_denotes b env)) [
      | true ↦ λ alike.
          let found : same (get_or values k v) (env x) ≡ true = sym (same-along v (env x) alike (get_or values k v)) ∙ here in
          ap (λ d. entry_denotes e env && d)
          (ap (λ g. set_denotes g env || set_denotes others env) at ∙ sym (h.1.0 env k (get_or values k v) within (read_again values k v within) found))
      | false ↦ λ apart.
          let gone = not_denoted x env e (only (env x) apart) in
          ap (λ d. d && (set_denotes group env || set_denotes others env)) gone ∙ sym (ap (λ d. d && set_denotes b env) gone)
    ] refl

-- an entry without a group meets only the others
pub met_elsewhere : (x : Var) (values : List Value) (b : Entries) (groups : List Entries) (others : Entries) (e : List (Var × Bound)) (v : Value)
    → AreGroupsOf x values b groups others → ((u : Value) → same v u ≡ false → passes x (fits u) e ≡ false) → list_any (λ w. same w v) values ≡ false
    → (env : Environment) → (entry_denotes e env && set_denotes others env) ≡ (entry_denotes e env && set_denotes b env)
met_elsewhere x values b groups others e v h only none env =
    elim (same v (env x)) as (λ s. same v (env x) ≡ s → (entry_denotes e env && set_denotes others env) ≡ (entry_denotes e env && set_denotes b env)) [
      | true ↦ λ alike. ap (λ d. entry_denotes e env && d) (sym (h.1.1 env (sym (any_same-along v (env x) alike values) ∙ none)))
      | false ↦ λ apart.
          let gone = not_denoted x env e (only (env x) apart) in
          ap (λ d. d && set_denotes others env) gone ∙ sym (ap (λ d. d && set_denotes b env) gone)
    ] refl

-- what follows for the value in a `Some`
pub some_gives : {X : Type 0} (o : Option X) (N : Type 0) {P Q : X → Type 0} → MatchOption o N P → ((x : X) → P x → Q x) → IfSome o Q
some_gives None N h f = tt
some_gives (Some x) N h f = f x h

-- one more entry is read
pub groups_read : (x : Var) (values read : List Value) (es : Entries) (e : List (Var × Bound)) (groups old new : List Entries)
    (others next : Entries) → read ≡ values → old ≡ groups
    → (AreGroupsOf x read es old others → AreGroupsOf x read (es ++ e ∷ []) new next) → AreGroupsOf x values es groups others
    → AreGroupsOf x values (es ++ e ∷ []) new next
groups_read x values read es e groups old new others next s o step h =
    let first = subst (λ gs. AreGroupsOf x values es gs others) (sym o) h in
    subst (λ vs. AreGroupsOf x vs (es ++ e ∷ []) new next) s (step (subst (λ vs. AreGroupsOf x vs es old others) (sym s) first))

pub groups_next : (x : Var) (values : List Value) (b : Entries) (i : ℕ) (e : List (Var × Bound)) (new whole : List Entries) (next : Entries)
    → i < length b → e ≡ get_or b i e → whole ≡ new → AreGroupsOf x values (take i b ++ e ∷ []) new next → AreGroupsOf x values (take (i + 1) b) whole next
groups_next x values b i e new whole next lt at is h =
    let read : take i b ++ e ∷ [] ≡ take (i + 1) b = ap (λ d. take i b ++ d ∷ []) at ∙ sym (take_more b i e lt) in
    subst (λ es. AreGroupsOf x values es whole next) read (subst (λ gs. AreGroupsOf x values (take i b ++ e ∷ []) gs next) (sym is) h)

pub vars_next : (t : Var → Bool) (b : Entries) (i : ℕ) (e : List (Var × Bound)) (groups old new whole : List Entries) (others next : Entries)
    → i < length b → e ≡ get_or b i e → old ≡ groups → whole ≡ new → (HaveVars t old others → entry_vars t e ≡ true → HaveVars t new next)
    → (set_vars t (take i b) ≡ true → HaveVars t groups others) → set_vars t (take (i + 1) b) ≡ true → HaveVars t whole next
vars_next t b i e groups old new whole others next lt at o is step h seen =
    let both = both_parts (set_vars t (take i b)) (entry_vars t e) (sym (all_step (λ d. entry_vars t d) b i e lt at) ∙ seen) in
    subst (λ gs. HaveVars t gs next) (sym is) (step (subst (λ gs. HaveVars t gs others) (sym o) (h both.0)) both.1)
