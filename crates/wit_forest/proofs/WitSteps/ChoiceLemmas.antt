-- The values that the entries assign to a variable are all those under which the set has the environment, if the latter are
-- among finitely many: an entry that leaves the variable open, or excludes some values, would allow a place that is not
-- among them.
use Rattle.std.proofs.Common.{◌≡◌, ℕ, suc, ◌+◌, ◌≤◌, Bool, true, false, ◌&&◌, ◌||◌, not, eqb, cond, refl, sym, ap, ◌∙◌, subst}
use Rattle.std.proofs.Common.{arith, List, [], ◌∷◌, ◌++◌, length, get_or, take, add-one, ◌<◌, zero, Option, Some, None}
use Rattle.std.specs.List.{list_any}
use Rattle.std.proofs.lemmas.List.{take_all}
use Rattle.std.proofs.lemmas.List.Folds.{list_any_more, list_any-append}
use Rattle.std.proofs.lemmas.Bool.Decides.{nat_tests}
use Rattle.smpl_terms.specs.declared.value.Value.{Value}
use Rattle.smpl_terms.specs.declared.value.Value.TheVariants.{Term, Place}
use Rattle.smpl_terms.specs.declared.var.Var.{Var}
use Rattle.smpl_terms.specs.Vars.{same_var, Above, Rising}
use Rattle.smpl_terms.specs.Values.{same}
use Rattle.smpl_terms.specs.Environments.{Environment, change}
use Rattle.smpl_terms.proofs.VarLaws.{same_var-equal, less-apart}
use Rattle.env_sets.specs.declared.bounds.Bound.{Bound}
use Rattle.env_sets.specs.declared.bounds.Bound.TheVariants.{Is, Not}
use Rattle.env_sets.specs.Bounds.{fits}
use Rattle.env_sets.specs.Sets.{Entries, entry_denotes, set_denotes}
use Rattle.ctl_fixpoint.specs.CtlHolds.Values.{is_among}
use Rattle.wit_forest.specs.WitSteps.Choices.{others_allow, own_value, as_value, is_same_as, chosen, AllRise}

abbrev above_places : List Value → ℕ
above_places [] = 0
above_places (Term a ∷ vs) = above_places vs
above_places (Place p ∷ vs) = suc (p + above_places vs)

fresh : (vs : List Value) (n : ℕ) → above_places vs ≤ n → list_any (λ v. same v (Place n)) vs ≡ false
fresh [] n h = refl
fresh (Term a ∷ vs) n h = fresh vs n h
fresh (Place p ∷ vs) n h =
    let r = fresh vs n (omega arith) in
    let ne : eqb p n ≡ false = grind (arith, nat_tests) in
    ap (λ b. b || list_any (λ v. same v (Place n)) vs) ne ∙ r

clash : (b : Bool) → b ≡ false → b ≡ true → ⊥
clash b h k = let e : false ≡ true = sym h ∙ k in absurd cc

and-comm : (a b : Bool) → (a && b) ≡ (b && a)
and-comm true true = refl
and-comm true false = refl
and-comm false true = refl
and-comm false false = refl

and-assoc : (a b c : Bool) → (a && (b && c)) ≡ ((a && b) && c)
and-assoc true b c = refl
and-assoc false b c = refl

either : (a b : Bool) → a ≡ true → (a || b) ≡ true
either true b h = refl
either false b h = absurd cc

or-else : (a b : Bool) → b ≡ true → (a || b) ≡ true
or-else true b h = refl
or-else false b h = h

abbrev allows : Value → Option Bound → Bool
allows v None = true
allows v (Some b) = fits v b

abbrev is_fixed : Value → Option Bound → Bool
is_fixed v None = false
is_fixed v (Some (Is u)) = same u v
is_fixed v (Some (Not us)) = false

module _ (x : Var) (env : Environment) where
  abbrev bound_of : List (Var × Bound) → Option Bound
  bound_of [] = None
  bound_of (p ∷ ps) = cond (same_var p.0 x) (Some p.1) (bound_of ps)

  -- after x nothing depends on its value
  past : (v : Value) (ps : List (Var × Bound)) → Above x ps → entry_denotes ps (change env x v) ≡ others_allow x env ps
  past v [] a = refl
  past v (p ∷ ps) a = at (same_var p.0 x) (less-apart x p.0 a.0) (past v ps a.1)
    where
      at : (t : Bool) → t ≡ false → entry_denotes ps (change env x v) ≡ others_allow x env ps
          → (fits (cond t v (env p.0)) p.1 && entry_denotes ps (change env x v)) ≡ ((t || fits (env p.0) p.1) && others_allow x env ps)
      at true e h = absurd cc
      at false e h = ap (λ b. fits (env p.0) p.1 && b) h

  -- an entry, given what it says about x and about the others
  split : (v : Value) (ps : List (Var × Bound)) → Rising ps → entry_denotes ps (change env x v) ≡ (others_allow x env ps && allows v (bound_of ps))
  split v [] r = refl
  split v (p ∷ ps) r = at (same_var p.0 x) refl (split v ps r.1)
    where
      at : (t : Bool) → same_var p.0 x ≡ t → entry_denotes ps (change env x v) ≡ (others_allow x env ps && allows v (bound_of ps))
          → (fits (cond t v (env p.0)) p.1 && entry_denotes ps (change env x v))
          ≡ (((t || fits (env p.0) p.1) && others_allow x env ps) && allows v (cond t (Some p.1) (bound_of ps)))
      at true e h =
          ap (λ b. fits v p.1 && b) (past v ps (subst (λ k. Above k ps) (same_var-equal p.0 x e) r.0))
          ∙ and-comm (fits v p.1) (others_allow x env ps)
      at false e h =
          ap (λ b. fits (env p.0) p.1 && b) h ∙ and-assoc (fits (env p.0) p.1) (others_allow x env ps) (allows v (bound_of ps))

  fixed : (v : Value) (ps : List (Var × Bound)) → is_same_as v (own_value x ps) ≡ is_fixed v (bound_of ps)
  fixed v [] = refl
  fixed v (p ∷ ps) = at (same_var p.0 x) p.1 (fixed v ps)
    where
      at : (t : Bool) (b : Bound) → is_same_as v (own_value x ps) ≡ is_fixed v (bound_of ps)
          → is_same_as v (cond t (as_value b) (own_value x ps)) ≡ is_fixed v (cond t (Some b) (bound_of ps))
      at true (Is u) h = refl
      at true (Not us) h = refl
      at false b h = h

  module _ (vs : List Value) (v : Value) where
    by_bound : (o : Option Bound) (b : Bool) → ((u : Value) → (b && allows u o) ≡ true → is_among vs u ≡ true)
        → (b && is_fixed v o) ≡ (b && allows v o)
    by_bound o false h = refl
    by_bound None true h = absurd (clash _ (fresh vs (above_places vs) (omega arith)) (h (Place (above_places vs)) refl))
    by_bound (Some (Is u)) true h = refl
    by_bound (Some (Not us)) true h =
        let n = above_places vs + above_places us in
        absurd (clash _ (fresh vs n (omega arith)) (h (Place n) (ap not (fresh us n (omega arith)))))

    one_entry : (e : List (Var × Bound)) → Rising e → ((u : Value) → entry_denotes e (change env x u) ≡ true → is_among vs u ≡ true)
        → (others_allow x env e && is_same_as v (own_value x e)) ≡ entry_denotes e (change env x v)
    one_entry e r h =
        ap (λ b. others_allow x env e && b) (fixed v e)
        ∙ by_bound (bound_of e) (others_allow x env e) (λ u k. h u (split u e r ∙ k))
        ∙ sym (split v e r)

    pub all_chosen : (es : Entries) → AllRise es → ((u : Value) → set_denotes es (change env x u) ≡ true → is_among vs u ≡ true)
        → chosen x env es v ≡ set_denotes es (change env x v)
    all_chosen [] r h = refl
    all_chosen (e ∷ es) r h =
        let first = one_entry e r.0 (λ u k. h u (either (entry_denotes e (change env x u)) _ k)) in
        let rest = all_chosen es r.1 (λ u k. h u (or-else (entry_denotes e (change env x u)) _ k)) in
        λ i. first i || rest i

rise_next : (es : Entries) (i : ℕ) (e : List (Var × Bound)) → i < length es → e ≡ get_or es i e → Rising e → AllRise (take i es) → AllRise (take (suc i) es)
rise_next [] i e lt is r h = absurd (omega (arith, lt))
rise_next (x ∷ es) zero e lt is r h = (subst Rising is r, tt)
rise_next (x ∷ es) (suc i) e lt is r h = (h.0, rise_next es i e (omega (arith, lt)) is r h.1)

-- one more entry
pub rise_more : (es : Entries) (i : ℕ) (e : List (Var × Bound)) → i < length es → e ≡ get_or es i e → Rising e → AllRise (take i es) → AllRise (take (i + 1) es)
rise_more es i e lt is r h = subst (λ n. AllRise (take n es)) (sym (add-one i)) (rise_next es i e lt is r h)

pub all_rise : (es : Entries) (i : ℕ) → length es ≤ i → AllRise (take i es) → AllRise es
all_rise es i le h = subst AllRise (take_all i es le) h

-- the values of one more entry
pub chosen_more : (x : Var) (env : Environment) (es : Entries) (i : ℕ) (e ps : List (Var × Bound)) (v : Value) (before after : Bool)
    → i < length es → e ≡ get_or es i e → ps ≡ e → before ≡ chosen x env (take i es) v
    → after ≡ (before || (others_allow x env ps && is_same_as v (own_value x ps)))
    → after ≡ chosen x env (take (i + 1) es) v
chosen_more x env es i e ps v before after lt is p b a =
    let test : List (Var × Bound) → Bool = λ d. others_allow x env d && is_same_as v (own_value x d) in
    a ∙ (λ n. b n || test ((p ∙ is) n)) ∙ sym (list_any_more test es i e lt)

-- two lists of entries
pub rise_both : (es fs : Entries) → AllRise es → AllRise fs → AllRise (es ++ fs)
rise_both [] fs a b = b
rise_both (e ∷ es) fs a b = (a.0, rise_both es fs a.1 b)

pub chosen_both : (x : Var) (env : Environment) (es fs : Entries) (z : Value)
    → chosen x env (es ++ fs) z ≡ (chosen x env es z || chosen x env fs z)
chosen_both x env es fs z = list_any-append (λ e. others_allow x env e && is_same_as z (own_value x e)) es fs

or_third : (a b c : Bool) → ((a || b) || c) ≡ (a || (b || c))
or_third true b c = refl
or_third false b c = refl

-- the values of one more entry, after others
pub chosen_next : (x : Var) (env : Environment) (es : Entries) (i : ℕ) (e ps : List (Var × Bound)) (v : Value) (old before after : Bool)
    → i < length es → e ≡ get_or es i e → ps ≡ e → before ≡ (old || chosen x env (take i es) v)
    → after ≡ (before || (others_allow x env ps && is_same_as v (own_value x ps)))
    → after ≡ (old || chosen x env (take (i + 1) es) v)
chosen_next x env es i e ps v old before after lt is p b a =
    let here : Bool = others_allow x env ps && is_same_as v (own_value x ps) in
    a ∙ ap (λ d. d || here) b ∙ or_third old (chosen x env (take i es) v) here
    ∙ ap (λ d. old || d) (chosen_more x env es i e ps v (chosen x env (take i es) v) (chosen x env (take i es) v || here) lt is p refl refl)
