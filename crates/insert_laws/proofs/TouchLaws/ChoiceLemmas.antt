-- Choices of values of exported variables give these a value, and the others keep theirs.
use Rattle.std.proofs.Common.{◌≡◌, Bool, true, false, not, ◌&&◌, cond, refl, sym, ap, ◌∙◌, ◌⊎◌, inl, inr, ⊎_elim, List, [], ◌∷◌, ◌++◌, map, None, Some}
use Rattle.std.specs.Prelude.{All, is_some}
use Rattle.std.specs.List.{filter, flat_map}
use Rattle.std.proofs.lemmas.List.Folds.{list_any-append}
use Rattle.std.proofs.lemmas.List.Elements.{All-nil, All-cons, All-append, All-weaker}
use Rattle.smpl_terms.specs.declared.var.Var.{Var}
use Rattle.smpl_terms.specs.declared.value.Value.{Value}
use Rattle.smpl_terms.specs.Vars.{same_var, with_pair}
use Rattle.smpl_terms.specs.Environments.{value_in, has_value}
use Rattle.smpl_terms.proofs.VarLaws.{same_var-refl, same_var-sym, same_var-equal}
use Rattle.smpl_patch.specs.declared.pattern.VarDecl.{VarDecl}
use Rattle.smpl_patch.specs.declared.rule.Rule.{Rule}
use Rattle.pattern_vars.specs.Reads.{has, is_declared}
use Rattle.ctl_fixpoint.proofs.CtlHolds.TestLemmas.{or_cases, or_left, or_right, or_false, not_both, true_or_false, not_true}
use Rattle.ctl_translate.specs.Rules.{is_exported, locals}
use Rattle.env_parts.specs.Parts.{Pairs, is_among}
use Rattle.rule_envs.specs.Inherited.{inherited_by, inherited_of}
use Rattle.rule_chain.specs.RuleWitnesses.Choices.{AreNew}
use Rattle.wit_forest.specs.WitTrees.Rules.{choices}
use Rattle.insert_laws.specs.ScopeLaws.Scopes.{is_free}
use Rattle.insert_laws.proofs.TouchLaws.EnvLemmas.{value_in-with}

-- the second environment is the first one with values of these variables
pub record IsChoice (xs : List Var) (env e : Pairs) : Type 0 where
  pub own : (y : Var) → is_among xs y ≡ true → has_value e y ≡ true
  pub others : (y : Var) → is_among xs y ≡ false → value_in e y ≡ value_in env y

still_new : (xs : List Var) (env : Pairs) (x : Var) (v : Value) → value_in env x ≡ None → is_among xs x ≡ false → AreNew xs env
    → AreNew xs (with_pair env x v)
still_new [] env x v none out new = tt
still_new (y ∷ ys) env x v none out new =
    let o = or_false (same_var y x) (is_among ys x) out in (
      value_in-with env x v y none ∙ ap (λ b. cond b (Some v) (value_in env y)) (same_var-sym x y ∙ o.0) ∙ new.0,
      new.1,
      still_new ys env x v none o.1 new.2,
    )

module _ (x : Var) (xs : List Var) (env : Pairs) (v : Value) (none : value_in env x ≡ None) (out : is_among xs x ≡ false) where
  more_choice : (e : Pairs) → IsChoice xs (with_pair env x v) e → IsChoice (x ∷ xs) env e
  more_choice e c =
      let here : value_in e x ≡ Some v =
      c.others x out ∙ value_in-with env x v x none ∙ ap (λ b. cond b (Some v) (value_in env x)) (same_var-refl x) in record {
        own = λ y h. ⊎_elim
            (λ s. ap is_some (ap (value_in e) (sym (same_var-equal x y s)) ∙ here))
            (λ a. c.own y a)
            (or_cases (same_var x y) (is_among xs y) h);
        others = λ y h.
            let o = or_false (same_var x y) (is_among xs y) h in
            c.others y o.1 ∙ value_in-with env x v y none ∙ ap (λ b. cond b (Some v) (value_in env y)) o.0;
      }

flat_all : {A B : Type 0} (P : B → Type 0) (f : A → List B) → ((a : A) → All P (f a)) → (xs : List A) → All P (flat_map f xs)
flat_all P f g [] = All-nil P
flat_all P f g (a ∷ xs) = All-append P (f a) (flat_map f xs) (g a) (flat_all P f g xs)

pub are_choices : (values : List Value) (xs : List Var) (env : Pairs) → AreNew xs env → All (IsChoice xs env) (choices values xs env)
are_choices values [] env new =
    All-cons (IsChoice [] env) env [] (record { own = λ y h. not_both false h refl; others = λ y h. refl }) (All-nil (IsChoice [] env))
are_choices values (x ∷ xs) env new =
    flat_all (IsChoice (x ∷ xs) env) (λ v. choices values xs (with_pair env x v))
    (λ v. All-weaker (IsChoice xs (with_pair env x v)) (IsChoice (x ∷ xs) env) (more_choice x xs env v new.0 new.1)
    (choices values xs (with_pair env x v)) (are_choices values xs (with_pair env x v) (still_new xs env x v new.0 new.1 new.2)))
    values

-- ---- a declared variable is a local one, or exported, or inherited

module _ (rule : Rule) (x : Var) where
  abbrev is_local : VarDecl → Bool
  is_local d = not d.inherited && not (is_exported rule d.var)

  abbrev Where : List VarDecl → Type 0
  Where ds = (has (map (λ d. d.var) (filter is_local ds)) x ≡ true)
      ⊎ ((is_among rule.exports x ≡ true) ⊎ (is_among (flat_map inherited_by ds) x ≡ true))

  kept_here : (d : VarDecl) (ds : List VarDecl) (b : Bool) → has (map (λ d. d.var) (filter is_local ds)) x ≡ true
      → has (map (λ d. d.var) (cond b (d ∷ filter is_local ds) (filter is_local ds))) x ≡ true
  kept_here d ds true h = or_right (same_var d.var x) (has (map (λ d. d.var) (filter is_local ds)) x) h
  kept_here d ds false h = h

  later : (d : VarDecl) (ds : List VarDecl) → Where ds → Where (d ∷ ds)
  later d ds (inl h) = inl (kept_here d ds (is_local d) h)
  later d ds (inr (inl h)) = inr (inl h)
  later d ds (inr (inr h)) =
      inr (inr (list_any-append (λ y. same_var y x) (inherited_by d) (flat_map inherited_by ds)
      ∙ or_right (is_among (inherited_by d) x) (is_among (flat_map inherited_by ds) x) h))

  first : (d : VarDecl) (ds : List VarDecl) → same_var d.var x ≡ true → (i e : Bool) → d.inherited ≡ i → is_exported rule d.var ≡ e → Where (d ∷ ds)
  first d ds s true e p q =
      inr (inr (list_any-append (λ y. same_var y x) (inherited_by d) (flat_map inherited_by ds)
      ∙ or_left (is_among (inherited_by d) x) (is_among (flat_map inherited_by ds) x)
      (ap (λ b. is_among (cond b (d.var ∷ []) [] ++ d.not_places) x) p ∙ or_left (same_var d.var x) (is_among d.not_places x) s)))
  first d ds s false true p q = inr (inl (ap (is_among rule.exports) (sym (same_var-equal d.var x s)) ∙ q))
  first d ds s false false p q =
      inl (ap (λ b. has (map (λ d. d.var) (cond b (d ∷ filter is_local ds) (filter is_local ds))) x) (local d.inherited (is_exported rule d.var) p q)
      ∙ or_left (same_var d.var x) (has (map (λ d. d.var) (filter is_local ds)) x) s)
    where
      local : (i e : Bool) → i ≡ false → e ≡ false → (not i && not e) ≡ true
      local true e h k = not_both true refl h
      local false true h k = not_both true refl k
      local false false h k = refl

  pub declared_where : (ds : List VarDecl) → is_declared ds x ≡ true → Where ds
  declared_where [] h = not_both false h refl
  declared_where (d ∷ ds) h = ⊎_elim
      (λ s. first d ds s d.inherited (is_exported rule d.var) refl refl)
      (λ m. later d ds (declared_where ds m))
      (or_cases (same_var d.var x) (is_declared ds x) h)

  -- a declared variable that isn't local is exported or inherited
  pub free_where : is_free rule x ≡ true → is_declared rule.vars x ≡ true
      → (is_among rule.exports x ≡ true) ⊎ (is_among (inherited_of rule) x ≡ true)
  free_where f d = ⊎_elim (λ l. not_both (has (locals rule) x) l (not_true (has (locals rule) x) f)) (λ w. w) (declared_where rule.vars d)

-- where the environment has values of all inherited variables, the choice has one of each declared variable that isn't local
pub choice_has : (rule : Rule) (env e : Pairs) → IsChoice rule.exports env e
    → ((y : Var) → is_among (inherited_of rule) y ≡ true → has_value env y ≡ true)
    → (x : Var) → is_free rule x ≡ true → is_declared rule.vars x ≡ true → has_value e x ≡ true
choice_has rule env e c h x f d = ⊎_elim (λ a. c.own x a)
    (λ a. ⊎_elim (λ b. c.own x b) (λ b. ap is_some (c.others x b) ∙ h x a) (true_or_false (is_among rule.exports x)))
    (free_where rule x f d)
