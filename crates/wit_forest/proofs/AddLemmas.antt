-- What adding a state adds to the trees of all states; covered states stay covered.
use Rattle.std.proofs.Common.{◌≡◌, ℕ, ⊎_elim, Bool, true, false, ◌||◌, refl, sym, ap, ◌∙◌, subst, List, [], ◌∷◌, ◌++◌, Contains}
use Rattle.std.proofs.lemmas.List.Folds.{list_any-append}
use Rattle.std.specs.List.{list_any}
use Rattle.cfg_build.specs.CfgGraph.Flow.{Flow}
use Rattle.smpl_terms.specs.declared.var.Var.{Var}
use Rattle.smpl_terms.specs.declared.value.Value.{Value}
use Rattle.smpl_terms.specs.Environments.{Environment, total}
use Rattle.smpl_patch.specs.declared.witness.Witness.{Witness}
use Rattle.ctl_formula.specs.Tables.{at, plains}
use Rattle.ctl_formula.specs.Formulas.{FormulaOf}
use Rattle.smpl_terms.specs.Values.{same}
use Rattle.smpl_terms.proofs.ValueLaws.{same-refl}
use Rattle.std.proofs.lemmas.List.Elements.{Contains-append_right}
use Rattle.ctl_fixpoint.proofs.CtlHolds.TestLemmas.{any_has, Contains-first}
use Rattle.wit_forest.specs.WitOrder.Forests.{has}
use Rattle.wit_forest.proofs.WitTrees.AlikeLemmas.{forest_alike}
use Rattle.wit_forest.specs.declared.states.State.{State}
use Rattle.wit_forest.specs.Gathered.{Covered, IsAdded, forest_at}
use Rattle.wit_forest.proofs.MemberLemmas.{Contains-left}

absorbs : (a b : Bool) → (b ≡ true → a ≡ true) → a ≡ (a || b)
absorbs true b h = refl
absorbs false true h = let e : false ≡ true = h refl in absurd cc
absorbs false false h = refl

no-more : (b : Bool) → (b || false) ≡ b
no-more true = refl
no-more false = refl

-- more states cover what fewer states cover
pub covered_more : (old more : List State) (i s : ℕ) (env : Environment) → Covered old i s env → Covered (old ++ more) i s env
covered_more old more i s env c = (c.0, Contains-left old more c.0 c.1, c.2, c.3, c.4)

-- a state that was appended is covered
pub covered_last : (old new : List State) (one : State) (env : List (Var × Value)) → new ≡ old ++ one ∷ [] → one.env ≡ env
    → Covered new one.part one.node (total env)
covered_last old new one env e h = (
  one,
  subst (λ l. Contains l one) (sym e) (Contains-append_right old (one ∷ []) one (Contains-first one [])),
  refl,
  refl,
  λ x. subst (λ d. same (total d x) (total env x) ≡ true) (sym h) (same-refl (total env x)),
)

-- one more state, for any test of parts at nodes
module _ (h : ℕ → ℕ → Environment → Bool) where
  abbrev of_one : State → Bool
  of_one one = h one.part one.node (total one.env)

  same_state : (one : State) (i s : ℕ) (env : List (Var × Value)) → one.part ≡ i → one.node ≡ s → one.env ≡ env → of_one one ≡ h i s (total env)
  same_state one i s env p n e = λ k. h (p k) (n k) (total (e k))

  added_any : (old new : List State) (i s : ℕ) (env : List (Var × Value)) → IsAdded old new i s env
      → (h i s (total env) ≡ true → list_any of_one new ≡ true)
      → list_any of_one new ≡ (list_any of_one old || h i s (total env))
  added_any old new i s env a c = ⊎_elim
      (λ e. ap (list_any of_one) e ∙ absorbs (list_any of_one old) _ (λ t. ap (list_any of_one) (sym e) ∙ c t))
      (λ more.
      ap (list_any of_one) more.1 ∙ list_any-append of_one old (more.0 ∷ [])
      ∙ ap (λ b. list_any of_one old || b) (no-more (of_one more.0) ∙ same_state more.0 i s env more.2 more.3 more.4))
      a

module _ (g : Flow) (f : FormulaOf) (z : Witness) where
  abbrev pub of_state : State → Bool
  of_state one = has (forest_at g f one.part one.node (total one.env)) z

  -- the forest of a covered part is that of a state
  pub covered_there : (states : List State) (i s : ℕ) (env : Environment) → Covered states i s env → has (forest_at g f i s env) z ≡ true
      → list_any of_state states ≡ true
  covered_there states i s env c h =
      let e : has (forest_at g f c.0.part c.0.node (total c.0.env)) z ≡ true =
      ap (λ j. has (forest_at g f j c.0.node (total c.0.env)) z) c.2
      ∙ ap (λ k. has (forest_at g f i k (total c.0.env)) z) c.3
      ∙ ap (λ ws. has ws z) (forest_alike f.decls f.tokens g (at (plains f.nodes) i) s (total c.0.env) env c.4) ∙ h in
      any_has of_state c.0 states c.1 e

  pub added_there : (old new : List State) (i s : ℕ) (env : List (Var × Value)) → IsAdded old new i s env → Covered new i s (total env)
      → list_any of_state new ≡ (list_any of_state old || has (forest_at g f i s (total env)) z)
  added_there old new i s env a c =
      added_any (λ j k d. has (forest_at g f j k d) z) old new i s env a (covered_there new i s (total env) c)
