-- A quantifier is done if each value of a list is, provided that these are the values under which its part holds, ids aside.
use Rattle.std.proofs.Common.{◌≡◌, ℕ, true, sym, ap, ◌∙◌, List, Contains}
use Rattle.std.specs.List.{list_any}
use Rattle.cfg_build.specs.CfgGraph.Flow.{Flow}
use Rattle.smpl_terms.specs.declared.var.Var.{Var}
use Rattle.smpl_terms.specs.declared.value.Value.{Value}
use Rattle.smpl_terms.specs.Values.{same}
use Rattle.smpl_terms.specs.Environments.{Environment, change}
use Rattle.smpl_patch.specs.declared.witness.Witness.{Witness}
use Rattle.smpl_patch.specs.declared.witness.Witness.TheVariants.{Bind}
use Rattle.ctl_formula.specs.Tables.{at, plains}
use Rattle.ctl_formula.specs.Formulas.{FormulaOf}
use Rattle.ctl_fixpoint.proofs.CtlHolds.TestLemmas.{any_found, any_has}
use Rattle.wit_forest.specs.WitOrder.Same.{same_witness}
use Rattle.wit_forest.specs.WitOrder.Forests.{has}
use Rattle.wit_forest.proofs.WitOrder.SameLaws.{witness-along, witness-sym}
use Rattle.wit_forest.proofs.WitTrees.AlikeLemmas.{forest_alike, value_alike}
use Rattle.wit_forest.specs.declared.states.State.{State}
use Rattle.wit_forest.specs.Gathered.{Covered, holds_at, forest_at, IsHiddenDone, IsShownDone}
use Rattle.wit_forest.proofs.ExploredLemmas.{covered_alike}
use Rattle.wit_forest.proofs.QuantifierLemmas.{bind_same}

-- a tree that is the same as a found one is found
pub has_same : (found : List Witness) (w z : Witness) → has found w ≡ true → same_witness w z ≡ true → has found z ≡ true
has_same found w z h e =
    let u = any_found (λ u. same_witness u w) found h in
    any_has (λ u. same_witness u z) u.0 found u.1 (witness-sym u.0 z ∙ sym (witness-along w z e u.0) ∙ witness-sym w u.0 ∙ u.2)

module _ (g : Flow) (f : FormulaOf) (x : Var) (j s : ℕ) (env : Environment)
    (us : List Value) (all : (v : Value) → list_any (λ u. same u v) us ≡ holds_at g f (change env x v) j s) where
  pub hidden_done : (states : List State) → ((u : Value) → Contains us u → Covered states j s (change env x u)) → IsHiddenDone g f states x j s env
  hidden_done states each v m h =
      let u = any_found (λ u. same u v) us (all v ∙ h) in
      covered_alike states j s (change env x u.0) (change env x v) (value_alike env x u.0 v u.2) (each u.0 u.1)

  pub shown_done : (found : List Witness) → ((u : Value) → Contains us u → has found (Bind s x u (forest_at g f j s (change env x u))) ≡ true)
      → IsShownDone g f found x j s env
  shown_done found each v m h =
      let u = any_found (λ u. same u v) us (all v ∙ h) in
      let under = forest_alike f.decls f.tokens g (at (plains f.nodes) j) s (change env x u.0) (change env x v) (value_alike env x u.0 v u.2) in
      has_same found (Bind s x u.0 (forest_at g f j s (change env x v))) (Bind s x v (forest_at g f j s (change env x v)))
      (ap (λ ws. has found (Bind s x u.0 ws)) (sym under) ∙ each u.0 u.1)
      (bind_same s x u.0 v (forest_at g f j s (change env x v)) u.2)
