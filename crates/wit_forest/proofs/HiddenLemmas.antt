-- At the end of the loop over the values of a hidden variable, its states are there.
use Rattle.std.proofs.Common.{◌≡◌, ℕ, ◌≤◌, true, ◌||◌, sym, ap, ◌∙◌, List, length}
use Rattle.std.specs.List.{list_any}
use Rattle.cfg_build.specs.CfgGraph.Flow.{Flow}
use Rattle.smpl_terms.specs.declared.var.Var.{Var}
use Rattle.smpl_terms.specs.declared.value.Value.{Value}
use Rattle.smpl_terms.specs.Values.{same}
use Rattle.smpl_terms.specs.Environments.{Environment, change}
use Rattle.smpl_patch.specs.declared.witness.Witness.{Witness}
use Rattle.env_sets.specs.Sets.{Entries}
use Rattle.ctl_formula.specs.Formulas.{FormulaOf}
use Rattle.wit_forest.specs.WitOrder.Forests.{has}
use Rattle.wit_forest.specs.WitTrees.Forest.{is_hidden}
use Rattle.wit_forest.specs.declared.states.State.{State}
use Rattle.wit_forest.specs.Gathered.{AreReady, InRange, IsBound, Adds, Grows, IsHiddenDone, holds_at, quantified}
use Rattle.wit_forest.proofs.AddLemmas.{of_state}
use Rattle.wit_forest.proofs.DoneLemmas.{hidden_done}
use Rattle.wit_forest.proofs.LoopLemmas.{Put, put_there, put_done, adds_states, grows_with}
use Rattle.wit_forest.proofs.QuantifierLemmas.{tree_of, quantified_has}
use Rattle.wit_forest.proofs.ReadyLemmas.{part_stands}

module _ (g : Flow) (f : FormulaOf) (rows : List (List Entries)) (ready : AreReady g f rows) (x : Var) (j s : ℕ) (env : Environment)
    (range : InRange g f j j s) (b : IsBound f x j) (hidden : is_hidden x ≡ true)
    (us : List Value) (all : (v : Value) → list_any (λ u. same u v) us ≡ holds_at g f (change env x v) j s)
    (n : ℕ) (old new : List State) (le : length us ≤ n)
    (put : Put g f {X = Value} (λ v. j) (λ v. s) (λ v. change env x v) j us n old new) where
  by_values : (z : Witness) → has (quantified g f x j s env) z ≡ list_any (tree_of g f x j s env z true) us
  by_values z =
      quantified_has g f x j s env z ready.sound range.node (part_stands g f rows ready j j s range) b us all
      ∙ ap (λ h. list_any (tree_of g f x j s env z h) us) hidden

  pub hidden_there : (found : List Witness) → Adds g f old new found found (quantified g f x j s env)
  hidden_there found = adds_states g f old new found (quantified g f x j s env)
      (λ z. put_there g f {X = Value} (λ v. j) (λ v. s) (λ v. change env x v) j us n old new le put z
      ∙ ap (λ c. list_any (of_state g f z) old || c) (sym (by_values z)))

  pub hidden_all : IsHiddenDone g f new x j s env
  hidden_all = hidden_done g f x j s env us all new
      (put_done g f {X = Value} (λ v. j) (λ v. s) (λ v. change env x v) j us n old new le put)

  pub hidden_grows : (found : List Witness) → Grows g f j old new found found
  hidden_grows found = grows_with g f j old new found put.grows
