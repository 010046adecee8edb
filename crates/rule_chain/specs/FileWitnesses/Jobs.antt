-- What one job finds.
use Rattle.std.specs.Prelude.{ℕ, ◌≡◌, ◌≤◌, Option, None, Some, List, [], map}
use Rattle.cfg_build.specs.CfgGraph.Flow.{Flow}
use Rattle.smpl_terms.specs.declared.var.Var.{Var}
use Rattle.smpl_patch.specs.declared.witness.RuleWitness.{RuleWitness}
use Rattle.ctl_formula.specs.Formulas.{FormulaOf}
use Rattle.env_parts.specs.Parts.{Pairs}
use Rattle.wit_forest.specs.WitOrder.Sizes.{most_nodes}
use Rattle.rule_chain.specs.RuleWitnesses.Bare.{bare_witness}
use Rattle.rule_chain.specs.RuleWitnesses.Jobs.{touches_and_binds, witnesses_of}

-- what the formula finds in one item, given the graph that the item is lent; without one it finds nothing
abbrev pub found_by : FormulaOf → List Var → ℕ → ℕ → Option Flow → Pairs → List RuleWitness
found_by f exports number item None env = []
found_by f exports number item (Some g) env = witnesses_of f g exports number item env

-- these are the witnesses, ids aside, and they don't have too many touches and binds
pub record AreFoundBy (witnesses found : List RuleWitness) : Type 0 where
  pub same : map bare_witness found ≡ map bare_witness witnesses
  pub few : touches_and_binds witnesses ≤ most_nodes
