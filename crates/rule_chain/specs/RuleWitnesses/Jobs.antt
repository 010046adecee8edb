-- What is found in one item, how large it is, and when a formula binds exported variables.
use Rattle.std.specs.Prelude.{ℕ, ◌≡◌, true, List, map, sum}
use Rattle.std.specs.List.{list_all}
use Rattle.cfg_build.specs.CfgGraph.Flow.{Flow}
use Rattle.smpl_terms.specs.declared.var.Var.{Var}
use Rattle.smpl_patch.specs.declared.witness.RuleWitness.{RuleWitness}
use Rattle.smpl_patch.specs.Patterns.{sure}
use Rattle.env_parts.specs.Parts.{Pairs}
use Rattle.ctl_formula.specs.Formulas.{FormulaOf, plain}
use Rattle.ctl_formula.specs.Bounds.{bound}
use Rattle.wit_forest.specs.WitOrder.Sizes.{forest_size}
use Rattle.wit_forest.specs.WitTrees.Rules as rules

-- the number of touches and binds of all their forests
abbrev pub touches_and_binds : List RuleWitness → ℕ
touches_and_binds found = sum (map (λ w. forest_size w.forest) found)

-- in every way in which the formula holds, each of these variables has a value
abbrev pub BindsExports : FormulaOf → List Var → Type 0
BindsExports f exports = list_all (bound (sure f.decls f.tokens) (plain f)) exports ≡ true

-- the witnesses of a rule in one item, given the rule's formula and the item's graph
module _ (f : FormulaOf) (g : Flow) (exports : List Var) (rule item : ℕ) where
  -- the one at a node under an environment that has the exported variables
  abbrev pub witness_at : ℕ → Pairs → RuleWitness
  witness_at = rules.witness_at f.decls f.tokens g (plain f) exports rule item

  -- those at a node
  abbrev pub witnesses_at : ℕ → Pairs → List RuleWitness
  witnesses_at = rules.witnesses_at f.decls f.tokens g (plain f) exports rule item

  -- all witnesses, under an environment that gives the inherited variables their values
  abbrev pub witnesses_of : Pairs → List RuleWitness
  witnesses_of = rules.witnesses_of f.decls f.tokens g (plain f) exports rule item
