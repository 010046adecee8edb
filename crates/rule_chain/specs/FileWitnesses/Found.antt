-- What a rule finds over the items of one reading, and when that is too much.
use Rattle.std.specs.Prelude.{ℕ, suc, Bool, false, ◌||◌, nat_lt, Option, None, Some, List, [], ◌∷◌, ◌++◌, map}
use Rattle.std.specs.List.{list_any, flat_map}
use Rattle.cpp_lines.specs.declared.reading.Item.{Item}
use Rattle.cfg_build.specs.CfgGraph.Flow.{Flow}
use Rattle.smpl_patch.specs.declared.rule.Rule.{Rule}
use Rattle.smpl_patch.specs.declared.witness.RuleWitness.{RuleWitness}
use Rattle.ctl_translate.specs.Rules.{formula_of}
use Rattle.wit_forest.specs.WitTrees.Rules as rules
use Rattle.wit_forest.specs.WitOrder.Sizes.{most_nodes}
use Rattle.env_parts.specs.Parts.{Pairs}
use Rattle.rule_chain.specs.RuleWitnesses.Bare.{bare_witness}
use Rattle.rule_chain.specs.RuleWitnesses.Jobs.{touches_and_binds}
use Rattle.rule_chain.specs.FileWitnesses.Seen.{seen_graphs}
use Rattle.rule_envs.specs.FileEnvs as envs

-- the witnesses of the rule with this number in one item, given the item's graph; an item that was skipped has no graph
abbrev pub witnesses_in : ℕ → Rule → ℕ → Option Flow → Pairs → List RuleWitness
witnesses_in number rule item None env = []
witnesses_in number rule item (Some g) env =
    rules.witnesses_of rule.vars rule.tokens g (formula_of rule) rule.exports number item env

-- they have too many touches and binds
abbrev pub is_large : ℕ → Rule → ℕ → Option Flow → Pairs → Bool
is_large number rule item graph env = nat_lt most_nodes (touches_and_binds (witnesses_in number rule item graph env))

-- the witnesses, without the ids of terms, in the items with these graphs, which are numbered from here
abbrev pub found_from : ℕ → Rule → ℕ → List (Option Flow) → Pairs → List RuleWitness
found_from number rule at [] env = []
found_from number rule at (graph ∷ graphs) env =
    map bare_witness (witnesses_in number rule at graph env) ++ found_from number rule (suc at) graphs env

-- in one of these items they have too many touches and binds
abbrev pub is_large_from : ℕ → Rule → ℕ → List (Option Flow) → Pairs → Bool
is_large_from number rule at [] env = false
is_large_from number rule at (graph ∷ graphs) env =
    is_large number rule at graph env || is_large_from number rule (suc at) graphs env

module _ (number : ℕ) (rule : Rule) (items : List Item) where
  -- in all items, under one environment: item by item
  abbrev pub found_under : Pairs → List RuleWitness
  found_under env = found_from number rule 0 (seen_graphs rule items) env

  abbrev pub is_large_under : Pairs → Bool
  is_large_under env = is_large_from number rule 0 (seen_graphs rule items) env

  -- the distinct values of the exported variables in them
  abbrev pub brings : Pairs → List Pairs
  brings env = envs.exported rule.exports (map (λ w. w.env) (found_under env))

  -- under each of these environments in turn
  abbrev pub file_witnesses : List Pairs → List RuleWitness
  file_witnesses projections = flat_map found_under projections

  -- in one item under one of them the witnesses have too many touches and binds
  abbrev pub has_too_many : List Pairs → Bool
  has_too_many projections = list_any is_large_under projections
