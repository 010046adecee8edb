-- The sets of a formula in a graph, and the nodes at which it can hold.
use Rattle.std.specs.Prelude.{ℕ, ◌≡◌, Bool, true, false, List, [], ◌∷◌}
use Rattle.std.specs.List.{filter}
use Rattle.cfg_build.specs.CfgGraph.Flow.{Flow, count_of}
use Rattle.env_sets.specs.Sets.{Entries}
use Rattle.env_sets.specs.States.{set_at}
use Rattle.ctl_formula.specs.Formulas.{FormulaOf}
use Rattle.ctl_fixpoint.specs.States.{AreStateSets}
use Rattle.wit_forest.specs.WitTrees.Forest.{numbers}

-- the set has an entry; one that has none denotes no environment
abbrev pub has_entries : Entries → Bool
has_entries [] = false
has_entries (e ∷ es) = true

-- the rows are the sets of the formula, and these are the nodes, in ascending order, at which the set of the whole formula has
-- an entry
pub record AreMatched (g : Flow) (f : FormulaOf) (rows : List (List Entries)) (found : List ℕ) : Type 0 where
  pub sets : AreStateSets g f rows
  pub nodes : found ≡ filter (λ s. has_entries (set_at rows f.root s)) (numbers (count_of g))
