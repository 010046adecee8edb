-- What a part of a formula at a node leads to, under one environment: the parts at nodes whose forests make up its own.
use Rattle.std.specs.Prelude.{ℕ, Bool, true, false, if◌then◌else◌, Option, None, Some, List, [], ◌∷◌, ◌++◌, map, slice_get}
use Rattle.std.specs.List.{flat_map}
use Rattle.cfg_build.specs.CfgGraph.Flow.{Flow, succ_of, past_of, down_of}
use Rattle.smpl_terms.specs.Environments.{Environment}
use Rattle.env_sets.specs.Sets.{Entries, set_denotes}
use Rattle.env_sets.specs.States.{set_at}
use Rattle.ctl_formula.specs.declared.node.Node.{Node}
use Rattle.ctl_formula.specs.declared.node.Node.TheVariants as node

abbrev pub there : ℕ → Option ℕ → List (ℕ × ℕ)
there i None = []
there i (Some k) = (i, k) ∷ []

-- whether the set of a part at a node has the environment
abbrev pub told : List (List Entries) → Environment → ℕ → ℕ → Bool
told rows env part s = set_denotes (set_at rows part s) env

-- a graph, and which parts hold at which nodes
module _ (g : Flow) (holds : ℕ → ℕ → Bool) where
  -- the part at the node, if it holds there
  abbrev pub held : ℕ → ℕ → List (ℕ × ℕ)
  held i s = if holds i s then (i, s) ∷ [] else []

  -- the way here and the until at a next node, if the until holds there
  abbrev pub way_on : ℕ → ℕ → ℕ → ℕ → List (ℕ × ℕ)
  way_on until way s k = if holds until k then (way, s) ∷ (until, k) ∷ [] else []

  -- for the node of the table with the number `part`; atoms and quantifiers lead nowhere by themselves
  abbrev pub kids : Node → ℕ → ℕ → List (ℕ × ℕ)
  kids (node.And i j) part s = (i, s) ∷ (j, s) ∷ []
  kids (node.Or i j) part s = held i s ++ held j s
  kids (node.AX i) part s = map (λ k. (i, k)) (succ_of g s)
  kids (node.EX i) part s = flat_map (held i) (succ_of g s)
  kids (node.AU i j) part s =
      if holds j s then (j, s) ∷ [] else (i, s) ∷ (if holds i s then map (λ k. (part, k)) (succ_of g s) else [])
  kids (node.EU i j) part s = held j s ++ (if holds i s then flat_map (way_on part i s) (succ_of g s) else [])
  kids (node.After i) part s = there i (past_of g s)
  kids (node.InBranch b i) part s = there i (slice_get (down_of g s) b)
  kids _ part s = []

-- quantifiers lead to their parts under other environments
abbrev pub is_quantifier : Node → Bool
is_quantifier (node.Exists x i) = true
is_quantifier _ = false
