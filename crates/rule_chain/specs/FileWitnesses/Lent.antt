-- Graphs that are lent to the jobs.
use Rattle.std.specs.Prelude.{ℕ, ◌≡◌, ◌<◌, Bool, false, cond, Option, None, List, length, slice_index_or, option_copied}
use Rattle.std.specs.Borrow.{Bor}
use Rattle.cpp_lines.specs.declared.reading.Item.{Item}
use Rattle.cfg_build.specs.CfgGraph.Flow.{Flow}
use Rattle.c_file.specs.ItemGraphs.Typed.{graph_in}
use Rattle.smpl_patch.specs.declared.rule.Rule.{Rule}
use Rattle.env_parts.specs.Parts.{Pairs}
use Rattle.rule_chain.specs.FileWitnesses.Seen.{seen_graph}
use Rattle.rule_chain.specs.FileWitnesses.Found.{witnesses_in}

-- the graph that the item with this number is lent, if it is lent one
abbrev pub lent_graph : List (Option (Bor Flow)) → ℕ → Option Flow
lent_graph graphs i = option_copied (slice_index_or graphs i None)

-- the items that are chosen are lent their graphs, with or without types, if they have them; the others are lent none
pub record AreChosenGraphs (typed : Bool) (items : List Item) (chosen : List Bool) (graphs : List (Option (Bor Flow))) : Type 0 where
  pub count : length graphs ≡ length chosen
  pub each : (i : ℕ) → i < length chosen
      → lent_graph graphs i ≡ cond (slice_index_or chosen i false) (graph_in typed items i) None

-- with the graphs that are lent, the rule finds in each item what it finds with the item's own
pub record AreLent (rule : Rule) (items : List Item) (graphs : List (Option (Bor Flow))) : Type 0 where
  pub count : length graphs ≡ length items
  pub each : (i : ℕ) → i < length items → (number : ℕ) (env : Pairs)
      → witnesses_in number rule i (lent_graph graphs i) env ≡ witnesses_in number rule i (seen_graph rule items i) env
