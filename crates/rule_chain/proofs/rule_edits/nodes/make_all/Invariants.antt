use Rattle.std.proofs.Common.{◌≡◌, ◌<◌, ℕ, Bool, length}
use Rattle.c_file.specs.ItemGraphs.Made.{IsMade}
use Rattle.smpl_patch.specs.Wants.{ask_types}
use Rattle.rule_chain.proofs.rule_edits.nodes.make_all.Given as goal

abbrev pub invariant-loop-i : goal.invariant-loop-i
invariant-loop-i l = record {
  items : l.graphs.items ≡ l.initial.graphs.items;
  count : l.count ≡ length l.initial.graphs.items;
  made : (k : ℕ) → k < l.i → IsMade l.graphs (ask_types l.rule.vars) k;
  kept : (typed : Bool) (k : ℕ) → IsMade l.initial.graphs typed k → IsMade l.graphs typed k;
}
