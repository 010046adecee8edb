use Rattle.std.proofs.Common.{◌≡◌, ◌<◌, ℕ, false, cond, None, length, get_or}
use Rattle.c_file.specs.ItemGraphs.Typed.{graph_in}
use Rattle.rule_chain.specs.FileWitnesses.Lent.{lent_graph}
use Rattle.rule_chain.proofs.file_witnesses.lend.lend.Given as goal

abbrev pub invariant-loop-i : goal.invariant-loop-i
invariant-loop-i l = record {
  so_far : length l.lent.items ≡ l.i;
  each : (j : ℕ) → j < length l.lent.items
      → lent_graph l.lent.items j ≡ cond (get_or l.chosen j false) (graph_in l.typed l.graphs.items j) None;
}
