use Rattle.std.proofs.Common.{◌≡◌, ◌<◌, ℕ, Bool, false, length, get_or}
use Rattle.c_file.specs.ItemGraphs.Made.{IsMade}
use Rattle.smpl_patch.specs.Wants.{ask_types}
use Rattle.rule_chain.specs.FileWitnesses.Chosen.{FindsNothing, AreReady}
use Rattle.rule_chain.proofs.file_witnesses.choice.candidate_items.Given as goal

abbrev pub invariant-loop-i : goal.invariant-loop-i
invariant-loop-i l = record {
  items : l.graphs.items ≡ l.initial.graphs.items;
  count : l.count ≡ length l.initial.graphs.items;
  so_far : length l.chosen.items ≡ l.i;
  ready : AreReady l.graphs (ask_types l.rule.vars) l.chosen.items;
  nothing : (j : ℕ) → j < length l.chosen.items → get_or l.chosen.items j false ≡ false → FindsNothing l.rule l.initial.graphs.items j;
  kept : (typed : Bool) (k : ℕ) → IsMade l.initial.graphs typed k → IsMade l.graphs typed k;
}
