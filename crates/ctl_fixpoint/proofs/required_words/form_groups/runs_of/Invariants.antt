use Rattle.std.proofs.Common.{◌≤◌, length}
use Rattle.ctl_fixpoint.specs.RequiredWords.FormGroups.{Covers}
use Rattle.ctl_fixpoint.proofs.required_words.form_groups.runs_of.Given as goal

abbrev pub invariant-loop-n : goal.invariant-loop-n
invariant-loop-n l = record {
  far : l._n ≤ l.next;
  within : l.next ≤ length l.forms;
  covers : Covers l.spot l.forms 0 l.form_groups.items l.next;
}
