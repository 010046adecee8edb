use Rattle.std.proofs.Common.{◌<◌}
use Rattle.ctl_fixpoint.specs.RequiredWords.FormGroups.{IsRun}
use Rattle.ctl_fixpoint.proofs.required_words.form_groups.run_end.Given as goal

abbrev pub invariant-loop-i : goal.invariant-loop-i
invariant-loop-i l = record {
  later : l.first < l.i;
  run : IsRun l.spot l.forms l.word l.first l.i;
}
