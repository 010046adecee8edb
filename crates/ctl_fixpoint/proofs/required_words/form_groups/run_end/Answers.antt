use Rattle.std.proofs.Common.{refl, arith}
use Rattle.ctl_fixpoint.proofs.RequiredWords.FormGroupLemmas.{read-at, run-more}
use Rattle.ctl_fixpoint.proofs.required_words.form_groups.run_end.Goals as goal

pub loop-i-preserved : goal.loop-i-preserved
loop-i-preserved c = record {
  later = omega (arith, c.loop-i.invariant.later);
  run = run-more c.args.spot c.args.forms.now c.args.word.now c.args.first c.loop-i.i c.index-forms-i.result
      (read-at c.args.forms.now c.args.forms.now c.loop-i.i c.index-forms-i.result refl c.loop-i-test.true c.index-forms-i.is)
      c.loop-i.invariant.run (c.needs_it.ensures c.if-not-needs_it.false);
}
