use Rattle.std.proofs.Common.{sym, subst, arith}
use Rattle.ctl_fixpoint.specs.RequiredWords.FormGroups.{Covers}
use Rattle.ctl_fixpoint.proofs.RequiredWords.FormGroupLemmas.{covers-push}
use Rattle.ctl_fixpoint.proofs.required_words.form_groups.runs_of.Goals as goal

pub loop-n-preserved : goal.loop-n-preserved
loop-n-preserved c = record {
  far = omega (arith, c.loop-n.invariant.far, c.run_end-end.ensures.later);
  within = c.run_end-end.ensures.within;
  covers = subst (λ items. Covers c.args.spot c.args.forms.now 0 items c.run_end-end.result) (sym c.in_ok-push.ensures.items)
      (covers-push c.args.spot c.args.forms.now c.loop-n.form_groups.items (record { word = c.in_ok-word.word; end = c.run_end-end.result }) 0 c.loop-n.next
      c.loop-n.invariant.covers (omega (arith, c.run_end-end.ensures.later)) c.run_end-end.ensures.within c.run_end-end.ensures.run);
}
