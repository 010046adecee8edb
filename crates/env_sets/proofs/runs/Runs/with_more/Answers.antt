use Rattle.std.proofs.Common.{◌∙◌}
use Rattle.std.proofs.lemmas.Result.{IfOk-weaker}
use Rattle.env_sets.proofs.RunLemmas.{under_any, more_any}
use Rattle.env_sets.proofs.runs.Runs.with_more.Goals as goal

pub returns-then-len-as_slice-clause-meaning : goal.returns-then-len-as_slice-clause-meaning
returns-then-len-as_slice-clause-meaning c = IfOk-weaker c.under.result _ _ (λ r h z.
    under_any r.first c.args.more.items c.args.self.now.first r.rest c.args.self.now.rest z h.0 h.1) c.under.ensures

pub returns-clause-meaning : goal.returns-clause-meaning
returns-clause-meaning c = IfOk-weaker c.absorbed.result _ _ (λ r h z.
    h z ∙ more_any c.in_ok-run.run'.items c.args.more.items c.deref.result.now c.as_slice-2.result.now c.args.self.now.first c.args.self.now.rest z
    c.in_ok-run.ensures.items c.deref.ensures.value c.as_slice-2.ensures.items) c.absorbed.ensures.meaning
