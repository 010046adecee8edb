use Rattle.std.proofs.Common.{◌≡◌, ◌&&◌, ◌||◌, take, ap, sym, ◌∙◌, arith}
use Rattle.std.proofs.lemmas.List.{take_all}
use Rattle.std.proofs.lemmas.Result.{IfOk-weaker}
use Rattle.env_sets.specs.Sets.{entry_denotes, entry_vars, set_denotes, set_vars}
use Rattle.env_sets.proofs.LoopLemmas.{any_step, all_step, both_parts}
use Rattle.env_sets.proofs.MeetLemmas.{either_meets}
use Rattle.env_sets.proofs.algebra.meet_by.Goals as goal

pub returns-clause-meaning : goal.returns-clause-meaning
returns-clause-meaning c = IfOk-weaker c.settled.result _ _ (λ r h env.
    let all_read : take c.loop-e.e-index c.args.a.now ≡ c.args.a.now = take_all c.loop-e.e-index c.args.a.now (omega arith) in
    h env ∙ c.loop-e.invariant.meaning env ∙ ap (λ es. set_denotes es env && set_denotes c.args.b.now env) all_read) c.settled.ensures.meaning

pub returns-clause-vars : goal.returns-clause-vars
returns-clause-vars c = IfOk-weaker c.settled.result _ _ (λ r h t first second.
    let all_read : take c.loop-e.e-index c.args.a.now ≡ c.args.a.now = take_all c.loop-e.e-index c.args.a.now (omega arith) in
    h t (c.loop-e.invariant.vars t (ap (set_vars t) all_read ∙ first) second)) c.settled.ensures.vars

pub loop-e-preserved : goal.loop-e-preserved
loop-e-preserved c = record {
  meaning = λ env.
      c.in_ok-meet_at_variable.ensures.meaning env
      ∙ ap (λ d. d || (entry_denotes c.e-item.result env && set_denotes c.args.b.now env)) (c.loop-e.invariant.meaning env)
      ∙ either_meets (set_denotes (take c.loop-e.e-index c.args.a.now) env) (entry_denotes c.e-item.result env) (set_denotes c.args.b.now env)
      ∙ ap (λ d. d && set_denotes c.args.b.now env)
      (sym (any_step (λ e. entry_denotes e env) c.args.a.now c.loop-e.e-index c.e-item.result (omega arith) c.e-item.is));
  vars = λ t h second.
      let parts = both_parts _ _ (sym (all_step (λ e. entry_vars t e) c.args.a.now c.loop-e.e-index c.e-item.result (omega arith) c.e-item.is) ∙ h) in
      c.in_ok-meet_at_variable.ensures.vars t (c.loop-e.invariant.vars t parts.0 second) parts.1 second;
}
