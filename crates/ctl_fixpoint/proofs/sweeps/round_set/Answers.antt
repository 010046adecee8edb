use Rattle.std.proofs.Common.{◌<◌, ap, ◌∙◌, length, arith}
use Rattle.std.proofs.lemmas.Result.{IfOk-weaker}
use Rattle.env_sets.specs.Sets.{set_vars}
use Rattle.ctl_fixpoint.proofs.RowLemmas.{row_vars-at}
use Rattle.ctl_fixpoint.proofs.sweeps.round_set.Goals as goal

pub returns-clause-vars : goal.returns-clause-vars
returns-clause-vars c =
    let in_way : c.args.s < length c.args.way.now = omega (arith, c.requires.node, c.requires.way) in
    let in_end : c.args.s < length c.args.end.now = omega (arith, c.requires.node, c.requires.end) in
    IfOk-weaker c.join.result _ _ (λ r h test way end sets.
    h test (ap (set_vars test) c.set_in-3.ensures ∙ row_vars-at test c.args.end.now c.args.s end in_end)
    (c.in_ok-through.ensures.vars test (ap (set_vars test) c.set_in-2.ensures
    ∙ row_vars-at test c.args.way.now c.args.s way in_way) (c.in_ok-next.ensures.vars test sets)))
    c.join.ensures.vars
