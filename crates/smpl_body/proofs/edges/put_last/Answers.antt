use Rattle.std.proofs.Common.{◌≡◌, ap, ◌∙◌, arith}
use Rattle.smpl_body.specs.DotsOf.{gap, last_gap}
use Rattle.smpl_body.proofs.EdgeLemmas.{last-at}
use Rattle.smpl_body.proofs.edges.put_last.Goals as goal

pub returns-in-len1-up : goal.returns-in-len1-up
returns-in-len1-up c =
    let e : gap c.last-item.result ≡ last_gap c.args.trees.now =
    ap gap c.last-item.is ∙ last-at c.args.trees.now c.last-item.result (omega (arith, c.in-len1-up.len_at_least)) in
    rw (← e) c.put_gap.ensures
