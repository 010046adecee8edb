use Rattle.std.proofs.Common.{◌++◌, ap, ◌∙◌}
use Rattle.smpl_body.specs.DotsOf.{own_ends}
use Rattle.smpl_body.proofs.EdgeLemmas.{own-then-kids}
use Rattle.smpl_body.proofs.edges.+put_edged.Goals as goal

pub loop-child-init : goal.loop-child-init
loop-child-init t c =
    own-then-kids c.args.tree.now c.in-Branch.label c.in-Branch.children c.as_slice-child-items.result.now c.args.found.now c.put_own_ends.new.found
    c.in-Branch.is c.as_slice-child-items.ensures
    (c.in_ok-put_own_ends-in-Branch.ensures ∙ ap (λ x. c.args.found.now ++ own_ends c.in-Branch.label x) c.as_slice.ensures)
