use Rattle.std.proofs.Common.{◌++◌, [], ap, ◌∙◌, arith, if◌then◌else◌}
use Rattle.smpl_notes.specs.Names.{short_names}
use Rattle.smpl_notes.proofs.LoopLemmas.{inside-step}
use Rattle.smpl_notes.proofs.names.+names.Goals as goal

pub put_children-loop-i-preserved : goal.put_children-loop-i-preserved
put_children-loop-i-preserved t c =
    inside-step c.args.label c.args.children.now c.loop-i.i c.index-children-i.result c.loop-i.found c.put_own_if.new.found c.put_inside.new.found _
    (omega arith) c.index-children-i.is
    (c.in_ok-put_own_if.ensures ∙ ap (λ b. c.loop-i.found ++ (if b then (short_names c.index-children-i.result).own else [])) c.may_stand.ensures)
    c.in_ok-put_inside.ensures c.loop-i.invariant
