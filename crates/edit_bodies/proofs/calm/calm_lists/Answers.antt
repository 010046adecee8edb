use Rattle.edit_bodies.specs.Calm.{is_calm}
use Rattle.edit_bodies.proofs.CalmLemmas.{list_push}
use Rattle.edit_bodies.proofs.calm.calm_lists.Goals as goal

pub loop-list-preserved : goal.loop-list-preserved
loop-list-preserved c =
    list_push (is_calm c.args.lexed.now) c.args.lists.now c.loop-list.list-index _ c.is_calm.result c.loop-list.calm.items c.push_if.new.lists.items
    c.loop-list-test.true (c.is_calm.ensures c.args.lexed.now c.in_ok-marks.ensures) c.in_ok-push_if.ensures c.loop-list.invariant
