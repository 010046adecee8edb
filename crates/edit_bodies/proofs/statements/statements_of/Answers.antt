use Rattle.edit_bodies.proofs.SceneLemmas.{by_edit_more}
use Rattle.edit_bodies.proofs.statements.statements_of.Goals as goal

pub loop-number-preserved : goal.loop-number-preserved
loop-number-preserved c =
    by_edit_more c.args.statements.now c.loop-number.number c.index-statements-number.result c.loop-number.all.items c.put_number.new.all.items
    c.loop-number-test.true c.index-statements-number.is c.loop-number.invariant c.in_ok-put_number.ensures
