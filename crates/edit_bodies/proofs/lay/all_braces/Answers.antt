use Rattle.edit_bodies.specs.Laid.{brace_of}
use Rattle.edit_bodies.proofs.LayoutLemmas.{map_more}
use Rattle.edit_bodies.proofs.lay.all_braces.Goals as goal

pub loop-it-preserved : goal.loop-it-preserved
loop-it-preserved c =
    map_more (brace_of c.args.files.now) c.args.coming.now c.loop-it.it-index _ c.in_ok-brace.brace c.loop-it.braces.items c.push.new.self.items
    c.loop-it-test.true c.in_ok-push.ensures.items c.in_ok-brace.ensures c.loop-it.invariant
