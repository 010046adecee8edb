use Rattle.std.proofs.Common.{◌+◌, arith}
use Rattle.smpl_patch.proofs.BodyLemmas.{bodies}
use Rattle.pattern_vars.specs.VarPlaces.Placing.{bodies_with}
use Rattle.pattern_vars.specs.VarPlaces.Places.{reading_at}
use Rattle.pattern_vars.proofs.VarPlaces.CountLemmas.{counted-none, counted-one, counted-all}
use Rattle.pattern_vars.proofs.var_places.counted.count_bodies.Goals as goal

pub loop-b-init : goal.loop-b-init
loop-b-init c y n h = counted-none c.args.counted.now y n (bodies_with (reading_at c.args.reader.now) (bodies c.args.bs.now) y) h

pub loop-b-preserved : goal.loop-b-preserved
loop-b-preserved c y n h =
    counted-one (reading_at c.args.reader.now) c.loop-b.counted c.count.new.counted c.args.bs.now c.loop-b.b-index c.b-item.result c.as_slice.result.now
    c.in_ok-part.part y (n + bodies_with (reading_at c.args.reader.now) (bodies c.args.bs.now) y) c.loop-b-test.true c.b-item.is c.as_slice.ensures
    (c.in_ok-part.ensures y) (c.in_ok-count.ensures y) (c.loop-b.invariant y n h)

pub returns : goal.returns
returns c y n h =
    counted-all (reading_at c.args.reader.now) c.loop-b.counted c.args.bs.now c.loop-b.b-index y
    (n + bodies_with (reading_at c.args.reader.now) (bodies c.args.bs.now) y)
    (omega arith) (c.loop-b.invariant y n h)
