use Rattle.std.proofs.Common.{◌∙◌, arith, sym}
use Rattle.edit_bodies.specs.Scenes.{statements_of}
use Rattle.edit_bodies.proofs.SceneLemmas.{counted_less, counted_long, counted_none, counted_start, counted_stop}
use Rattle.edit_bodies.proofs.scene.Scene.counted.Goals as goal

pub loop-count-init : goal.loop-count-init
loop-count-init c = record { within = omega arith; same = counted_start (statements_of c.args.self.now) c.args.body.now c.args.inserts.now }

pub loop-count-preserved : goal.loop-count-preserved
loop-count-preserved c = record {
  within = omega arith;
  same = counted_less (statements_of c.args.self.now) c.args.body.now c.args.inserts.now c.loop-count.count _ c.loop-count-test.true
      c.loop-count.invariant.within (sym c.is_around.ensures ∙ c.if-not-is_around.false) c.loop-count.invariant.same;
}

pub returns-then-not-is_around : goal.returns-then-not-is_around
returns-then-not-is_around c =
    let front = counted_stop (statements_of c.args.self.now) c.args.body.now c.args.inserts.now c.loop-count.count _ c.loop-count-test.true
    c.loop-count.invariant.within (sym c.is_around.ensures ∙ c.if-not-is_around.true) c.loop-count.invariant.same in
    record {
      value = counted_long (statements_of c.args.self.now) c.args.body.now c.args.inserts.now c.loop-count.count c.loop-count.invariant.within front;
      within = c.loop-count.invariant.within;
      front = front;
    }

pub returns : goal.returns
returns c =
    let front = counted_none (statements_of c.args.self.now) c.args.body.now c.args.inserts.now c.loop-count.count c.loop-count-test.false
    c.loop-count.invariant.same in
    record {
      value = counted_long (statements_of c.args.self.now) c.args.body.now c.args.inserts.now 0 (omega arith) front;
      within = omega arith;
      front = front;
    }
