use Rattle.std.proofs.Common.{◌++◌, reverse, sym, ap, ◌∙◌, arith}
use Rattle.cfg_build.specs.CfgGraph.Seats.{path_of}
use Rattle.cfg_build.proofs.CfgGraph.SeatLemmas.{path-by, earlier, way-up}
use Rattle.cfg_build.proofs.cfg_graph.path.steps_up.Goals as goal

pub returns-in-Item : goal.returns-in-Item
returns-in-Item c =
    let p = path-by c.args.nodes.now c.loop-steps.at _ c.requires.seated (sym c.seat_at.ensures ∙ c.in-Item.is) in
    sym (ap (λ p. p ++ reverse c.loop-steps.steps.items) p) ∙ c.loop-steps.invariant.way

pub loop-steps-smaller-in-With : goal.loop-steps-smaller-in-With
loop-steps-smaller-in-With c =
    let s = earlier c.args.nodes.now c.loop-steps.at _ c.requires.seated (sym c.seat_at.ensures ∙ c.in-With.is) in omega (arith, s)

pub loop-steps-preserved-in-With : goal.loop-steps-preserved-in-With
loop-steps-preserved-in-With c =
    let s = earlier c.args.nodes.now c.loop-steps.at _ c.requires.seated (sym c.seat_at.ensures ∙ c.in-With.is) in
    let p = path-by c.args.nodes.now c.loop-steps.at _ c.requires.seated (sym c.seat_at.ensures ∙ c.in-With.is) in
    record {
      way = sym (ap (λ p. p ++ reverse c.loop-steps.steps.items) p) ∙ c.loop-steps.invariant.way;
      inside = omega (arith, s, c.loop-steps.invariant.inside);
    }

pub loop-steps-smaller : goal.loop-steps-smaller
loop-steps-smaller c =
    let s = earlier c.args.nodes.now c.loop-steps.at _ c.requires.seated (sym c.seat_at.ensures ∙ c.in-Child.is) in omega (arith, s)

pub loop-steps-preserved : goal.loop-steps-preserved
loop-steps-preserved c =
    let s = earlier c.args.nodes.now c.loop-steps.at _ c.requires.seated (sym c.seat_at.ensures ∙ c.in-Child.is) in
    let p = path-by c.args.nodes.now c.loop-steps.at _ c.requires.seated (sym c.seat_at.ensures ∙ c.in-Child.is) in
    record {
      way = way-up (path_of c.args.nodes.now c.loop-steps.at)
          (path_of c.args.nodes.now c.in-Child.holder) c.loop-steps.steps.items c.push.new.self.items c.in-Child.i
          p c.in_ok-push-in-Child.ensures.items ∙ c.loop-steps.invariant.way;
      inside = omega (arith, s, c.loop-steps.invariant.inside);
    }
