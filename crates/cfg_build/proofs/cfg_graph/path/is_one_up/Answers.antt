use Rattle.std.proofs.Common.{sym, ◌∙◌, arith}
use Rattle.cfg_build.proofs.CfgGraph.SeatLemmas.{path-by, earlier}
use Rattle.cfg_build.proofs.CfgGraph.StepLemmas.{no-more, more-than-one, one-step, same-steps}
use Rattle.cfg_build.proofs.cfg_graph.path.is_one_up.Goals as goal

pub returns-in-Item : goal.returns-in-Item
returns-in-Item c =
    let p = path-by c.args.nodes.now c.loop-holder.at _ c.requires.seated (sym c.seat_at.ensures ∙ c.in-Item.is) in
    no-more c.loop-holder.found _ _ p c.loop-holder.invariant.count

pub loop-holder-preserved-in-With : goal.loop-holder-preserved-in-With
loop-holder-preserved-in-With c =
    let s = earlier c.args.nodes.now c.loop-holder.at _ c.requires.seated (sym c.seat_at.ensures ∙ c.in-With.is) in
    let p = path-by c.args.nodes.now c.loop-holder.at _ c.requires.seated (sym c.seat_at.ensures ∙ c.in-With.is) in
    record {
      count = same-steps c.loop-holder.found _ _ _ p c.loop-holder.invariant.count;
      inside = omega (arith, s, c.loop-holder.invariant.inside);
    }

pub returns-then-found : goal.returns-then-found
returns-then-found c =
    let p = path-by c.args.nodes.now c.loop-holder.at _ c.requires.seated (sym c.seat_at.ensures ∙ c.in-Child.is) in
    more-than-one c.loop-holder.found _ _ _ _ c.if-found.true p c.loop-holder.invariant.count

pub loop-holder-preserved : goal.loop-holder-preserved
loop-holder-preserved c =
    let s = earlier c.args.nodes.now c.loop-holder.at _ c.requires.seated (sym c.seat_at.ensures ∙ c.in-Child.is) in
    let p = path-by c.args.nodes.now c.loop-holder.at _ c.requires.seated (sym c.seat_at.ensures ∙ c.in-Child.is) in
    record {
      count = one-step c.loop-holder.found _ _ _ _ c.if-found.false p c.loop-holder.invariant.count;
      inside = omega (arith, s, c.loop-holder.invariant.inside);
    }
