use Rattle.std.proofs.Common.{◌≤◌, length, sym, ap, subst, ◌∙◌, arith}
use Rattle.cfg_build.specs.CfgGraph.Seats.{seat_needs, AreSeated}
use Rattle.cfg_build.specs.CfgGraph.Labels.{with_node}
use Rattle.cfg_build.proofs.CfgGraph.SeatLemmas.{seated-snoc}
use Rattle.cfg_build.proofs.CfgGraph.LabelLemmas.{kept-length, node-put}
use Rattle.cfg_build.proofs.cfg_graph.graph.GraphBuilder.push.Goals as goal

pub invariant_of-self-2 : goal.invariant_of-self-2
invariant_of-self-2 c =
    let l = kept-length c.self.inside.nodes.items c.args.self.now (ap (λ g. g.labels) c.self.view_is) in
    let fits : seat_needs c.args.node.seat ≤ length c.self.inside.nodes.items = omega (arith, l, c.requires.seated) in
    (subst AreSeated (sym c.in_ok-push-4.ensures.items) (seated-snoc c.self.inside.nodes.items c.args.node c.self.invariant.0 fits), c.self.invariant.1)

pub returns : goal.returns
returns c = record {
  more = node-put c.self.inside.nodes.items c.push-4.new.self.items c.args.node c.self.inside.succ c.push.new.self c.self.inside.down c.push-3.new.self
      c.self.inside.past.items c.push-2.new.self.items c.args.succ.now c.args.down.now c.args.past
      c.in_ok-push-4.ensures.items c.in_ok-push.ensures c.in_ok-push-2.ensures.items c.in_ok-push-3.ensures
      ∙ ap (λ g. with_node g c.args.node c.args.succ.now c.args.past c.args.down.now) c.self.view_is;
}
