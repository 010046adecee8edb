use Rattle.std.proofs.Common.{length, sym, ap, subst, ◌∙◌, arith}
use Rattle.cfg_build.specs.CfgGraph.Seats.{path_of, AreSeated}
use Rattle.cfg_build.proofs.CfgGraph.LabelLemmas.{kept-length, label-there}
use Rattle.cfg_build.proofs.cfg_graph.graph.GraphBuilder.label.Goals as goal

pub index-node-requires : goal.index-node-requires
index-node-requires c =
    let l = kept-length c.self.inside.nodes.items c.args.self.now (ap (λ g. g.labels) c.self.view_is) in
    let o = c.self.inside.nodes.ok.0 in
    omega (arith, l, o, c.requires)

pub tree_of-requires : goal.tree_of-requires
tree_of-requires c = c.self.invariant.1

pub of-path-requires : goal.of-path-requires
of-path-requires c =
    let l = kept-length c.self.inside.nodes.items c.args.self.now (ap (λ g. g.labels) c.self.view_is) in
    let s = ap length c.as_slice.ensures.value in
    record { inside = omega (arith, l, s, c.requires); seated = subst AreSeated (sym c.as_slice.ensures.value) c.self.invariant.0 }

pub returns : goal.returns
returns c =
    let l = kept-length c.self.inside.nodes.items c.args.self.now (ap (λ g. g.labels) c.self.view_is) in
    label-there c.self.inside.nodes.items c.args.self.now.labels c.args.n c.index-node.result.now c.of-tree.result
    c.of-path.result (ap (λ g. g.labels) c.self.view_is)
    (omega (arith, l, c.requires)) c.index-node.ensures (c.of-tree.ensures.value ∙ c.tree_of.ensures)
    (c.of-path.ensures ∙ ap (λ ns. path_of ns c.args.n) c.as_slice.ensures.value)
