use Rattle.std.proofs.Common.{ap, ◌∙◌}
use Rattle.cfg_build.proofs.CfgGraph.LabelLemmas.{kept-length}
use Rattle.cfg_build.proofs.cfg_graph.graph.GraphBuilder.count.Goals as goal

pub returns : goal.returns
returns c = c.len.ensures ∙ c.self.inside.nodes.ok.0 ∙ kept-length c.self.inside.nodes.items c.args.self.now (ap (λ g. g.labels) c.self.view_is)
