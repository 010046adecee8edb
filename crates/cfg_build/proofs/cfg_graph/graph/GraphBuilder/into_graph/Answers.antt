use Rattle.std.proofs.Common.{ap}
use Rattle.cfg_build.proofs.cfg_graph.graph.GraphBuilder.into_graph.Goals as goal

pub returns : goal.returns
returns c = let none = ap (λ g. g.types) c.self.view_is in record { same = λ j. record c.args.self { types = none j } }
