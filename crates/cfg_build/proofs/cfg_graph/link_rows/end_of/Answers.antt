use Rattle.cfg_build.proofs.CfgGraph.LinkLemmas.{last-get}
use Rattle.cfg_build.proofs.cfg_graph.link_rows.end_of.Goals as goal

pub returns-in-Some : goal.returns-in-Some
returns-in-Some c = last-get 0 c.args.ends.now c.in-Some.end.now c.in-Some.ensures.value
