use Rattle.cfg_build.proofs.CfgGraph.PartLemmas.{subtree-term, run-term, token-place}
use Rattle.cfg_build.proofs.cfg_graph.laws.parts_are_values.Goals as goal

pub returns-clause-subtrees : goal.returns-clause-subtrees
returns-clause-subtrees c = subtree-term

pub returns-clause-runs : goal.returns-clause-runs
returns-clause-runs c = run-term

pub returns-clause-tokens : goal.returns-clause-tokens
returns-clause-tokens c = token-place
