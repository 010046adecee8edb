use Rattle.cfg_build.proofs.CfgGraph.ValueLemmas.{label-term, label-place}
use Rattle.cfg_build.proofs.cfg_graph.laws.labels_are_values.Goals as goal

pub returns-clause-terms : goal.returns-clause-terms
returns-clause-terms c = label-term

pub returns-clause-places : goal.returns-clause-places
returns-clause-places c = label-place
