use Rattle.insert_laws.proofs.AlignedLaws.NodeLemmas.{labels-bare}
use Rattle.insert_laws.proofs.aligned_laws.laws.simple_nodes_have_no_bodies.Goals as goal

pub returns : goal.returns
returns c = labels-bare
