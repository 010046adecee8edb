use Rattle.run_files.proofs.HitLemmas.{has_some}
use Rattle.run_files.proofs.hits.has_witness.Goals as goal

pub returns : goal.returns
returns c = λ unread s a. has_some c.args.applied.now unread s c.is_empty.result a c.is_empty.ensures
