use Rattle.env_sets.proofs.BoundLemmas.{covers_not}
use Rattle.env_sets.proofs.bounds.exclude_no_more.Goals as goal

pub returns : goal.returns
returns c = λ h x k. covers_not c.args.vs.now c.args.ws.now x (c.are_among.ensures h) k
