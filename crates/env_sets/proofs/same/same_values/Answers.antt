use Rattle.env_sets.proofs.RunLemmas.{among_alike}
use Rattle.env_sets.proofs.same.same_values.Goals as goal

pub returns-then-are_among : goal.returns-then-are_among
returns-then-are_among c = λ h x. among_alike c.args.vs.now c.args.ws.now (c.are_among.ensures c.if-are_among.true) (c.are_among-then-are_among.ensures h) x
