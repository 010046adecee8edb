use Rattle.std.proofs.Common.{rules}
use Rattle.env_sets.proofs.BoundLemmas.{covers_is}
use Rattle.env_sets.proofs.bounds.bound_covers.Goals as goal

pub returns-in_default-Is : goal.returns-in_default-Is
returns-in_default-Is c = covers_is c.in_default-Is.w c.args.a.now c.args.b.now c.allows.result (search rules) (search rules)
