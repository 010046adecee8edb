use Rattle.std.proofs.Common.{ap}
use Rattle.env_sets.specs.Sets.{set_denotes}
use Rattle.pat_match.proofs.sets.is_none.Goals as goal

pub returns : goal.returns
returns c = λ h env. ap (λ s. set_denotes s env) (c.is_none.ensures.none h)
