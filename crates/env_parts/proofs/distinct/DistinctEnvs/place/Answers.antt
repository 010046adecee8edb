use Rattle.std.proofs.Common.{ap, ◌∙◌}
use Rattle.env_parts.specs.Places.{place_in}
use Rattle.env_parts.proofs.distinct.DistinctEnvs.place.Goals as goal

pub returns : goal.returns
returns c =
    c.copied.ensures ∙ c.get.ensures.value ∙ c.self.invariant c.args.key.now.env
    ∙ ap (place_in c.args.key.now.env) c.self.view_is
