use Rattle.std.proofs.Common.{◌&&◌, ◌||◌, ap, ◌∙◌}
use Rattle.std.proofs.lemmas.Result.{IfOk-weaker}
use Rattle.smpl_terms.specs.Values.{same}
use Rattle.env_sets.specs.Sets.{set_denotes}
use Rattle.env_sets.proofs.complements.put_fixed.Goals as goal

pub returns-clause-meaning : goal.returns-clause-meaning
returns-clause-meaning c = IfOk-weaker c.put_narrowed.result _ _ (λ _ h env.
    h env ∙ ap (λ w. set_denotes c.args.out.now.items env || (set_denotes c.args.rest.items env && same w (env c.args.x.now))) c.in_ok-copy.ensures.same)
    c.put_narrowed.ensures.meaning
