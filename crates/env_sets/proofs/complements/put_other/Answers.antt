use Rattle.std.proofs.Common.{◌&&◌, ◌||◌, not, ap, ◌∙◌}
use Rattle.std.specs.List.{list_any}
use Rattle.std.proofs.lemmas.Result.{IfOk-weaker}
use Rattle.smpl_terms.specs.Values.{same}
use Rattle.env_sets.specs.Sets.{set_denotes}
use Rattle.env_sets.proofs.complements.put_other.Goals as goal

pub returns-clause-meaning : goal.returns-clause-meaning
returns-clause-meaning c = IfOk-weaker c.put_narrowed.result _ _ (λ _ h env.
    h env ∙ ap (λ vs. set_denotes c.args.out.now.items env
    || (set_denotes c.args.rest.items env && not (list_any (λ v. same v (env c.args.x.now)) vs))) c.in_ok-of.ensures.items)
    c.put_narrowed.ensures.meaning
