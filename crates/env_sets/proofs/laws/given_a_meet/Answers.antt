use Rattle.std.proofs.Common.{◌&&◌, sym, ◌∙◌}
use Rattle.smpl_terms.specs.Environments.{over}
use Rattle.env_sets.proofs.laws.given_a_meet.Goals as goal

pub returns : goal.returns
returns c = λ env a b both of_both of_a of_b met meets of_meet from_a from_b joined rest.
    of_meet rest ∙ meets (over env rest) ∙ sym (joined rest ∙ (λ i. from_a rest i && from_b rest i))
