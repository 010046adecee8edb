use Rattle.std.proofs.Common.{◌≡◌, ◌&&◌, ap, ◌∙◌}
use Rattle.env_sets.specs.Sets.{set_denotes}
use Rattle.env_sets.proofs.SharingLemmas.{in_other_words, and_turned}
use Rattle.env_sets.proofs.sharing.meet_sharing.Goals as goal

pub returns-in-Some-None-clause-meaning : goal.returns-in-Some-None-clause-meaning
returns-in-Some-None-clause-meaning c =
    let few : c.in-Some-None.few.now ≡ c.args.a.now = rw c.in-Some-None.is-0 at c.as_list.ensures in
    in_other_words c.within.result _ _ (λ r h env.
    h env ∙ ap (λ es. set_denotes c.args.b.now env && set_denotes es env) few
    ∙ and_turned (set_denotes c.args.b.now env) (set_denotes c.args.a.now env)) c.within.ensures.meaning

pub returns-in-None-Some-clause-meaning : goal.returns-in-None-Some-clause-meaning
returns-in-None-Some-clause-meaning c =
    let few : c.in-None-Some.few.now ≡ c.args.b.now = rw c.in-None-Some.is-1 at c.as_list-2.ensures in
    in_other_words c.within-in-None-Some.result _ _ (λ r h env.
    h env ∙ ap (λ es. set_denotes c.args.a.now env && set_denotes es env) few) c.within-in-None-Some.ensures.meaning
