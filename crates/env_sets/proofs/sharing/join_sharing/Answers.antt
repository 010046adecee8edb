use Rattle.std.proofs.Common.{◌≡◌, ◌||◌, ap, ◌∙◌}
use Rattle.env_sets.specs.Sets.{set_denotes}
use Rattle.env_sets.proofs.SharingLemmas.{in_other_words, or_turned}
use Rattle.env_sets.proofs.sharing.join_sharing.Goals as goal

pub returns-in-Some-None-clause-meaning : goal.returns-in-Some-None-clause-meaning
returns-in-Some-None-clause-meaning c =
    let few : c.in-Some-None.few.now ≡ c.args.a.now = rw c.in-Some-None.is-0 at c.as_list.ensures in
    in_other_words c.with_few.result _ _ (λ r h env.
    h env ∙ ap (λ es. set_denotes c.args.b.now env || set_denotes es env) few
    ∙ or_turned (set_denotes c.args.b.now env) (set_denotes c.args.a.now env)) c.with_few.ensures.meaning

pub returns-in-None-Some-clause-meaning : goal.returns-in-None-Some-clause-meaning
returns-in-None-Some-clause-meaning c =
    let few : c.in-None-Some.few.now ≡ c.args.b.now = rw c.in-None-Some.is-1 at c.as_list-2.ensures in
    in_other_words c.with_few-in-None-Some.result _ _ (λ r h env.
    h env ∙ ap (λ es. set_denotes c.args.a.now env || set_denotes es env) few) c.with_few-in-None-Some.ensures.meaning
