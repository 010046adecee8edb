use Rattle.std.proofs.Common.{◌&&◌, sym, ap, ◌∙◌, arith}
use Rattle.env_sets.specs.Sets.{set_denotes}
use Rattle.env_sets.proofs.SharingLemmas.{in_other_words, one_denotes, none_denotes}
use Rattle.env_sets.proofs.sharing.within.Goals as goal

pub returns-in-empty-clause-meaning : goal.returns-in-empty-clause-meaning
returns-in-empty-clause-meaning c = λ env.
    c.none.ensures.meaning env ∙ none_denotes c.args.few.now env (set_denotes c.args.set.now env) (omega (arith, c.in-empty.len_below))

pub returns-in-len1-clause-meaning : goal.returns-in-len1-clause-meaning
returns-in-len1-clause-meaning c = in_other_words c.within_entry.result _ _ (λ r h env.
    h env ∙ ap (λ b. set_denotes c.args.set.now env && b)
    (sym (one_denotes c.args.few.now c.e-item.result env (omega (arith, c.in-len1.len_at_least)) (omega (arith, c.in-len1.len_below)) c.e-item.is)))
    c.within_entry.ensures.meaning
