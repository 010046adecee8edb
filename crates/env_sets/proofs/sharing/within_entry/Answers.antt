use Rattle.std.proofs.Common.{◌&&◌, sym, ap, ◌∙◌, arith}
use Rattle.env_sets.specs.Sets.{set_denotes}
use Rattle.env_sets.proofs.SharingLemmas.{in_other_words, all_denotes}
use Rattle.env_sets.proofs.sharing.within_entry.Goals as goal

pub returns-in_ok-copy-in-empty-clause-meaning : goal.returns-in_ok-copy-in-empty-clause-meaning
returns-in_ok-copy-in-empty-clause-meaning c = λ env.
    ap (λ es. set_denotes es env) c.in_ok-copy-in-empty.ensures.same
    ∙ all_denotes c.args.e.now c.pairs.result.now env (set_denotes c.args.set.now env) c.pairs.ensures.pairs (omega (arith, c.in-empty.len_below))

pub returns-in-Some-clause-meaning : goal.returns-in-Some-clause-meaning
returns-in-Some-clause-meaning c = in_other_words c.without_values.result _ _ (λ r h env.
    h env ∙ ap (λ b. set_denotes c.args.set.now env && b) (sym (c.in-Some.ensures env)))
    c.without_values.ensures.meaning
