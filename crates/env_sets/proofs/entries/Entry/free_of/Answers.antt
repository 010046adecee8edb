use Rattle.std.proofs.Common.{sym, subst, not, ◌∙◌, ap}
use Rattle.std.specs.List.{filter}
use Rattle.smpl_terms.specs.Vars.{Rising}
use Rattle.smpl_terms.specs.Environments.{has_value}
use Rattle.smpl_terms.proofs.PairLemmas.{Rising-filter}
use Rattle.env_sets.proofs.entries.Entry.free_of.Goals as goal

pub of-requires : goal.of-requires
of-requires c = record {
  rising =
      subst Rising (sym (c.in_ok-pairs.ensures ∙ ap (filter (λ p. not (has_value c.args.env.now p.0))) c.pairs.ensures.pairs))
      (Rising-filter _ _ c.pairs.ensures.rising);
}
