use Rattle.std.proofs.Common.{sym, subst, not, ◌∙◌, ap, ◌≡◌}
use Rattle.std.specs.List.{filter}
use Rattle.smpl_terms.specs.Vars.{same_var, Rising}
use Rattle.smpl_terms.proofs.PairLemmas.{Rising-filter}
use Rattle.env_sets.proofs.WithoutLemmas.{without_meaning, without_vars}
use Rattle.env_sets.proofs.entries.Entry.without.Goals as goal

pub of-requires : goal.of-requires
of-requires c = record {
  rising =
      subst Rising (sym (c.in_ok-pairs.ensures ∙ ap (filter (λ p. not (same_var p.0 c.args.v.now))) c.pairs.ensures.pairs))
      (Rising-filter _ _ c.pairs.ensures.rising);
}

-- the new list is the filter of the old one, whose variables rise
listed : (c : goal.In_ok-map) → c.in_ok-map.map ≡ filter (λ p. not (same_var p.0 c.args.v.now)) c.args.self.now
listed c = c.in_ok-map.ensures.pairs ∙ c.in_ok-pairs.ensures ∙ ap (filter (λ p. not (same_var p.0 c.args.v.now))) c.pairs.ensures.pairs

pub returns-clause-meaning : goal.returns-clause-meaning
returns-clause-meaning c = λ env. rw (listed c) (without_meaning c.args.v.now c.args.self.now c.pairs.ensures.rising env)

pub returns-clause-vars : goal.returns-clause-vars
returns-clause-vars c = λ t. rw (listed c) (without_vars c.args.v.now c.args.self.now t)
