use Rattle.std.proofs.Common.{◌≡◌, not, List, sym, ap, ◌∙◌, subst, map}
use Rattle.std.proofs.lemmas.Result.{err_from_is_err_and}
use Rattle.env_parts.specs.Parts.{Pairs}
use Rattle.rule_envs.specs.Shares.{bare_file_env}
use Rattle.rule_chain.specs.RuleEdits.Pages.{is_empty}
use Rattle.rule_chain.specs.FileWitnesses.Found as found
use Rattle.rule_chain.specs.declared.rule_matches.fault.MatchFault.TheVariants.{TooManyWitnesses, TooManyEnvironments}
use Rattle.rule_chain.specs.RuleMatches.Matching.{AreApart, rule_share}
use Rattle.rule_chain.proofs.RuleMatches.MatchingLemmas.{run_under, under_new, places_of_all, are_brought}
use Rattle.rule_chain.proofs.RuleMatches.MatchingLemmas.{witnesses_told, not_by_witnesses, environments_told, not_by_environments}
use Rattle.rule_chain.proofs.rule_matches.matching.match_rule.Goals as goal

pub witnesses-requires-clause-new : goal.witnesses-requires-clause-new
witnesses-requires-clause-new g c κs within =
    under_new c.args.ready.now.defined.now c.args.had.now c.args.ready.now.number c.args.ready.now.rule.now
    c.args.graphs.now.items c.args.file_envs.now c.as_slice.result.now
    (c.as_slice.ensures ∙ c.args.ready.now.prepared_is.inherited) c.in_ok-projected.projected.projections c.as_slice-2.result.now c.as_slice-2.ensures
    c.in_ok-projected.ensures.projections
    (subst (AreApart c.args.ready.now.rule.now.exports) (sym c.as_slice.ensures) c.args.ready.now.may.apart)

pub next_file_envs-requires : goal.next_file_envs-requires
next_file_envs-requires g c = record {
  lengths = places_of_all c.args.ready.now.defined.now c.args.had.now c.args.ready.now.number c.args.ready.now.rule.now
      c.args.graphs.now.items c.args.file_envs.now
      c.as_slice.result.now (c.as_slice.ensures ∙ c.args.ready.now.prepared_is.inherited) c.in_ok-projected.projected.projections
      c.as_slice-2.result.now c.as_slice-2.ensures c.in_ok-projected.ensures.projections
      c.in_ok-projected.projected.places c.as_slice-3.result.now c.as_slice-3.ensures c.in_ok-projected.ensures.places;
}

pub returns-clause-found : goal.returns-clause-found
returns-clause-found g c =
    let items = c.args.graphs.now.items in
    c.in_ok-found.ensures.found
    ∙ ap (found.file_witnesses c.args.ready.now.number c.args.ready.now.rule.now items)
    (run_under c.args.ready.now.defined.now c.args.had.now c.args.ready.now.number c.args.ready.now.rule.now items c.args.file_envs.now c.as_slice.result.now
    (c.as_slice.ensures ∙ c.args.ready.now.prepared_is.inherited) c.in_ok-projected.projected.projections c.as_slice-2.result.now c.as_slice-2.ensures
    c.in_ok-projected.ensures.projections)

pub returns-clause-file_envs : goal.returns-clause-file_envs
returns-clause-file_envs g c =
    let items = c.args.graphs.now.items in
    let number = c.args.ready.now.number in
    let rule = c.args.ready.now.rule.now in
    let cs = c.args.file_envs.now in
    c.in_ok-next.ensures.file_envs (rule_share c.args.ready.now.defined.now c.args.had.now number rule items
    (map bare_file_env cs)) (found.brings number rule items)
    (are_brought c.args.ready.now.defined.now c.args.had.now number rule items cs c.as_slice.result.now
    (c.as_slice.ensures ∙ c.args.ready.now.prepared_is.inherited) c.in_ok-projected.projected.projections c.as_slice-2.result.now c.as_slice-2.ensures
    c.in_ok-projected.ensures.projections
    c.in_ok-projected.projected.places c.as_slice-3.result.now c.as_slice-3.ensures c.in_ok-projected.ensures.places
    c.as_slice-4.result.now c.in_ok-found.found.parts c.as_slice-4.ensures c.in_ok-found.ensures.parts)

pub returns-clause-ran : goal.returns-clause-ran
returns-clause-ran g c =
    c.has_some-ran.ensures
    ∙ ap (λ (envs : List Pairs). not (is_empty envs))
    (run_under c.args.ready.now.defined.now c.args.had.now c.args.ready.now.number c.args.ready.now.rule.now c.args.graphs.now.items
    c.args.file_envs.now c.as_slice.result.now
    (c.as_slice.ensures ∙ c.args.ready.now.prepared_is.inherited) c.in_ok-projected.projected.projections c.as_slice-5.result.now c.as_slice-5.ensures
    c.in_ok-projected.ensures.projections)

pub returns-clause-few : goal.returns-clause-few
returns-clause-few g c =
    let items = c.args.graphs.now.items in
    ap (found.has_too_many c.args.ready.now.number c.args.ready.now.rule.now items)
    (sym (run_under c.args.ready.now.defined.now c.args.had.now c.args.ready.now.number c.args.ready.now.rule.now items
    c.args.file_envs.now c.as_slice.result.now
    (c.as_slice.ensures ∙ c.args.ready.now.prepared_is.inherited) c.in_ok-projected.projected.projections c.as_slice-2.result.now c.as_slice-2.ensures
    c.in_ok-projected.ensures.projections))
    ∙ c.in_ok-found.ensures.few

pub returns-in_err-found-clause-too_many : goal.returns-in_err-found-clause-too_many
returns-in_err-found-clause-too_many g c = λ h.
    let p = err_from_is_err_and c.from_residual-in_err-found.result c.from_residual-in_err-found.ensures.1 in
    let e : p.0 ≡ TooManyWitnesses = cc (h, p.1) in
    let items = c.args.graphs.now.items in
    ap (found.has_too_many c.args.ready.now.number c.args.ready.now.rule.now items)
    (sym (run_under c.args.ready.now.defined.now c.args.had.now c.args.ready.now.number c.args.ready.now.rule.now items
    c.args.file_envs.now c.as_slice.result.now
    (c.as_slice.ensures ∙ c.args.ready.now.prepared_is.inherited) c.in_ok-projected.projected.projections c.as_slice-2.result.now c.as_slice-2.ensures
    c.in_ok-projected.ensures.projections))
    ∙ c.in_err-found.ensures.too_many (cc (witnesses_told _ (sym p.2 ∙ e)))

pub returns-in_err-found-clause-too_many_environments : goal.returns-in_err-found-clause-too_many_environments
returns-in_err-found-clause-too_many_environments g c = λ h.
    let p = err_from_is_err_and c.from_residual-in_err-found.result c.from_residual-in_err-found.ensures.1 in
    let e : p.0 ≡ TooManyEnvironments = cc (h, p.1) in
    absurd (not_by_witnesses _ (sym p.2 ∙ e))

pub returns-in_err-next-clause-too_many : goal.returns-in_err-next-clause-too_many
returns-in_err-next-clause-too_many g c = λ h.
    let p = err_from_is_err_and c.from_residual-in_err-next.result c.from_residual-in_err-next.ensures.1 in
    let e : p.0 ≡ TooManyWitnesses = cc (h, p.1) in
    absurd (not_by_environments _ (sym p.2 ∙ e))

pub returns-in_err-next-clause-too_many_environments : goal.returns-in_err-next-clause-too_many_environments
returns-in_err-next-clause-too_many_environments g c = λ h.
    let p = err_from_is_err_and c.from_residual-in_err-next.result c.from_residual-in_err-next.ensures.1 in
    let e : p.0 ≡ TooManyEnvironments = cc (h, p.1) in
    let items = c.args.graphs.now.items in
    let number = c.args.ready.now.number in
    let rule = c.args.ready.now.rule.now in
    let cs = c.args.file_envs.now in (
      ap (found.has_too_many number rule items)
          (sym (run_under c.args.ready.now.defined.now c.args.had.now number rule items cs c.as_slice.result.now
          (c.as_slice.ensures ∙ c.args.ready.now.prepared_is.inherited) c.in_ok-projected.projected.projections c.as_slice-2.result.now c.as_slice-2.ensures
          c.in_ok-projected.ensures.projections))
          ∙ c.in_ok-found.ensures.few,
      c.in_err-next.ensures.too_many (cc (environments_told _ (sym p.2 ∙ e)))
          (rule_share c.args.ready.now.defined.now c.args.had.now number rule items (map bare_file_env cs)) (found.brings number rule items)
          (are_brought c.args.ready.now.defined.now c.args.had.now number rule items cs c.as_slice.result.now
          (c.as_slice.ensures ∙ c.args.ready.now.prepared_is.inherited) c.in_ok-projected.projected.projections c.as_slice-2.result.now c.as_slice-2.ensures
          c.in_ok-projected.ensures.projections
          c.in_ok-projected.projected.places c.as_slice-3.result.now c.as_slice-3.ensures c.in_ok-projected.ensures.places
          c.as_slice-4.result.now c.in_ok-found.found.parts c.as_slice-4.ensures c.in_ok-found.ensures.parts),
    )
