use Rattle.std.proofs.Common.{ap, ◌∙◌, map}
use Rattle.std.proofs.lemmas.Result.{err_from_is_err_and}
use Rattle.rule_chain.specs.RuleWitnesses.Bare.{bare_witness}
use Rattle.env_parts.specs.Parts.{bare_env}
use Rattle.rule_chain.specs.FileWitnesses.Found as of
use Rattle.rule_chain.specs.FileWitnesses.Lists.{brought}
use Rattle.rule_chain.proofs.FileWitnesses.AddLemmas.{joined_found, joined_parts, none_many, one_many}
use Rattle.rule_chain.proofs.file_witnesses.whole.witnesses.Goals as goal

pub returns-clause-found : goal.returns-clause-found
returns-clause-found g c =
    ap (map bare_witness) c.in_ok-found.ensures.witnesses
    ∙ joined_found c.args.ready.now.number c.args.ready.now.rule.now c.args.graphs.now.items c.args.projections.now
    c.in_ok-lists.lists.items c.in_ok-lists.ensures.found

pub returns-clause-parts : goal.returns-clause-parts
returns-clause-parts g c =
    ap (map (map bare_env)) (c.in_ok-found.ensures.parts ∙ ap (λ es. map (brought es) c.in_ok-lists.lists.items) c.as_slice.ensures)
    ∙ joined_parts c.args.ready.now.number c.args.ready.now.rule.now c.args.graphs.now.items c.args.projections.now
    c.in_ok-lists.lists.items c.in_ok-lists.ensures.found

pub returns-clause-few : goal.returns-clause-few
returns-clause-few g c =
    none_many (of.is_large_under c.args.ready.now.number c.args.ready.now.rule.now c.args.graphs.now.items) c.args.projections.now c.in_ok-lists.ensures.few

pub returns-in_err-lists-clause-too_many : goal.returns-in_err-lists-clause-too_many
returns-in_err-lists-clause-too_many g c = λ h.
    let p = err_from_is_err_and c.from_residual.result c.from_residual.ensures.1 in
    one_many (of.is_large_under c.args.ready.now.number c.args.ready.now.rule.now c.args.graphs.now.items) c.args.projections.now
    (c.in_err-lists.ensures.too_many (cc (h, p.1, p.2)))
