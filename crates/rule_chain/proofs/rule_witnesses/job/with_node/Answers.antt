use Rattle.std.proofs.Common.{◌<◌, ◌≤◌, ap, ◌∙◌, arith, length, map}
use Rattle.std.proofs.lemmas.Result.{err_from_is_err_and}
use Rattle.ctl_fixpoint.specs.CtlHolds.Values.{values_of}
use Rattle.env_parts.specs.Parts.{bare_env}
use Rattle.rule_chain.specs.RuleWitnesses.Jobs.{witnesses_at}
use Rattle.rule_chain.proofs.RuleWitnesses.JobLemmas.{node_none, node_more, node_all, node_done, node_past}
use Rattle.rule_chain.proofs.rule_witnesses.job.with_node.Goals as goal

pub loop-e-init : goal.loop-e-init
loop-e-init c =
    node_none c.args.query.now.f.now c.args.place.now.g.now c.args.query.now.number c.args.place.now.item c.args.place.now.node
    c.args.so_far.witnesses c.deref-e-items.result.now

pub loop-e-preserved : goal.loop-e-preserved
loop-e-preserved c =
    let lt : c.loop-e.e-index < length c.deref-e-items.result.now = omega arith in
    node_more c.args.query.now.f.now c.args.place.now.g.now c.args.query.now.number c.args.place.now.item c.args.place.now.node
    c.args.so_far.witnesses c.loop-e.found.witnesses c.in_ok-found.found.witnesses
    c.deref-e-items.result.now c.loop-e.e-index c.e-item.result lt c.e-item.is c.loop-e.invariant c.in_ok-found.ensures.found

pub returns-in_err-found-clause-too_many : goal.returns-in_err-found-clause-too_many
returns-in_err-found-clause-too_many c = λ h.
    let p = err_from_is_err_and c.from_residual-in_err-found.result c.from_residual-in_err-found.ensures.1 in
    let f = c.args.query.now.f.now in
    let g = c.args.place.now.g.now in
    let es = c.deref-e-items.result.now in
    let lt : c.loop-e.e-index < length es = omega arith in
    node_past f g c.args.query.now.number c.args.place.now.item c.args.place.now.node c.args.so_far.witnesses c.loop-e.found.witnesses
    (witnesses_at f g c.args.query.now.exports.now c.args.query.now.number c.args.place.now.item c.args.place.now.node
    c.args.env.now) es c.loop-e.e-index c.e-item.result lt c.e-item.is
    c.loop-e.invariant
    (node_all f g c.args.query.now.number c.args.place.now.item c.args.place.now.node c.args.query.now.exports.now
    c.args.set.now c.args.env.now es c.requires.told
    (ap (map bare_env) c.deref-e-items.ensures.value ∙ c.in_ok-envs.ensures.envs (values_of g) c.requires.leaves))
    (c.in_err-found.ensures.too_many (cc (h, p.1, p.2)))

pub returns-clause-found : goal.returns-clause-found
returns-clause-found c =
    let f = c.args.query.now.f.now in
    let g = c.args.place.now.g.now in
    let es = c.deref-e-items.result.now in
    let le : length es ≤ c.loop-e.e-index = omega arith in
    node_done f g c.args.query.now.number c.args.place.now.item c.args.place.now.node c.args.so_far.witnesses c.loop-e.found.witnesses
    (witnesses_at f g c.args.query.now.exports.now c.args.query.now.number c.args.place.now.item c.args.place.now.node
    c.args.env.now) es c.loop-e.e-index le c.loop-e.invariant
    (node_all f g c.args.query.now.number c.args.place.now.item c.args.place.now.node c.args.query.now.exports.now
    c.args.set.now c.args.env.now es c.requires.told
    (ap (map bare_env) c.deref-e-items.ensures.value ∙ c.in_ok-envs.ensures.envs (values_of g) c.requires.leaves))
