use Rattle.std.proofs.Common.{◌≡◌, ap, ◌∙◌, sym, subst, arith, length, map}
use denote.Param.Send.{sendable}
use Rattle.std.proofs.Crossing.{crosses}
use Rattle.smpl_terms.proofs.Crossing.{env_sync, var_sync}
use Rattle.smpl_patch.proofs.Crossing.{rule_witness_send}
use Rattle.cfg_build.proofs.CfgGraph.Crossing.{graph_sync}
use Rattle.ctl_formula.proofs.Crossing.{formula_sync}
use Rattle.rule_chain.specs.RuleWitnesses.Bare.{bare_witness}
use Rattle.rule_chain.specs.RuleWitnesses.Jobs.{BindsExports}
use Rattle.rule_chain.specs.FileWitnesses.Required.{are_new}
use Rattle.rule_chain.proofs.FileWitnesses.RequiredLemmas.{new_tell}
use Rattle.rule_chain.proofs.FileWitnesses.Crossing.{kept_in_send, query_in_sync}
use Rattle.rule_chain.proofs.FileWitnesses.ItemLemmas.{all_found, all_few, one_stopped}
use Rattle.rule_chain.proofs.FileWitnesses.KeptLemmas.{all_kept}
use Rattle.rule_chain.proofs.file_witnesses.under.under_first.Goals as goal

pub invariant_of-query : goal.invariant_of-query
invariant_of-query g c = record {
  stand = c.args.ready.now.may.stand;
  binds = subst (λ es. BindsExports c.args.ready.now.prepared.now.formula es) (sym c.as_slice.ensures) c.args.ready.now.may.binds;
}

pub invariant_of-finder : goal.invariant_of-finder
invariant_of-finder g c = record {
  new = ap (λ es. are_new es c.args.env.now) c.as_slice.ensures ∙ new_tell c.args.ready.now.rule.now.exports c.args.env.now c.requires.new;
  few = c.requires.few_items;
}

pub map_jobs-requires-send-W-Answer : goal.map_jobs-requires-send-W-Answer
map_jobs-requires-send-W-Answer g c κs within = search (rule_witness_send, kept_in_send, crosses, sendable) depth 60

pub map_jobs-requires-sync-W : goal.map_jobs-requires-sync-W
map_jobs-requires-sync-W g c κs within = search (query_in_sync, formula_sync, graph_sync, env_sync, var_sync, crosses, sendable) depth 60

pub returns-in_ok-all_first-in-Ok-clause-found : goal.returns-in_ok-all_first-in-Ok-clause-found
returns-in_ok-all_first-in-Ok-clause-found g c = λ items lent.
    let graphs = c.args.graphs.now in
    let count : length c.in-Ok.answers.items ≡ length graphs = omega (arith, c.in-Ok.ensures.answers.count) in
    ap (map bare_witness) c.in_ok-all_first-in-Ok.ensures.found
    ∙ all_found c.args.ready.now.number c.args.ready.now.rule.now c.args.ready.now.prepared.now.formula
    c.args.ready.now.prepared_is.formula c.args.env.now items graphs lent c.as_slice.result.now c.as_slice.ensures
    (λ first. first.found) c.in-Ok.answers.items count (λ j a e. (c.in-Ok.ensures.answers.each j a e).0)

pub returns-in_ok-all_first-in-Ok-clause-few : goal.returns-in_ok-all_first-in-Ok-clause-few
returns-in_ok-all_first-in-Ok-clause-few g c = λ items lent.
    let graphs = c.args.graphs.now in
    let count : length c.in-Ok.answers.items ≡ length graphs = omega (arith, c.in-Ok.ensures.answers.count) in
    all_few c.args.ready.now.number c.args.ready.now.rule.now c.args.ready.now.prepared.now.formula
    c.args.ready.now.prepared_is.formula c.args.env.now items graphs lent c.as_slice.result.now c.as_slice.ensures
    (λ first. first.found) c.in-Ok.answers.items count (λ j a e. (c.in-Ok.ensures.answers.each j a e).0)

pub returns-in_ok-all_first-in-Ok-clause-kept : goal.returns-in_ok-all_first-in-Ok-clause-kept
returns-in_ok-all_first-in-Ok-clause-kept g c = λ later.
    let graphs = c.args.graphs.now in
    let count : length c.in-Ok.answers.items ≡ length graphs = omega (arith, c.in-Ok.ensures.answers.count) in
    all_kept c.args.ready.now.prepared.now.formula graphs (λ first. first.kept) c.in-Ok.answers.items _ (c.in_ok-all_first-in-Ok.ensures.kept later) count
    (λ j a e. (c.in-Ok.ensures.answers.each j a e).1)

pub returns-in-Err-clause-too_many : goal.returns-in-Err-clause-too_many
returns-in-Err-clause-too_many g c = λ h items lent.
    let graphs = c.args.graphs.now in
    let all : length graphs ≡ length graphs = omega arith in
    let s = c.stopped.ensures (cc h) in
    one_stopped c.args.ready.now.number c.args.ready.now.rule.now c.args.ready.now.prepared.now.formula
    c.args.ready.now.prepared_is.formula c.args.env.now items graphs lent c.as_slice.result.now c.as_slice.ensures
    _ (length graphs) all c.in-Err.stop c.in-Err.ensures.fault s.0 s.1
