use Rattle.std.proofs.Common.{◌≡◌, ap, ◌∙◌, sym, subst, arith, length, map}
use denote.Param.Send.{sendable}
use Rattle.std.proofs.Crossing.{crosses}
use Rattle.smpl_terms.proofs.Crossing.{env_sync, var_sync}
use Rattle.cfg_build.proofs.CfgGraph.Crossing.{graph_sync}
use Rattle.ctl_formula.proofs.Crossing.{formula_sync}
use Rattle.rule_chain.specs.RuleWitnesses.Bare.{bare_witness}
use Rattle.rule_chain.specs.RuleWitnesses.Jobs.{BindsExports}
use Rattle.rule_chain.specs.FileWitnesses.Required.{are_new}
use Rattle.rule_chain.proofs.FileWitnesses.RequiredLemmas.{new_tell}
use Rattle.rule_chain.proofs.FileWitnesses.Crossing.{kept_sync, query_in_sync}
use Rattle.rule_chain.proofs.FileWitnesses.ItemLemmas.{all_found, all_few, one_stopped}
use Rattle.rule_chain.proofs.file_witnesses.under.under_next.Goals as goal

pub invariant_of-query : goal.invariant_of-query
invariant_of-query g c = record {
  stand = c.args.ready.now.may.stand;
  binds = subst (λ es. BindsExports c.args.ready.now.prepared.now.formula es) (sym c.as_slice.ensures) c.args.ready.now.may.binds;
}

pub invariant_of-finder : goal.invariant_of-finder
invariant_of-finder g c = record {
  new = ap (λ es. are_new es c.args.env.now) c.as_slice.ensures ∙ new_tell c.args.ready.now.rule.now.exports c.args.env.now c.requires.new;
  few = c.requires.few_items;
  kept_count = c.requires.count;
  each_kept = c.requires.kept;
}

pub map_jobs-requires-sync-W : goal.map_jobs-requires-sync-W
map_jobs-requires-sync-W g c κs within = search (query_in_sync, formula_sync, graph_sync, env_sync, var_sync, kept_sync, crosses, sendable) depth 60

pub returns-in_ok-one_list-in-Ok-clause-found : goal.returns-in_ok-one_list-in-Ok-clause-found
returns-in_ok-one_list-in-Ok-clause-found g c = λ items lent.
    let graphs = c.args.graphs.now in
    let count : length c.in-Ok.lists.items ≡ length graphs = omega (arith, c.in-Ok.ensures.answers.count) in
    ap (map bare_witness) c.in_ok-one_list-in-Ok.ensures.found
    ∙ all_found c.args.ready.now.number c.args.ready.now.rule.now c.args.ready.now.prepared.now.formula
    c.args.ready.now.prepared_is.formula c.args.env.now items graphs lent c.as_slice.result.now c.as_slice.ensures
    (λ list. list) c.in-Ok.lists.items count c.in-Ok.ensures.answers.each

pub returns-in_ok-one_list-in-Ok-clause-few : goal.returns-in_ok-one_list-in-Ok-clause-few
returns-in_ok-one_list-in-Ok-clause-few g c = λ items lent.
    let graphs = c.args.graphs.now in
    let count : length c.in-Ok.lists.items ≡ length graphs = omega (arith, c.in-Ok.ensures.answers.count) in
    all_few c.args.ready.now.number c.args.ready.now.rule.now c.args.ready.now.prepared.now.formula
    c.args.ready.now.prepared_is.formula c.args.env.now items graphs lent c.as_slice.result.now c.as_slice.ensures
    (λ list. list) c.in-Ok.lists.items count c.in-Ok.ensures.answers.each

pub returns-in-Err-clause-too_many : goal.returns-in-Err-clause-too_many
returns-in-Err-clause-too_many g c = λ h items lent.
    let graphs = c.args.graphs.now in
    let all : length graphs ≡ length graphs = omega arith in
    let s = c.stopped.ensures (cc h) in
    one_stopped c.args.ready.now.number c.args.ready.now.rule.now c.args.ready.now.prepared.now.formula
    c.args.ready.now.prepared_is.formula c.args.env.now items graphs lent c.as_slice.result.now c.as_slice.ensures
    _ (length graphs) all c.in-Err.stop c.in-Err.ensures.fault s.0 s.1
