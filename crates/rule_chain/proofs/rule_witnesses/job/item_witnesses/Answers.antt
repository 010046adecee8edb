use Rattle.std.proofs.Common.{◌≡◌, ℕ, ◌<◌, ◌≤◌, ap, ◌∙◌, subst, arith, List, length, map, get_or}
use Rattle.std.specs.List.{flat_map}
use Rattle.std.proofs.lemmas.List.{take_all}
use Rattle.std.proofs.lemmas.Result.{err_from_is_err_and}
use Rattle.rule_chain.specs.RuleWitnesses.Bare.{bare_witness}
use Rattle.rule_chain.specs.RuleWitnesses.Jobs.{touches_and_binds, witnesses_at, witnesses_of}
use Rattle.rule_chain.proofs.RuleWitnesses.JobLemmas.{nodes_more, nodes_past, nodes-same, set_told, set_leaves}
use Rattle.rule_chain.proofs.RuleWitnesses.MatchLemmas.{item_at, matched_within, matched_all}
use Rattle.rule_chain.proofs.rule_witnesses.job.item_witnesses.Goals as goal

pub loop-s-init : goal.loop-s-init
loop-s-init c = ap (map bare_witness) c.none-found.ensures.none

pub at-set-requires-clause-node : goal.at-set-requires-clause-node
at-set-requires-clause-node c =
    let p = item_at c.as_slice-s-items.result.now c.args.matched.now.nodes c.loop-s.s-index c.as_slice-s-items.ensures c.loop-s-test.true in
    let within = matched_within c.args.g.now.graph.now c.args.query.now.f.now c.args.matched.now.sets c.args.matched.now.nodes c.requires.matched
    c.loop-s.s-index (get_or c.as_slice-s-items.result.now c.loop-s.s-index 0) p.0 p.1 in
    let row = c.requires.matched.sets.nodes c.root-root.result c.root-root.ensures.within in
    omega (arith, within, row)

pub with_node-requires-clause-node : goal.with_node-requires-clause-node
with_node-requires-clause-node c =
    let p = item_at c.as_slice-s-items.result.now c.args.matched.now.nodes c.loop-s.s-index c.as_slice-s-items.ensures c.loop-s-test.true in
    matched_within c.args.g.now.graph.now c.args.query.now.f.now c.args.matched.now.sets c.args.matched.now.nodes c.requires.matched
    c.loop-s.s-index (get_or c.as_slice-s-items.result.now c.loop-s.s-index 0) p.0 p.1

pub with_node-requires-clause-told : goal.with_node-requires-clause-told
with_node-requires-clause-told c =
    let p = item_at c.as_slice-s-items.result.now c.args.matched.now.nodes c.loop-s.s-index c.as_slice-s-items.ensures c.loop-s-test.true in
    let lt = matched_within c.args.g.now.graph.now c.args.query.now.f.now c.args.matched.now.sets c.args.matched.now.nodes c.requires.matched
    c.loop-s.s-index (get_or c.as_slice-s-items.result.now c.loop-s.s-index 0) p.0 p.1 in
    set_told c.args.g.now.graph.now c.args.query.now.f.now c.args.matched.now.sets c.args.g.now.sound c.requires.matched.sets
    c.root-root.result c.root-root.ensures.root
    c.root-root.ensures.within (get_or c.as_slice-s-items.result.now c.loop-s.s-index 0) lt c.at-set.result.now c.at-set.ensures.set

pub with_node-requires-clause-leaves : goal.with_node-requires-clause-leaves
with_node-requires-clause-leaves c =
    let p = item_at c.as_slice-s-items.result.now c.args.matched.now.nodes c.loop-s.s-index c.as_slice-s-items.ensures c.loop-s-test.true in
    let lt = matched_within c.args.g.now.graph.now c.args.query.now.f.now c.args.matched.now.sets c.args.matched.now.nodes c.requires.matched
    c.loop-s.s-index (get_or c.as_slice-s-items.result.now c.loop-s.s-index 0) p.0 p.1 in
    set_leaves c.args.g.now.graph.now c.args.query.now.f.now c.args.matched.now.sets c.args.g.now.sound c.requires.matched.sets
    c.root-root.result c.root-root.ensures.root
    c.root-root.ensures.within (get_or c.as_slice-s-items.result.now c.loop-s.s-index 0) lt c.at-set.result.now
    c.at-set.ensures.set c.args.query.now.stand c.args.query.now.exports.now c.args.query.now.binds
    c.args.env.now

pub loop-s-preserved : goal.loop-s-preserved
loop-s-preserved c =
    let p = item_at c.as_slice-s-items.result.now c.args.matched.now.nodes c.loop-s.s-index c.as_slice-s-items.ensures c.loop-s-test.true in
    nodes_more (λ s. witnesses_at c.args.query.now.f.now c.args.g.now.graph.now c.args.query.now.exports.now
    c.args.query.now.number c.args.item s c.args.env.now) c.args.matched.now.nodes
    c.loop-s.found.witnesses c.in_ok-found.found.witnesses c.loop-s.s-index
    (get_or c.as_slice-s-items.result.now c.loop-s.s-index 0) p.0 p.1 c.loop-s.invariant c.in_ok-found.ensures.found

pub returns-in_err-found-clause-too_many : goal.returns-in_err-found-clause-too_many
returns-in_err-found-clause-too_many c = λ h.
    let e = err_from_is_err_and c.from_residual.result c.from_residual.ensures.1 in
    let f = c.args.query.now.f.now in
    let g = c.args.g.now.graph.now in
    let nodes = c.args.matched.now.nodes in
    let p = item_at c.as_slice-s-items.result.now nodes c.loop-s.s-index c.as_slice-s-items.ensures c.loop-s-test.true in
    let low = subst (λ (n : ℕ). n < length f.nodes) c.root-root.ensures.root c.root-root.ensures.within in
    subst (λ ws. 1000000 < touches_and_binds ws)
    (matched_all g f c.args.matched.now.sets nodes c.requires.matched c.args.g.now.sound low c.args.query.now.exports.now
    c.args.query.now.number c.args.item c.args.env.now)
    (nodes_past (λ s. witnesses_at f g c.args.query.now.exports.now c.args.query.now.number c.args.item s c.args.env.now) nodes
    c.loop-s.found.witnesses c.loop-s.s-index
    (get_or c.as_slice-s-items.result.now c.loop-s.s-index 0) p.0 p.1 c.loop-s.invariant (c.in_err-found.ensures.too_many (cc (h, e.1, e.2))))

pub returns-clause-found : goal.returns-clause-found
returns-clause-found c =
    let f = c.args.query.now.f.now in
    let g = c.args.g.now.graph.now in
    let nodes = c.args.matched.now.nodes in
    let low = subst (λ (n : ℕ). n < length f.nodes) c.root-root.ensures.root c.root-root.ensures.within in
    let all = λ (ns : List ℕ). map bare_witness
    (flat_map (λ s. witnesses_at f g c.args.query.now.exports.now c.args.query.now.number c.args.item s c.args.env.now) ns) in
    let end : length nodes ≤ c.loop-s.s-index = omega (arith, ap length c.as_slice-s-items.ensures, c.loop-s-test.false) in
    ap (map bare_witness) c.into_items.ensures.items ∙ c.loop-s.invariant ∙ ap all (take_all c.loop-s.s-index nodes end)
    ∙ ap (map bare_witness)
    (matched_all g f c.args.matched.now.sets nodes c.requires.matched c.args.g.now.sound low c.args.query.now.exports.now
    c.args.query.now.number c.args.item c.args.env.now)

pub returns-clause-few : goal.returns-clause-few
returns-clause-few c =
    let f = c.args.query.now.f.now in
    let g = c.args.g.now.graph.now in
    let nodes = c.args.matched.now.nodes in
    let low = subst (λ (n : ℕ). n < length f.nodes) c.root-root.ensures.root c.root-root.ensures.within in
    let all = λ (ns : List ℕ). map bare_witness
    (flat_map (λ s. witnesses_at f g c.args.query.now.exports.now c.args.query.now.number c.args.item s c.args.env.now) ns) in
    let end : length nodes ≤ c.loop-s.s-index = omega (arith, ap length c.as_slice-s-items.ensures, c.loop-s-test.false) in
    let same : touches_and_binds c.into_items.result
    ≡ touches_and_binds (witnesses_of f g c.args.query.now.exports.now c.args.query.now.number c.args.item c.args.env.now) =
    nodes-same c.into_items.result (witnesses_of f g c.args.query.now.exports.now c.args.query.now.number c.args.item c.args.env.now)
    (ap (map bare_witness) c.into_items.ensures.items ∙ c.loop-s.invariant ∙ ap all (take_all c.loop-s.s-index nodes end)
    ∙ ap (map bare_witness)
    (matched_all g f c.args.matched.now.sets nodes c.requires.matched c.args.g.now.sound low c.args.query.now.exports.now
    c.args.query.now.number c.args.item c.args.env.now)) in
    omega (arith, same, c.into_items.ensures.few)
