use Rattle.std.proofs.Common.{◌<◌, ◌≤◌, ◌+◌, ◌++◌, ap, ◌∙◌, arith, length}
use Rattle.rule_chain.proofs.RuleEdits.NodeLemmas.{nodes_from, nodes_more, nodes_all}
use Rattle.rule_chain.proofs.rule_edits.nodes.nodes.Goals as goal

pub loop-i-preserved : goal.loop-i-preserved
loop-i-preserved c =
    let rule = c.args.rule.now in
    let items = c.args.graphs.now.items in
    let i = c.loop-i.i in
    let within : i < length items = omega (arith, c.requires.count) in
    ap (λ done. done ++ nodes_from rule items (i + 1)) c.in_ok-push.ensures.items
    ∙ nodes_more rule items i c.loop-i.nodes.items c.in_ok-nodes_at.field-0 within c.in_ok-nodes_at.ensures.nodes c.loop-i.invariant

pub returns : goal.returns
returns c =
    let items = c.args.graphs.now.items in
    let all : length items ≤ c.loop-i.i = omega (arith, c.requires.count) in
    record { nodes = nodes_all c.args.rule.now items c.loop-i.i c.loop-i.nodes.items all c.loop-i.invariant }
