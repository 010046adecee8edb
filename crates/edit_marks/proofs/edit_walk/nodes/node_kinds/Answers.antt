use Rattle.std.proofs.Common.{sym, ap, ◌∙◌, List, [], ◌∷◌, ◌++◌, map, take}
use Rattle.std.proofs.lemmas.List.{map-append}
use Rattle.cfg_build.specs.declared.cfg_graph.label.NodeKind.{NodeKind}
use Rattle.cfg_build.specs.declared.cfg_graph.label.NodeLabel.{NodeLabel}
use Rattle.edit_marks.proofs.EditWalk.ListLemmas.{take_here}
use Rattle.edit_marks.proofs.edit_walk.nodes.node_kinds.Goals as goal

pub loop-n-preserved : goal.loop-n-preserved
loop-n-preserved c =
    let labels = c.args.graph.now.labels in
    let own = c.label.result in
    c.in_ok-push.ensures.items ∙ ap (λ (l : List NodeKind). l ++ own.kind ∷ []) c.loop-n.invariant
    ∙ sym (map-append (λ (n : NodeLabel). n.kind) (take c.loop-n.n labels) (own ∷ []))
    ∙ ap (map (λ (n : NodeLabel). n.kind)) (sym (take_here labels c.loop-n.n own c.label.ensures.value))
