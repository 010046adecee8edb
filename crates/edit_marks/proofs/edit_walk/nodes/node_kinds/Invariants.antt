use Rattle.std.proofs.Common.{◌≡◌, map, take}
use Rattle.edit_marks.proofs.edit_walk.nodes.node_kinds.Given as goal

abbrev pub invariant-loop-n : goal.invariant-loop-n
invariant-loop-n l = l.kinds.items ≡ map (λ n. n.kind) (take l.n l.graph.labels)
