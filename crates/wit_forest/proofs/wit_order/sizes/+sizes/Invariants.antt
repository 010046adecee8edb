use Rattle.std.proofs.Common.{◌≡◌, ◌+◌, drop}
use Rattle.wit_forest.specs.WitOrder.Sizes.{forest_size}
use Rattle.wit_forest.proofs.wit_order.sizes.+sizes.Given as goal

abbrev pub invariant-within-loop-tree : goal.invariant-within-loop-tree
invariant-within-loop-tree l = l.left + forest_size l.trees ≡ l.budget + forest_size (drop l.tree-index l.trees)
