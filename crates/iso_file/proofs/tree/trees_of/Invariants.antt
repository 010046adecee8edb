use Rattle.std.proofs.Common.{take}
use Rattle.iso_file.specs.Isos.{AreSides}
use Rattle.iso_file.proofs.tree.trees_of.Given as goal

abbrev pub invariant-loop-side : goal.invariant-loop-side
invariant-loop-side l = AreSides l.vars (take l.side-index l.sides) l.trees
