use Rattle.std.proofs.Common.{◌≡◌, ◌++◌, drop}
use Rattle.std.specs.List.{flat_map}
use Rattle.edit_marks.specs.EditWalk.Named.{numbered}
use Rattle.edit_marks.proofs.edit_walk.aligned.numbered.Given as goal

abbrev pub invariant-loop-pair : goal.invariant-loop-pair
invariant-loop-pair l = l.found.items ++ flat_map (numbered l.ids) (drop l.pair-index l.pairs) ≡ flat_map (numbered l.ids) l.pairs
