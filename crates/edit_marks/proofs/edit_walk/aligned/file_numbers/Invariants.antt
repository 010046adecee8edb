use Rattle.std.proofs.Common.{◌≡◌, ◌++◌, drop}
use Rattle.std.specs.List.{filter_map}
use Rattle.edit_marks.specs.EditWalk.Keys.{number_of}
use Rattle.edit_marks.proofs.edit_walk.aligned.file_numbers.Given as goal

abbrev pub invariant-loop-id : goal.invariant-loop-id
invariant-loop-id l = l.numbers.items ++ filter_map (number_of l.ids) (drop l.id-index l.files) ≡ filter_map (number_of l.ids) l.files
