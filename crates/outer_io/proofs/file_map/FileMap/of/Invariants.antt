use Rattle.std.proofs.Common.{◌≡◌}
use Rattle.outer_io.specs.Files.{files_of}
use Rattle.outer_io.proofs.file_map.FileMap.of.Given as goal

abbrev pub invariant-loop-name : goal.invariant-loop-name
invariant-loop-name l = l.files ≡ files_of l.yielded
