use Rattle.std.proofs.Common.{◌≡◌, ◌++◌, drop}
use Rattle.std.specs.List.{flat_map}
use Rattle.run_files.specs.RunLines.Names.{quoted_byte}
use Rattle.run_files.proofs.run_lines.names.put_bytes.Given as goal

abbrev pub invariant-loop-byte : goal.invariant-loop-byte
invariant-loop-byte l = l.line ++ flat_map quoted_byte (drop l.byte-index l.name) ≡ l.initial.line ++ flat_map quoted_byte l.name
