use Rattle.std.proofs.Common.{◌≡◌, ◌++◌, take}
use Rattle.tidy_flags.specs.Lines.{solid_bytes}
use Rattle.tidy_flags.proofs.lines.put_solid.Given as goal

abbrev pub invariant-loop-byte : goal.invariant-loop-byte
invariant-loop-byte l = l.bytes.items ≡ l.initial.bytes.items ++ solid_bytes (take l.byte-index l.text)
