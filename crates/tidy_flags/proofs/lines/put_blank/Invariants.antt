use Rattle.std.proofs.Common.{◌≡◌, ◌++◌, take}
use Rattle.tidy_flags.specs.Lines.{blank_bytes}
use Rattle.tidy_flags.proofs.lines.put_blank.Given as goal

abbrev pub invariant-loop-byte : goal.invariant-loop-byte
invariant-loop-byte l = l.bytes.items ≡ l.initial.bytes.items ++ blank_bytes (take l.byte-index l.text)
