use Rattle.std.proofs.Common.{◌≡◌, ◌++◌, take, map}
use Rattle.tidy_flags.proofs.lines.put_removed.Given as goal

abbrev pub invariant-loop-byte : goal.invariant-loop-byte
invariant-loop-byte l = l.bytes.items ≡ l.initial.bytes.items ++ map (λ b. record { byte = b; goes = l.is_free; is_soft = l.is_free }) (take l.byte-index l.text)
