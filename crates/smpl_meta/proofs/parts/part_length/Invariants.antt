use Rattle.std.proofs.Common.{◌≡◌, ◌+◌, drop}
use Rattle.smpl_meta.specs.Splits.{part_length}
use Rattle.smpl_meta.proofs.parts.part_length.Given as goal

abbrev pub invariant-loop-i : goal.invariant-loop-i
invariant-loop-i l = l.i + part_length (drop l.i l.tokens) ≡ part_length l.tokens
