use Rattle.std.proofs.Common.{◌≡◌, ◌+◌, drop}
use Rattle.std.specs.Prelude.{false}
use Rattle.smpl_meta.specs.Splits.{chunk_length}
use Rattle.smpl_meta.proofs.parts.chunk_length.Given as goal

abbrev pub invariant-loop-i : goal.invariant-loop-i
invariant-loop-i l = l.i + chunk_length l.within (drop l.i l.tokens) ≡ chunk_length false l.tokens
