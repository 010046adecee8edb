use Rattle.std.proofs.Common.{◌≡◌, ◌+◌, drop}
use Rattle.smpl_meta.specs.Typed.{specs_from, specs_length}
use Rattle.smpl_meta.proofs.typed.specs_length.Given as goal

abbrev pub invariant-loop-i : goal.invariant-loop-i
invariant-loop-i l = l.i + specs_from l.named l.tag (drop l.i l.tokens) ≡ specs_length l.tokens
