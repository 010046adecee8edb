use Rattle.std.proofs.Common.{◌≡◌, take}
use Rattle.smpl_patch.proofs.copies.copy_pattern_tokens.Given as goal

abbrev pub invariant-loop-t : goal.invariant-loop-t
invariant-loop-t l = l.copies.items ≡ take l.t-index l.tokens
