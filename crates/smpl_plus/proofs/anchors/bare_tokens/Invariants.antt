use Rattle.std.proofs.Common.{◌≡◌, ◌++◌, map, drop}
use Rattle.smpl_plus.specs.Anchors.{bare}
use Rattle.smpl_plus.proofs.anchors.bare_tokens.Given as goal

abbrev pub invariant-loop-p : goal.invariant-loop-p
invariant-loop-p l = l.tokens.items ++ map bare (drop l.p-index l.placed) ≡ map bare l.placed
