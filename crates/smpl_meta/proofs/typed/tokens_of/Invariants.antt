use Rattle.std.proofs.Common.{◌≡◌, ◌++◌, drop}
use Rattle.smpl_meta.specs.Typed.{tokens_of}
use Rattle.smpl_meta.proofs.typed.tokens_of.Given as goal

abbrev pub invariant-loop-i : goal.invariant-loop-i
invariant-loop-i l = l.out.items ++ tokens_of l.i (drop l.i l.tokens) ≡ tokens_of 0 l.tokens
