use Rattle.std.proofs.Common.{◌≡◌, length}
use Rattle.c_expr.proofs.see.unseen.Given as goal

abbrev pub invariant-loop-token : goal.invariant-loop-token
invariant-loop-token l = length l.seen.items ≡ l.token-index
