use Rattle.std.proofs.Common.{◌≡◌, ◌-◌, length}
use Rattle.c_expr.proofs.memo.Memo.reach.Given as goal

abbrev pub invariant-loop-self : goal.invariant-loop-self
invariant-loop-self l = l.self.entries.items ≡ l.fn.self.entries.items

abbrev pub decreases-loop-self : goal.decreases-loop-self
decreases-loop-self l = l.places - length l.self.last.items
