use Rattle.std.proofs.Common.{◌≡◌, take}
use Rattle.ctl_table.proofs.follow.shared.Given as goal

abbrev pub invariant-loop-next : goal.invariant-loop-next
invariant-loop-next l = l.all.items ≡ take l.next-index l.nexts
