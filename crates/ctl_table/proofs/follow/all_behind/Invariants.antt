use Rattle.std.proofs.Common.{◌≡◌, map, take}
use Rattle.ctl_table.specs.Settings.{behind}
use Rattle.ctl_table.proofs.follow.all_behind.Given as goal

abbrev pub invariant-loop-next : goal.invariant-loop-next
invariant-loop-next l = l.all.items ≡ map (behind l.before) (take l.next-index l.nexts)
