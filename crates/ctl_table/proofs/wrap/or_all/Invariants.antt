use Rattle.std.proofs.Common.{drop}
use Rattle.ctl_table.specs.Table as table
use Rattle.ctl_table.proofs.LoopLemmas.{IsJoined}
use Rattle.ctl_table.proofs.wrap.or_all.Given as goal

abbrev pub invariant-loop-g : goal.invariant-loop-g
invariant-loop-g l = IsJoined table.or_all l.initial.parts l.parts l.f l.found (drop l.g-index l.more) l.more
