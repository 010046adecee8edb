use Rattle.std.proofs.Common.{◌≡◌, ◌++◌, drop, false}
use Rattle.edit_bodies.specs.Calm.{behind_lines}
use Rattle.edit_bodies.proofs.calm.behind_lines.Given as goal

abbrev pub invariant-loop-i : goal.invariant-loop-i
invariant-loop-i l = l.flags.items ++ behind_lines l.after (drop l.i l.lexed) ≡ behind_lines false l.lexed
