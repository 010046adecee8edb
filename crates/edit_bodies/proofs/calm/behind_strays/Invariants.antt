use Rattle.std.proofs.Common.{◌≡◌, ◌++◌, drop, false}
use Rattle.edit_unparse.specs.Tidy.Fair.{behind_strays}
use Rattle.edit_bodies.proofs.calm.behind_strays.Given as goal

abbrev pub invariant-loop-i : goal.invariant-loop-i
invariant-loop-i l = l.flags.items ++ behind_strays l.after (drop l.i l.lexed) ≡ behind_strays false l.lexed
