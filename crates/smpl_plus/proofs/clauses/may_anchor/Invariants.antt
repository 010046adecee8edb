use Rattle.std.proofs.Common.{◌≡◌, ◌++◌, drop}
use Rattle.smpl_plus.specs.Outside.{may_from, may_anchor}
use Rattle.smpl_plus.proofs.clauses.may_anchor.Given as goal

abbrev pub invariant-loop-p : goal.invariant-loop-p
invariant-loop-p l = l.may ++ may_from l.place (drop l.p-index l.tokens) ≡ may_anchor l.tokens
