use Rattle.std.proofs.Common.{◌≡◌, ◌++◌, map, drop}
use Rattle.smpl_body.specs.SmplWhen.Cutting.{unsaid}
use Rattle.smpl_body.proofs.smpl_when.clauses.Clauses.none.Given as goal

abbrev pub invariant-loop-p : goal.invariant-loop-p
invariant-loop-p l = l.said.items ++ map unsaid (drop l.p-index l.placed) ≡ map unsaid l.placed
