use Rattle.std.proofs.Common.{All}
use Rattle.par_match.specs.Parts.{Holds}
use Rattle.par_match.proofs.join.empty.Given as goal

abbrev pub invariant-loop : goal.invariant-loop
invariant-loop g l = All (Holds (g.W.Worker.may_answer l.worker) (g.W.Worker.may_fail l.worker)) l.cells.items
