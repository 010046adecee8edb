use Rattle.std.proofs.Common.{All}
use Rattle.par_match.specs.Parts.{IsPartOf}
use Rattle.par_match.proofs.parts.take_ranges.Given as goal

abbrev pub invariant-loop : goal.invariant-loop
invariant-loop g l = All (IsPartOf (g.W.Worker.may_answer l.worker) (g.W.Worker.may_fail l.worker)) l.parts.items
