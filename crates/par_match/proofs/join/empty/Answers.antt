use Rattle.std.proofs.Common.{None, All, subst, sym}
use Rattle.std.proofs.lemmas.List.Elements.{All-push}
use Rattle.par_match.specs.Parts.{Holds}
use Rattle.par_match.proofs.join.empty.Goals as goal

pub loop-preserved : goal.loop-preserved
loop-preserved g c = let P = Holds (g.W.Worker.may_answer c.args.worker.now) (g.W.Worker.may_fail c.args.worker.now) in
    subst (All P) (sym c.in_ok-push.ensures.items) (All-push P c.loop.cells.items None c.loop.invariant tt)
