use Rattle.std.proofs.Common.{All, subst, sym}
use Rattle.std.proofs.lemmas.List.Elements.{All-push}
use Rattle.par_match.specs.Parts.{IsPartOf}
use Rattle.par_match.proofs.parts.take_ranges.Goals as goal
use Rattle.par_match.proofs.parts.take_ranges.Goals.{else-loop-test, then-loop-test+then-from-ranges, then-loop-test+else-from-ranges+in_ok-push+then-failed}

pub loop-preserved : goal.loop-preserved
loop-preserved g c = let P = IsPartOf (g.W.Worker.may_answer c.args.worker.now) (g.W.Worker.may_fail c.args.worker.now) in
    subst (All P) (sym c.in_ok-push.ensures.items) (All-push P c.loop.parts.items c.do_part-part.result c.loop.invariant c.do_part-part.ensures.part)

pub returns : goal.returns
returns g c = let P = IsPartOf (g.W.Worker.may_answer c.args.worker.now) (g.W.Worker.may_fail c.args.worker.now) in
    record {
      parts = elim c.loop-test.branch [
        | else-loop-test w ↦ subst (λ v. All P v.items) (sym w.parts-is) c.loop.invariant
        | then-loop-test+then-from-ranges w ↦ subst (λ v. All P v.items) (sym w.parts-is) c.loop.invariant
        | then-loop-test+else-from-ranges+in_ok-push+then-failed w ↦ subst (λ v. All P v.items) (sym w.parts-is) (subst (All P) (sym w.in_ok-push.ensures.items)
            (All-push P c.loop.parts.items w.do_part-part.result c.loop.invariant w.do_part-part.ensures.part))
      ];
    }
