use Rattle.std.proofs.Common.{arith, IfOk, IfErr, subst, sym}
use Rattle.std.specs.Vec.Iter.{into_iter_items}
use Rattle.par_match.specs.Answers.{AreAnswers, IsWhy}
use Rattle.par_match.specs.Parts.{IsPartOf, Holds}
use Rattle.par_match.proofs.AnswerLemmas.{more-answers, why-after}
use Rattle.par_match.proofs.CellLemmas.{all-next, flat}
use Rattle.par_match.proofs.join.joined.Goals as goal

pub part_at-to-requires-clause-left : goal.part_at-to-requires-clause-left
part_at-to-requires-clause-left g c κs within = let may = g.W.Worker.may_answer c.args.worker.now in let fail = g.W.Worker.may_fail c.args.worker.now in
    let front = all-next (Holds may fail) (into_iter_items c.loop-from.cells)
    (into_iter_items c.next.new.self) c.next.result c.next.ensures.items c.loop-from.invariant.2 in
    subst (λ r. Holds may fail r) (sym c.flatten-left.ensures) (flat (IsPartOf may fail) c.next.result front.0)

pub returns-in-Err-clause-fault : goal.returns-in-Err-clause-fault
returns-in-Err-clause-fault g c = let may = g.W.Worker.may_answer c.args.worker.now in let fail = g.W.Worker.may_fail c.args.worker.now in
    let i = c.loop-from.invariant in let said = c.part_at-to.ensures in
    let why = subst (λ o. IfErr o (IsWhy may fail c.part_at-to.result.from c.part_at-to.result.to)) c.in-Err.is said.part.fault in
    let why' = subst (λ m. IsWhy may fail m c.part_at-to.result.to c.in-Err.fault) said.from why in
    why-after may fail 0 c.loop-from.from c.part_at-to.result.to c.args.ranges.n c.loop-from.answers.items c.in-Err.fault (omega arith) said.within i.1 why'

pub loop-from-preserved : goal.loop-from-preserved
loop-from-preserved g c = let may = g.W.Worker.may_answer c.args.worker.now in let fail = g.W.Worker.may_fail c.args.worker.now in
    let i = c.loop-from.invariant in let said = c.part_at-to.ensures in let to = c.part_at-to.result.to in
    let front = all-next (Holds may fail) (into_iter_items c.loop-from.cells) (into_iter_items c.next.new.self) c.next.result c.next.ensures.items i.2 in
    let more = subst (λ m. AreAnswers may m to c.in-Ok.more.items) said.from
    (subst (λ o. IfOk o (λ v. AreAnswers may c.part_at-to.result.from to v.items)) c.in-Ok.is said.part.answers) in (
      said.within,
      subst (AreAnswers may 0 to) (sym c.in_ok-append-in-Ok.ensures.items)
          (more-answers may 0 c.loop-from.from to c.loop-from.answers.items c.in-Ok.more.items (omega arith) (omega (arith, said.rises)) i.1 more),
      front.1,
    )
