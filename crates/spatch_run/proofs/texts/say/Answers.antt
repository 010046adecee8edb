use Rattle.std.proofs.Common.{◌≡◌, ◌∙◌, [], ◌∷◌, refl, arith}
use Rattle.std.proofs.lemmas.Result.{err_from_is_err_and}
use Rattle.run_acts.specs.Acts.{Print, observed}
use Rattle.run_acts.specs.Breaks.{NoneFell, counts}
use Rattle.run_files.specs.RunLines.Words.{said}
use Rattle.run_files.specs.RunStages.Stages.{Ending}
use Rattle.spatch_run.proofs.Chain.{Goes-act, Goes-ends, broken, over}
use Rattle.spatch_run.proofs.texts.say.Goals as goal

pub returns-in_err-print : goal.returns-in_err-print
returns-in_err-print g c = record {
  ends = λ files stores s.
      let p = err_from_is_err_and c.from_residual.result c.from_residual.ensures.1 in
      let text = said c.args.saying in
      let put : c.as_bytes.result.now ≡ text = c.as_bytes.ensures.value ∙ c.said.ensures.bytes in
      rw (p.1, p.2) (broken (Ending (Print text ∷ []) 0) (Print text) refl
      (record { shelf = omega arith; out = c.in_err-print.ensures.later; err = c.in_err-print.ensures.later_err })
      (rw put at (c.in_err-print.ensures.stopped files stores s s)));
}

pub returns : goal.returns
returns g c = record {
  ends = λ files stores s.
      let text = said c.args.saying in
      let put : c.as_bytes.result.now ≡ text = c.as_bytes.ensures.value ∙ c.said.ensures.bytes in
      let fell : NoneFell (counts s (g.O.Sink.faults c.args.out.now) (g.E.Sink.faults c.args.err.now))
      (counts s (g.O.Sink.faults c.print.new.out) (g.E.Sink.faults c.print.new.err)) =
      record { shelf = omega arith; out = c.in_ok-print.ensures.later; err = c.in_ok-print.ensures.later_err } in
      Goes-ends (Goes-act (Ending (Print text ∷ []) 0) (Print text) (Ending [] 0)
      (observed files stores (g.O.Sink.written c.args.out.now) (g.E.Sink.written c.args.err.now))
      (observed files stores (g.O.Sink.written c.print.new.out) (g.E.Sink.written c.print.new.err)) refl refl
      (rw (c.in_ok-print.ensures.ok, c.in_ok-print.ensures.ok_err, put) refl)) fell (over (Ending [] 0) _ _ 0 refl);
}
