use Rattle.std.proofs.Common.{refl, arith}
use Rattle.std.proofs.lemmas.Result.{err_from_is_err_and}
use Rattle.run_acts.specs.Breaks.{NoneFell, counts}
use Rattle.run_acts.proofs.BreaksLemmas.{NoneFell-refl}
use Rattle.run_files.specs.RunStages.Ends.LeadsBy.{unfed}
use Rattle.spatch_run.proofs.Treating.{sum_done, sum_cut}
use Rattle.spatch_run.proofs.texts.sum_text.Goals as goal

pub sum-requires-clause-short : goal.sum-requires-clause-short
sum-requires-clause-short g c κs within = c.in_ok-text.ensures.fits_a_file c.requires.few

pub returns-in_err-text-clause-ends : goal.returns-in_err-text-clause-ends
returns-in_err-text-clause-ends g c =
    let p = err_from_is_err_and c.from_residual.result c.from_residual.ensures.1 in
    rw (p.1, p.2) (λ notes. unfed (NoneFell-refl _) refl refl)

pub returns-in_err-tally-clause-ends : goal.returns-in_err-tally-clause-ends
returns-in_err-tally-clause-ends g c =
    let p = err_from_is_err_and c.from_residual-in_err-tally.result c.from_residual-in_err-tally.ensures.1 in
    let old = c.args.outside.now in
    let s = g.S.Loads.faults old.shelf.now in
    let fell : NoneFell (counts s (g.O.Sink.faults old.out.now) (g.E.Sink.faults old.err.now))
    (counts s (g.O.Sink.faults c.sum.new.out) (g.E.Sink.faults c.sum.new.err)) =
    record { shelf = omega arith; out = c.in_err-tally.ensures.later; err = c.in_err-tally.ensures.later_err } in
    rw (p.1, p.2) (λ notes. sum_cut c.args.rules.now.patch.now notes c.args.rules.now.defined.now c.args.seed c.args.functions c.args.quiet
    c.args.rules.now.unread c.args.rules.now.tidy fell
    (rw c.in_ok-text.ensures.text at (c.in_err-tally.ensures.stopped (g.S.Loads.holds old.shelf.now) (g.S.Loads.stores old.shelf.now) s s)))

pub returns-clause-ends : goal.returns-clause-ends
returns-clause-ends g c =
    let old = c.args.outside.now in
    let s = g.S.Loads.faults old.shelf.now in
    let fell : NoneFell (counts s (g.O.Sink.faults old.out.now) (g.E.Sink.faults old.err.now))
    (counts s (g.O.Sink.faults c.sum.new.out) (g.E.Sink.faults c.sum.new.err)) =
    record { shelf = omega arith; out = c.in_ok-tally.ensures.later; err = c.in_ok-tally.ensures.later_err } in
    λ notes. sum_done c.args.rules.now.patch.now notes c.args.rules.now.defined.now c.args.seed c.args.functions c.args.quiet
    c.args.rules.now.unread c.args.rules.now.tidy c.in_ok-tally.tally fell
    c.end_status.ensures (rw c.in_ok-text.ensures.text at (c.in_ok-tally.ensures.treated (g.S.Loads.holds old.shelf.now) (g.S.Loads.stores old.shelf.now)))
