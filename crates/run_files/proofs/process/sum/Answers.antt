use Rattle.std.proofs.Common.{◌≤◌, ◌∙◌, length, refl, arith}
use Rattle.std.proofs.lemmas.Result.{err_from_is_err_and}
use Rattle.run_acts.specs.Acts.{observed}
use Rattle.run_acts.specs.Breaks.{NoneFell, counts}
use Rattle.run_files.specs.RunStages.Stages.{generated_name}
use Rattle.run_files.proofs.TreatLemmas.{applied_some, applied_none, text_places, sum_refused_all}
use Rattle.run_files.proofs.TreatLemmas.{sum_refused_part, summed_all, sum_stopped_in_lines, stopped_in_summary}
use Rattle.run_files.proofs.process.sum.Goals as goal

pub returns-in_err-applied-clause-stopped : goal.returns-in_err-applied-clause-stopped
returns-in_err-applied-clause-stopped g c =
    let p = err_from_is_err_and c.from_residual.result c.from_residual.ensures.1 in
    let rules = c.args.rules.now in let out = c.args.out.now in
    let short : length c.as_slice-text.result.now ≤ 16777216 = rw c.as_slice-text.ensures.value c.requires.short in
    rw (p.1, p.2, ← c.as_slice-text.ensures.value) (λ files stores n n'.
    sum_refused_part rules.tidy rules.patch.now rules.defined.now c.args.quiet rules.unread c.as_slice-text.result.now short _ _ _ _ _
    (c.in_err-applied.ensures.stopped files (g.O.Sink.written out) stores n (g.O.Sink.faults out) n' (g.O.Sink.faults out)))

pub returns-in_default-clause-treated : goal.returns-in_default-clause-treated
returns-in_default-clause-treated g c = rw (c.of_refused.ensures, ← c.as_slice-text.ensures.value) (λ files stores.
    let rules = c.args.rules.now in let out = c.args.out.now in
    let short : length c.as_slice-text.result.now ≤ 16777216 = rw c.as_slice-text.ensures.value c.requires.short in
    let is = applied_none rules.tidy rules.tidy rules.patch.now rules.defined.now c.args.quiet rules.unread rules.unread generated_name
    c.as_slice-text.result.now c.in_ok-applied.field-0
    (observed files stores (g.O.Sink.written out) (g.E.Sink.written c.args.err.now))
    (observed files stores (g.O.Sink.written out) (g.E.Sink.written c.apply_or_refuse.new.err))
    refl refl c.in_default.not-Some (c.in_ok-applied.ensures.done files stores (g.O.Sink.written out)) in
    sum_refused_all rules.tidy rules.patch.now rules.defined.now c.args.quiet rules.unread c.as_slice-text.result.now short _ _ is)

pub returns-in_err-report_skipped-clause-stopped : goal.returns-in_err-report_skipped-clause-stopped
returns-in_err-report_skipped-clause-stopped g c =
    let p = err_from_is_err_and c.from_residual-in_err-report_skipped.result c.from_residual-in_err-report_skipped.ensures.1 in
    let rules = c.args.rules.now in let out = c.args.out.now in
    let short : length c.as_slice-text.result.now ≤ 16777216 = rw c.as_slice-text.ensures.value c.requires.short in
    rw (p.1, p.2, ← c.as_slice-text.ensures.value) (λ files stores n n'.
    let is = applied_some rules.tidy rules.tidy rules.patch.now rules.defined.now c.args.quiet rules.unread rules.unread generated_name
    c.as_slice-text.result.now c.in_ok-applied.field-0 c.in-Some.applied
    (observed files stores (g.O.Sink.written out) (g.E.Sink.written c.args.err.now))
    (observed files stores (g.O.Sink.written out) (g.E.Sink.written c.apply_or_refuse.new.err))
    refl refl c.in-Some.is (c.in_ok-applied.ensures.done files stores (g.O.Sink.written out)) in
    let found = text_places c.as_slice-text.result.now in
    let fell : NoneFell (counts n (g.O.Sink.faults out) (g.E.Sink.faults c.args.err.now))
    (counts n (g.O.Sink.faults out) (g.E.Sink.faults c.apply_or_refuse.new.err)) =
    record { shelf = omega arith; out = omega arith; err = c.in_ok-applied.ensures.later } in
    sum_stopped_in_lines rules.tidy rules.patch.now rules.defined.now c.args.quiet rules.unread c.as_slice-text.result.now short is.0 is.1.0
    found.0 found.1 c.as_slice.result.now (c.as_slice.ensures ∙ is.1.1.0.skipped) _ _ _ _ _ _ _ fell is.1.1.1
    (c.in_err-report_skipped.ensures.stopped found.0 found.1 files (g.O.Sink.written out) stores n (g.O.Sink.faults out) n' (g.O.Sink.faults out)))

pub returns-in_err-show_summary-clause-stopped : goal.returns-in_err-show_summary-clause-stopped
returns-in_err-show_summary-clause-stopped g c =
    let p = err_from_is_err_and c.from_residual-in_err-show_summary.result c.from_residual-in_err-show_summary.ensures.1 in
    let rules = c.args.rules.now in let out = c.args.out.now in
    let short : length c.as_slice-text.result.now ≤ 16777216 = rw c.as_slice-text.ensures.value c.requires.short in
    rw (p.1, p.2, ← c.as_slice-text.ensures.value) (λ files stores n n'.
    let is = applied_some rules.tidy rules.tidy rules.patch.now rules.defined.now c.args.quiet rules.unread rules.unread generated_name
    c.as_slice-text.result.now c.in_ok-applied.field-0 c.in-Some.applied
    (observed files stores (g.O.Sink.written out) (g.E.Sink.written c.args.err.now))
    (observed files stores (g.O.Sink.written out) (g.E.Sink.written c.apply_or_refuse.new.err))
    refl refl c.in-Some.is (c.in_ok-applied.ensures.done files stores (g.O.Sink.written out)) in
    let found = text_places c.as_slice-text.result.now in
    let fell : NoneFell (counts n (g.O.Sink.faults out) (g.E.Sink.faults c.args.err.now))
    (counts n (g.O.Sink.faults out) (g.E.Sink.faults c.report_skipped.new.err)) =
    record { shelf = omega arith; out = omega arith; err = omega (arith, c.in_ok-applied.ensures.later, c.in_ok-report_skipped.ensures.later) } in
    stopped_in_summary rules.tidy rules.patch.now rules.defined.now c.args.quiet rules.unread c.as_slice-text.result.now short is.0 is.1.0
    found.0 found.1 c.as_slice.result.now (c.as_slice.ensures ∙ is.1.1.0.skipped) _ _ _ _ _ _ _ _ fell is.1.1.1
    (c.in_ok-report_skipped.ensures.done found.0 found.1 files stores (g.O.Sink.written out))
    (c.in_err-show_summary.ensures.stopped rules.unread is.0 files stores n n' is.1.1.0))

pub returns-clause-treated : goal.returns-clause-treated
returns-clause-treated g c = rw (← c.as_slice-text.ensures.value) (λ files stores.
    let rules = c.args.rules.now in let out = c.args.out.now in
    let short : length c.as_slice-text.result.now ≤ 16777216 = rw c.as_slice-text.ensures.value c.requires.short in
    let is = applied_some rules.tidy rules.tidy rules.patch.now rules.defined.now c.args.quiet rules.unread rules.unread generated_name
    c.as_slice-text.result.now c.in_ok-applied.field-0 c.in-Some.applied
    (observed files stores (g.O.Sink.written out) (g.E.Sink.written c.args.err.now))
    (observed files stores (g.O.Sink.written out) (g.E.Sink.written c.apply_or_refuse.new.err))
    refl refl c.in-Some.is (c.in_ok-applied.ensures.done files stores (g.O.Sink.written out)) in
    let found = text_places c.as_slice-text.result.now in
    summed_all rules.tidy rules.patch.now rules.defined.now c.args.quiet rules.unread c.as_slice-text.result.now short is.0 is.1.0
    found.0 found.1 c.as_slice.result.now (c.as_slice.ensures ∙ is.1.1.0.skipped) c.has_witness.result _ _ _ _
    (c.has_witness.ensures rules.unread is.0 is.1.1.0) is.1.1.1
    (c.in_ok-report_skipped.ensures.done found.0 found.1 files stores (g.O.Sink.written out))
    (c.in_ok-show_summary.ensures.done rules.unread is.0 files stores is.1.1.0))
