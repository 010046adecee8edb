use Rattle.std.proofs.Common.{◌≡◌, ◌∙◌, ◌≤◌, length, refl, sym, arith}
use Rattle.std.proofs.lemmas.Result.{err_from_is_err_and}
use Rattle.run_acts.specs.Acts.{observed}
use Rattle.run_acts.specs.Breaks.{NoneFell, counts}
use Rattle.run_files.proofs.TreatLemmas.{applied_some, applied_none, text_places, refused_all, refused_part, treated_all}
use Rattle.run_files.proofs.TreatLemmas.{stopped_in_lines, stopped_in_shown, stopped_in_kept}
use Rattle.run_files.specs.Cuts.TreatsPart.{earlier}
use Rattle.run_files.specs.Treatment.{shown}
use Rattle.run_files.specs.Shows.{printed}
use Rattle.run_files.proofs.ActLemmas.{Does-as, Stops-as}
use Rattle.run_files.proofs.process.process_file.Goals as goal

pub returns-in_err-applied-clause-stopped : goal.returns-in_err-applied-clause-stopped
returns-in_err-applied-clause-stopped g c =
    let p = err_from_is_err_and c.from_residual.result c.from_residual.ensures.1 in
    let rules = c.args.rules.now in let text = c.as_slice-text.result.now in
    let short : length text ≤ 16777216 = rw c.as_slice-text.ensures.value c.requires.short in
    let shelf = c.args.outside.now.shelf.now in let out = c.args.outside.now.out.now in
    rw (p.1, p.2, ← c.as_slice-text.ensures.value) (refused_part c.args.mode rules.patch.now rules.defined.now c.args.name.now text short rules.tidy
    rules.unread _ _ _ _ _ c.requires.tidy c.requires.unread
    (c.in_err-applied.ensures.stopped (g.S.Loads.holds shelf) (g.O.Sink.written out) (g.S.Loads.stores shelf)
    (g.S.Loads.faults shelf) (g.O.Sink.faults out) (g.S.Loads.faults shelf) (g.O.Sink.faults out)))

pub returns-in_default-clause-treated : goal.returns-in_default-clause-treated
returns-in_default-clause-treated g c =
    let rules = c.args.rules.now in let text = c.as_slice-text.result.now in
    let short : length text ≤ 16777216 = rw c.as_slice-text.ensures.value c.requires.short in
    let shelf = c.args.outside.now.shelf.now in let out = c.args.outside.now.out.now in
    let is = applied_none rules.tidy c.args.mode.tidy rules.patch.now rules.defined.now c.args.mode.quiet rules.unread c.args.mode.unread c.args.name.now text
    c.in_ok-applied.field-0
    (observed (g.S.Loads.holds shelf) (g.S.Loads.stores shelf) (g.O.Sink.written out) (g.E.Sink.written c.args.outside.now.err.now))
    (observed (g.S.Loads.holds shelf) (g.S.Loads.stores shelf) (g.O.Sink.written out) (g.E.Sink.written c.apply_or_refuse.new.err))
    c.requires.tidy c.requires.unread c.in_default.not-Some
    (c.in_ok-applied.ensures.done (g.S.Loads.holds shelf) (g.S.Loads.stores shelf) (g.O.Sink.written out)) in
    rw (c.of_refused.ensures, ← c.as_slice-text.ensures.value) (refused_all c.args.mode rules.patch.now rules.defined.now c.args.name.now text short _ _ is)

-- memory ran out before it was known whether the file is hit
pub returns-in_err-hit-clause-stopped : goal.returns-in_err-hit-clause-stopped
returns-in_err-hit-clause-stopped g c =
    let p = err_from_is_err_and c.from_residual-in_err-hit.result c.from_residual-in_err-hit.ensures.1 in
    let rules = c.args.rules.now in let text = c.as_slice-text.result.now in
    let shelf = c.args.outside.now.shelf.now in let out = c.args.outside.now.out.now in
    let is = applied_some rules.tidy c.args.mode.tidy rules.patch.now rules.defined.now c.args.mode.quiet rules.unread c.args.mode.unread c.args.name.now text
    c.in_ok-applied.field-0 c.in-Some.applied
    (observed (g.S.Loads.holds shelf) (g.S.Loads.stores shelf) (g.O.Sink.written out) (g.E.Sink.written c.args.outside.now.err.now))
    (observed (g.S.Loads.holds shelf) (g.S.Loads.stores shelf) (g.O.Sink.written out) (g.E.Sink.written c.apply_or_refuse.new.err))
    c.requires.tidy c.requires.unread c.in-Some.is (c.in_ok-applied.ensures.done (g.S.Loads.holds shelf) (g.S.Loads.stores shelf) (g.O.Sink.written out)) in
    rw (p.1, p.2) (earlier refl is.1.1.1)

pub returns-in_err-report_skipped-clause-stopped : goal.returns-in_err-report_skipped-clause-stopped
returns-in_err-report_skipped-clause-stopped g c =
    let p = err_from_is_err_and c.from_residual-in_err-report_skipped.result c.from_residual-in_err-report_skipped.ensures.1 in
    let rules = c.args.rules.now in let text = c.as_slice-text.result.now in
    let short : length text ≤ 16777216 = rw c.as_slice-text.ensures.value c.requires.short in
    let shelf = c.args.outside.now.shelf.now in let out = c.args.outside.now.out.now in
    let is = applied_some rules.tidy c.args.mode.tidy rules.patch.now rules.defined.now c.args.mode.quiet rules.unread c.args.mode.unread c.args.name.now text
    c.in_ok-applied.field-0 c.in-Some.applied
    (observed (g.S.Loads.holds shelf) (g.S.Loads.stores shelf) (g.O.Sink.written out) (g.E.Sink.written c.args.outside.now.err.now))
    (observed (g.S.Loads.holds shelf) (g.S.Loads.stores shelf) (g.O.Sink.written out) (g.E.Sink.written c.apply_or_refuse.new.err))
    c.requires.tidy c.requires.unread c.in-Some.is (c.in_ok-applied.ensures.done (g.S.Loads.holds shelf) (g.S.Loads.stores shelf) (g.O.Sink.written out)) in
    let found = text_places text in
    let fell : NoneFell (counts (g.S.Loads.faults shelf) (g.O.Sink.faults out) (g.E.Sink.faults c.args.outside.now.err.now))
    (counts (g.S.Loads.faults shelf) (g.O.Sink.faults out) (g.E.Sink.faults c.apply_or_refuse.new.err)) =
    record { shelf = omega arith; out = omega arith; err = c.in_ok-applied.ensures.later } in
    rw (p.1, p.2, ← c.as_slice-text.ensures.value) (stopped_in_lines c.args.mode rules.patch.now rules.defined.now c.args.name.now text short is.0 is.1.0
    found.0 found.1 c.as_slice.result.now (c.as_slice.ensures ∙ is.1.1.0.skipped) _ _ _ _ _ _ _ fell is.1.1.1
    (c.in_err-report_skipped.ensures.stopped found.0 found.1 (g.S.Loads.holds shelf) (g.O.Sink.written out) (g.S.Loads.stores shelf)
    (g.S.Loads.faults shelf) (g.O.Sink.faults out) (g.S.Loads.faults shelf) (g.O.Sink.faults out)))

pub returns-in_err-show_file-clause-stopped : goal.returns-in_err-show_file-clause-stopped
returns-in_err-show_file-clause-stopped g c =
    let p = err_from_is_err_and c.from_residual-in_err-show_file.result c.from_residual-in_err-show_file.ensures.1 in
    let rules = c.args.rules.now in let text = c.as_slice-text.result.now in
    let short : length text ≤ 16777216 = rw c.as_slice-text.ensures.value c.requires.short in
    let shelf = c.args.outside.now.shelf.now in let out = c.args.outside.now.out.now in
    let is = applied_some rules.tidy c.args.mode.tidy rules.patch.now rules.defined.now c.args.mode.quiet rules.unread c.args.mode.unread c.args.name.now text
    c.in_ok-applied.field-0 c.in-Some.applied
    (observed (g.S.Loads.holds shelf) (g.S.Loads.stores shelf) (g.O.Sink.written out) (g.E.Sink.written c.args.outside.now.err.now))
    (observed (g.S.Loads.holds shelf) (g.S.Loads.stores shelf) (g.O.Sink.written out) (g.E.Sink.written c.apply_or_refuse.new.err))
    c.requires.tidy c.requires.unread c.in-Some.is (c.in_ok-applied.ensures.done (g.S.Loads.holds shelf) (g.S.Loads.stores shelf) (g.O.Sink.written out)) in
    let found = text_places text in
    let fell : NoneFell (counts (g.S.Loads.faults shelf) (g.O.Sink.faults out) (g.E.Sink.faults c.args.outside.now.err.now))
    (counts (g.S.Loads.faults shelf) (g.O.Sink.faults out) (g.E.Sink.faults c.report_skipped.new.err)) =
    record { shelf = omega arith; out = omega arith; err = omega (arith, c.in_ok-applied.ensures.later, c.in_ok-report_skipped.ensures.later) } in
    rw (p.1, p.2, ← c.as_slice-text.ensures.value) (stopped_in_shown c.args.mode rules.patch.now rules.defined.now c.args.name.now text short is.0 is.1.0
    found.0 found.1 c.as_slice.result.now (c.as_slice.ensures ∙ is.1.1.0.skipped) _ _ _ _ _ _ _ _ fell is.1.1.1
    (c.in_ok-report_skipped.ensures.done found.0 found.1 (g.S.Loads.holds shelf) (g.S.Loads.stores shelf) (g.O.Sink.written out))
    (Stops-as (printed c.what_is_shown-what.result rules.patch.now c.args.name.now is.0) (shown c.args.mode rules.patch.now c.args.name.now text is.0)
    _ _ _ _ _ (c.what_is_shown-what.ensures rules.patch.now c.args.name.now text is.0 (c.in_ok-hit.ensures c.args.mode.unread is.0 is.1.1.0))
    (c.in_err-show_file.ensures.stopped c.args.mode.unread is.0 is.1.1.0)))

pub returns-in_err-store_file-clause-stopped : goal.returns-in_err-store_file-clause-stopped
returns-in_err-store_file-clause-stopped g c =
    let p = err_from_is_err_and c.from_residual-in_err-store_file.result c.from_residual-in_err-store_file.ensures.1 in
    let rules = c.args.rules.now in let text = c.as_slice-text.result.now in
    let short : length text ≤ 16777216 = rw c.as_slice-text.ensures.value c.requires.short in
    let shelf = c.args.outside.now.shelf.now in let out = c.args.outside.now.out.now in let name = c.args.name.now in
    let is = applied_some rules.tidy c.args.mode.tidy rules.patch.now rules.defined.now c.args.mode.quiet rules.unread c.args.mode.unread c.args.name.now text
    c.in_ok-applied.field-0 c.in-Some.applied
    (observed (g.S.Loads.holds shelf) (g.S.Loads.stores shelf) (g.O.Sink.written out) (g.E.Sink.written c.args.outside.now.err.now))
    (observed (g.S.Loads.holds shelf) (g.S.Loads.stores shelf) (g.O.Sink.written out) (g.E.Sink.written c.apply_or_refuse.new.err))
    c.requires.tidy c.requires.unread c.in-Some.is (c.in_ok-applied.ensures.done (g.S.Loads.holds shelf) (g.S.Loads.stores shelf) (g.O.Sink.written out)) in
    let found = text_places text in
    let fell : NoneFell (counts (g.S.Loads.faults shelf) (g.O.Sink.faults out) (g.E.Sink.faults c.args.outside.now.err.now))
    (counts (g.S.Loads.faults c.show_file.new.outside.shelf.now) (g.O.Sink.faults c.show_file.new.outside.out.now)
    (g.E.Sink.faults c.show_file.new.outside.err.now)) =
    record {
      shelf = omega (arith, c.in_ok-show_file.ensures.later);
      out = omega (arith, c.in_ok-show_file.ensures.later_out);
      err = omega (arith, c.in_ok-applied.ensures.later, c.in_ok-report_skipped.ensures.later, c.in_ok-show_file.ensures.later_err);
    } in
    let left : is.0.page.bytes ≡ c.deref.result.now = sym (c.deref.ensures.value ∙ is.1.1.0.bytes) in
    rw (p.1, p.2, ← c.as_slice-text.ensures.value) (stopped_in_kept c.args.mode rules.patch.now rules.defined.now name text short is.0 is.1.0
    found.0 found.1 c.as_slice.result.now (c.as_slice.ensures ∙ is.1.1.0.skipped) _ _ _ _ _ _ _ _ _ fell is.1.1.1
    (c.in_ok-report_skipped.ensures.done found.0 found.1 (g.S.Loads.holds shelf) (g.S.Loads.stores shelf) (g.O.Sink.written out))
    (Does-as (printed c.what_is_shown-what.result rules.patch.now name is.0) (shown c.args.mode rules.patch.now name text is.0)
    _ _ (c.what_is_shown-what.ensures rules.patch.now name text is.0 (c.in_ok-hit.ensures c.args.mode.unread is.0 is.1.1.0))
    (c.in_ok-show_file.ensures.done c.args.mode.unread is.0 is.1.1.0))
    (c.in_err-store_file.ensures.stopped is.0 left))

pub returns-clause-treated : goal.returns-clause-treated
returns-clause-treated g c =
    let rules = c.args.rules.now in let text = c.as_slice-text.result.now in
    let short : length text ≤ 16777216 = rw c.as_slice-text.ensures.value c.requires.short in
    let shelf = c.args.outside.now.shelf.now in let out = c.args.outside.now.out.now in let name = c.args.name.now in
    let is = applied_some rules.tidy c.args.mode.tidy rules.patch.now rules.defined.now c.args.mode.quiet rules.unread c.args.mode.unread c.args.name.now text
    c.in_ok-applied.field-0 c.in-Some.applied
    (observed (g.S.Loads.holds shelf) (g.S.Loads.stores shelf) (g.O.Sink.written out) (g.E.Sink.written c.args.outside.now.err.now))
    (observed (g.S.Loads.holds shelf) (g.S.Loads.stores shelf) (g.O.Sink.written out) (g.E.Sink.written c.apply_or_refuse.new.err))
    c.requires.tidy c.requires.unread c.in-Some.is (c.in_ok-applied.ensures.done (g.S.Loads.holds shelf) (g.S.Loads.stores shelf) (g.O.Sink.written out)) in
    let found = text_places text in
    let left : is.0.page.bytes ≡ c.deref.result.now = sym (c.deref.ensures.value ∙ is.1.1.0.bytes) in
    rw (← c.as_slice-text.ensures.value) (treated_all c.args.mode rules.patch.now rules.defined.now name text short is.0 is.1.0
    found.0 found.1 c.as_slice.result.now (c.as_slice.ensures ∙ is.1.1.0.skipped) c.in_ok-hit.hit c.has_witness.result _ _ _ _ _
    (c.in_ok-hit.ensures c.args.mode.unread is.0 is.1.1.0) (c.has_witness.ensures c.args.mode.unread is.0 is.1.1.0) is.1.1.1
    (c.in_ok-report_skipped.ensures.done found.0 found.1 (g.S.Loads.holds shelf) (g.S.Loads.stores shelf) (g.O.Sink.written out))
    (Does-as (printed c.what_is_shown-what.result rules.patch.now name is.0) (shown c.args.mode rules.patch.now name text is.0)
    _ _ (c.what_is_shown-what.ensures rules.patch.now name text is.0 (c.in_ok-hit.ensures c.args.mode.unread is.0 is.1.1.0))
    (c.in_ok-show_file.ensures.done c.args.mode.unread is.0 is.1.1.0))
    (c.in_ok-store_file.ensures.done is.0 left))
