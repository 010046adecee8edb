use Rattle.std.proofs.Common.{◌≡◌, ◌∙◌, ap, refl, inl, arith, get_or}
use Rattle.std.specs.Prelude.{Option, None}
use Rattle.std.proofs.lemmas.Result.{err_from_is_err_and}
use Rattle.cpp_lines.specs.declared.reading.Why.TheVariants.{NoTree}
use Rattle.rule_chain.specs.declared.rule_run.state.SkipNote.{SkipNote}
use Rattle.outer_io.specs.Files.{grown}
use Rattle.run_acts.specs.Acts.{observed}
use Rattle.run_acts.specs.Breaks.{NoneFell, counts}
use Rattle.text_places.specs.declared.place.Place.{Place}
use Rattle.run_files.specs.RunLines.Further.{placed}
use Rattle.run_files.specs.RunLines.Files.{skipped_line, note_place}
use Rattle.run_files.specs.Treatment.{note_act}
use Rattle.run_files.proofs.ActLemmas.{stops_at, does_at, own_default}
use Rattle.run_files.proofs.effects.report_notes.Goals as goal

abbrev none : SkipNote
none = record { reading = 0; item = 0; why = NoTree; token = None }

pub loop-note-init : goal.loop-note-init
loop-note-init g c = record { later = omega arith; text = c.of-places.ensures.text; done = λ files stores out. record { observed = refl } }

pub returns-in_err-line-clause-stopped : goal.returns-in_err-line-clause-stopped
returns-in_err-line-clause-stopped g c =
    let p = err_from_is_err_and c.from_residual.result c.from_residual.ensures.1 in
    rw (p.1, p.2) (λ files out stores s o s' o'.
    let before = counts s o (g.E.Sink.faults c.args.err.now) in
    let now = counts s' o' (g.E.Sink.faults c.loop-note.err) in
    let note = get_or c.args.notes.now c.loop-note.note-index none in
    stops_at (note_act c.args.name.now c.args.text.now c.args.found.now) c.args.notes.now c.loop-note.note-index note before before now _
    (observed files stores out (g.E.Sink.written c.loop-note.err)) _ 7
    (omega arith) (own_default c.args.notes.now c.loop-note.note-index none (omega arith))
    (record { shelf = omega arith; out = omega arith; err = omega arith })
    (c.loop-note.invariant.done files stores out) (inl (refl, refl)))

pub returns-in_err-report-clause-stopped : goal.returns-in_err-report-clause-stopped
returns-in_err-report-clause-stopped g c =
    let p = err_from_is_err_and c.from_residual-in_err-report.result c.from_residual-in_err-report.ensures.1 in
    rw (p.1, p.2) (λ files out stores s o s' o'.
    let note = get_or c.args.notes.now c.loop-note.note-index none in
    let there : c.placed_on-place.result ≡ note_place c.args.text.now c.args.found.now note =
    c.placed_on-place.ensures.place ∙ (λ i. placed (c.loop-note.invariant.text i) (c.note_start.ensures i)) in
    let put : c.deref.result.now ≡ skipped_line c.args.name.now (note_place c.args.text.now c.args.found.now note) note =
    c.deref.ensures.value ∙ c.in_ok-line.ensures.bytes ∙ ap (λ (place : Option Place). skipped_line c.args.name.now place note) there in
    let fell : NoneFell (counts s o (g.E.Sink.faults c.args.err.now)) (counts s o (g.E.Sink.faults c.loop-note.err)) =
    record { shelf = omega arith; out = omega arith; err = c.loop-note.invariant.later } in
    stops_at (note_act c.args.name.now c.args.text.now c.args.found.now) c.args.notes.now c.loop-note.note-index note _
    (counts s o (g.E.Sink.faults c.loop-note.err)) _ _
    (observed files stores out (g.E.Sink.written c.loop-note.err)) _ _
    (omega arith) (own_default c.args.notes.now c.loop-note.note-index none (omega arith)) fell
    (c.loop-note.invariant.done files stores out) (rw put at (c.in_err-report.ensures.stopped files out stores s o s' o')))

pub loop-note-preserved : goal.loop-note-preserved
loop-note-preserved g c = record {
  later = omega (arith, c.loop-note.invariant.later, c.in_ok-report.ensures.later);
  text = c.placed_on-place.ensures.same ∙ c.loop-note.invariant.text;
  done = λ files stores out.
      let note = get_or c.args.notes.now c.loop-note.note-index none in
      let there : c.placed_on-place.result ≡ note_place c.args.text.now c.args.found.now note =
      c.placed_on-place.ensures.place ∙ (λ i. placed (c.loop-note.invariant.text i) (c.note_start.ensures i)) in
      let put : c.deref.result.now ≡ skipped_line c.args.name.now (note_place c.args.text.now c.args.found.now note) note =
      c.deref.ensures.value ∙ c.in_ok-line.ensures.bytes ∙ ap (λ (place : Option Place). skipped_line c.args.name.now place note) there in
      does_at (note_act c.args.name.now c.args.text.now c.args.found.now) c.args.notes.now c.loop-note.note-index note _
      (observed files stores out (g.E.Sink.written c.loop-note.err)) _
      (omega arith) (own_default c.args.notes.now c.loop-note.note-index none (omega arith)) (c.loop-note.invariant.done files stores out)
      (ap (observed files stores out) (c.in_ok-report.ensures.ok ∙ ap (grown (g.E.Sink.written c.loop-note.err)) put));
}
