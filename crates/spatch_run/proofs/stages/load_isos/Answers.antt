use Rattle.std.proofs.Common.{◌≡◌, Some, None, [], refl, sym, arith}
use Rattle.std.proofs.lemmas.Result.{err_from_is_err_and}
use Rattle.run_acts.specs.Breaks.{NoneFell, counts}
use Rattle.run_acts.specs.Lines.{cannot_read}
use Rattle.run_acts.proofs.BreaksLemmas.{NoneFell-refl}
use Rattle.iso_file.specs.declared.fault.IsoFault.TheVariants as iso_fault
use Rattle.iso_file.specs.Isos.{IsFileFault}
use Rattle.run_words.specs.Shown.{shown_target}
use Rattle.run_words.specs.Orders.{is_quiet}
use Rattle.run_files.specs.RunLines.Further.{placed, told_place}
use Rattle.run_files.specs.RunLines.Patches.{iso_fault_line, iso_byte}
use Rattle.run_files.specs.RunStages.Stages.{Doing, ReadIsos, IsosLead, refusing, first_load}
use Rattle.spatch_run.proofs.Chain.{broken}
use Rattle.spatch_run.proofs.Leading.{no_trace, loaded, loaded_unfed, loaded_by, not_memory, isos_absent, isos_long, isos_bad, isos_read}
use Rattle.spatch_run.proofs.stages.load_isos.Goals as goal

pub expand_patch-requires-clause-few : goal.expand_patch-requires-clause-few
expand_patch-requires-clause-few g c κs within = c.requires.few

pub expand_patch-requires-clause-read : goal.expand_patch-requires-clause-read
expand_patch-requires-clause-read g c κs within = c.requires.read

pub returns-in_err-bytes-clause-ends : goal.returns-in_err-bytes-clause-ends
returns-in_err-bytes-clause-ends g c =
    let p = err_from_is_err_and c.from_residual.result c.from_residual.ensures.1 in
    let o = g.O.Sink.faults c.args.outside.now.out.now in
    let work = ReadIsos c.args.noted.patch c.args.noted.notes c.args.name.now c.args.order.now.defined.items
    (shown_target c.args.order.now.target) in
    rw (p.1, p.2) (broken (Doing [] work) (first_load work) refl
    (record { shelf = c.in_err-bytes.ensures.later; out = omega arith; err = c.in_err-bytes.ensures.later_err })
    (c.in_err-bytes.ensures.stopped (g.O.Sink.written c.args.outside.now.out.now) o o))

pub returns-in-TooLong-clause-ends : goal.returns-in-TooLong-clause-ends
returns-in-TooLong-clause-ends g c =
    let found = rw c.in-TooLong.is at c.in_ok-bytes.ensures.loaded in
    let patch = c.args.noted.patch in
    let notes = c.args.noted.notes in
    let name = c.args.name.now in
    let defined = c.args.order.now.defined.items in
    let target = shown_target c.args.order.now.target in
    let old = c.args.outside.now in
    let fell : NoneFell (counts (g.S.Loads.faults old.shelf.now) (g.O.Sink.faults old.out.now) (g.E.Sink.faults old.err.now))
    (counts (g.S.Loads.faults c.load.new.shelf) (g.O.Sink.faults old.out.now) (g.E.Sink.faults c.load.new.err)) =
    record { shelf = c.in_ok-bytes.ensures.later; out = omega arith; err = c.in_ok-bytes.ensures.later_err } in
    loaded (ReadIsos patch notes name defined target) (refusing (iso_fault_line name None iso_fault.TooLong) 3)
    (found.0, (found.1.0, isos_long patch notes name defined target found.0 found.1.1))
    (no_trace c.in_ok-bytes.ensures.same c.in_ok-bytes.ensures.no_store c.in_ok-bytes.ensures.ok_err) fell (c.refuse_isos.ensures.ends _ _ _ _ _)

pub returns-in-Absent-clause-ends : goal.returns-in-Absent-clause-ends
returns-in-Absent-clause-ends g c =
    let found = rw c.in-Absent.is at c.in_ok-bytes.ensures.loaded in
    let patch = c.args.noted.patch in
    let notes = c.args.noted.notes in
    let name = c.args.name.now in
    let defined = c.args.order.now.defined.items in
    let target = shown_target c.args.order.now.target in
    let old = c.args.outside.now in
    let fell : NoneFell (counts (g.S.Loads.faults old.shelf.now) (g.O.Sink.faults old.out.now) (g.E.Sink.faults old.err.now))
    (counts (g.S.Loads.faults c.load.new.shelf) (g.O.Sink.faults old.out.now) (g.E.Sink.faults c.load.new.err)) =
    record { shelf = c.in_ok-bytes.ensures.later; out = omega arith; err = c.in_ok-bytes.ensures.later_err } in
    loaded (ReadIsos patch notes name defined target) (refusing (cannot_read name) 5)
    (found.0, (found.1.0, isos_absent patch notes name defined target found.0 found.1.1))
    (no_trace c.in_ok-bytes.ensures.same c.in_ok-bytes.ensures.no_store c.in_ok-bytes.ensures.ok_err) fell (c.refuse_absent.ensures.ends _ _ _ _ _)

pub returns-in-Ok-clause-ends : goal.returns-in-Ok-clause-ends
returns-in-Ok-clause-ends g c =
    let found = rw c.in-Bytes.is at c.in_ok-bytes.ensures.loaded in
    let under : found.0 ≡ Some c.as_slice-text.result.now = rw c.as_slice-text.ensures.value found.1.1.0 in
    let patch = c.args.noted.patch in
    let notes = c.args.noted.notes in
    let name = c.args.name.now in
    let defined = c.args.order.now.defined.items in
    let target = shown_target c.args.order.now.target in
    let old = c.args.outside.now in
    let fell : NoneFell (counts (g.S.Loads.faults old.shelf.now) (g.O.Sink.faults old.out.now) (g.E.Sink.faults old.err.now))
    (counts (g.S.Loads.faults c.load.new.shelf) (g.O.Sink.faults old.out.now) (g.E.Sink.faults c.load.new.err)) =
    record { shelf = c.in_ok-bytes.ensures.later; out = omega arith; err = c.in_ok-bytes.ensures.later_err } in
    loaded_by (ReadIsos patch notes name defined target) (IsosLead c.as_slice.result.now patch notes name defined target)
    (λ to leads. (
      found.0,
      (
        found.1.0,
        isos_read patch notes name defined target found.0 c.as_slice-text.result.now
            c.as_slice.result.now under (rw c.as_slice.ensures c.in-Ok.ensures.isos) to leads,
      ),
    ))
    (no_trace c.in_ok-bytes.ensures.same c.in_ok-bytes.ensures.no_store c.in_ok-bytes.ensures.ok_err) fell c.expand_patch.ensures.ends

pub returns-then-is_no_memory_for_isos-clause-ends : goal.returns-then-is_no_memory_for_isos-clause-ends
returns-then-is_no_memory_for_isos-clause-ends g c =
    let patch = c.args.noted.patch in
    let notes = c.args.noted.notes in
    let name = c.args.name.now in
    let defined = c.args.order.now.defined.items in
    let target = shown_target c.args.order.now.target in
    let old = c.args.outside.now in
    let fell : NoneFell (counts (g.S.Loads.faults old.shelf.now) (g.O.Sink.faults old.out.now) (g.E.Sink.faults old.err.now))
    (counts (g.S.Loads.faults c.load.new.shelf) (g.O.Sink.faults old.out.now) (g.E.Sink.faults c.load.new.err)) =
    record { shelf = c.in_ok-bytes.ensures.later; out = omega arith; err = c.in_ok-bytes.ensures.later_err } in
    loaded_unfed (ReadIsos patch notes name defined target)
    (no_trace c.in_ok-bytes.ensures.same c.in_ok-bytes.ensures.no_store c.in_ok-bytes.ensures.ok_err) fell (NoneFell-refl _) refl refl

pub returns-else-is_no_memory_for_isos-clause-ends : goal.returns-else-is_no_memory_for_isos-clause-ends
returns-else-is_no_memory_for_isos-clause-ends g c =
    let found = rw c.in-Bytes.is at c.in_ok-bytes.ensures.loaded in
    let under : found.0 ≡ Some c.as_slice-text.result.now = rw c.as_slice-text.ensures.value found.1.1.0 in
    let bad : IsFileFault c.as_slice-text.result.now c.in-Err.fault =
    not_memory c.is_no_memory_for_isos.result c.if-is_no_memory_for_isos.false c.is_no_memory_for_isos.ensures c.in-Err.ensures.fault in
    let patch = c.args.noted.patch in
    let notes = c.args.noted.notes in
    let name = c.args.name.now in
    let defined = c.args.order.now.defined.items in
    let target = shown_target c.args.order.now.target in
    let old = c.args.outside.now in
    let fell : NoneFell (counts (g.S.Loads.faults old.shelf.now) (g.O.Sink.faults old.out.now) (g.E.Sink.faults old.err.now))
    (counts (g.S.Loads.faults c.load.new.shelf) (g.O.Sink.faults old.out.now) (g.E.Sink.faults c.load.new.err)) =
    record { shelf = c.in_ok-bytes.ensures.later; out = omega arith; err = c.in_ok-bytes.ensures.later_err } in
    let there = told_place (is_quiet target) (placed c.as_slice-text.result.now (iso_byte c.in-Err.fault)) in
    let line : there ≡ c.told_place-place.result =
    sym (rw (c.placed.ensures.place, c.iso_byte-at.ensures, c.is_quiet.ensures.quiet) at c.told_place-place.ensures.place) in
    loaded (ReadIsos patch notes name defined target)
    (refusing (iso_fault_line name there c.in-Err.fault) 3)
    (found.0, (found.1.0, isos_bad patch notes name defined target found.0 c.as_slice-text.result.now c.in-Err.fault under bad))
    (no_trace c.in_ok-bytes.ensures.same c.in_ok-bytes.ensures.no_store c.in_ok-bytes.ensures.ok_err) fell
    (rw line (c.refuse_isos-in-Err.ensures.ends _ _ _ _ _))
