use Rattle.std.proofs.Common.{◌≡◌, Some, None, [], refl, sym, arith}
use Rattle.std.specs.Prelude.{is_some}
use Rattle.std.proofs.lemmas.Result.{err_from_is_err_and}
use Rattle.run_acts.specs.Breaks.{NoneFell, counts}
use Rattle.run_acts.specs.Lines.{cannot_read}
use Rattle.run_acts.proofs.BreaksLemmas.{NoneFell-refl}
use Rattle.smpl_patch.specs.declared.fault.PatchFault.TheVariants as patch_fault
use Rattle.smpl_file.specs.Patches.{IsFirstFault}
use Rattle.run_words.specs.Shown.{shown_isos, shown_target}
use Rattle.run_words.specs.Orders.{is_quiet}
use Rattle.run_files.specs.RunLines.Further.{placed, told_place}
use Rattle.run_files.specs.RunLines.Notes.{note_lines}
use Rattle.run_files.specs.RunLines.Patches.{patch_fault_line}
use Rattle.run_files.specs.RunStages.Stages.{Doing, ReadPatch, ReadLeads, refusing, first_load}
use Rattle.spatch_run.proofs.Chain.{broken}
use Rattle.spatch_run.proofs.Leading.{no_trace, loaded, loaded_unfed, loaded_by, not_memory, patch_absent, patch_long, patch_bad, patch_read}
use Rattle.spatch_run.proofs.stages.follow_order.Goals as goal

pub give_forms-requires-clause-few : goal.give_forms-requires-clause-few
give_forms-requires-clause-few g c κs within = c.requires.few

pub give_forms-requires-clause-read : goal.give_forms-requires-clause-read
give_forms-requires-clause-read g c κs within = (c.as_slice-text.result.now, rw c.in_ok-noted-in-Ok.ensures.patch c.in-Ok.ensures.patch)

pub with_notes-requires : goal.with_notes-requires
with_notes-requires g c = record { read = c.in-Ok.ensures.patch }

pub returns-in_err-bytes-clause-ends : goal.returns-in_err-bytes-clause-ends
returns-in_err-bytes-clause-ends g c =
    let p = err_from_is_err_and c.from_residual.result c.from_residual.ensures.1 in
    let o = g.O.Sink.faults c.args.outside.now.out.now in
    let work = ReadPatch c.args.order.now.patch.now (shown_isos c.args.order.now.isos) c.args.order.now.defined.items
    (shown_target c.args.order.now.target) in
    rw (p.1, p.2) (broken (Doing [] work) (first_load work) refl
    (record { shelf = c.in_err-bytes.ensures.later; out = omega arith; err = c.in_err-bytes.ensures.later_err })
    (c.in_err-bytes.ensures.stopped (g.O.Sink.written c.args.outside.now.out.now) o o))

pub returns-in-TooLong-clause-ends : goal.returns-in-TooLong-clause-ends
returns-in-TooLong-clause-ends g c =
    let found = rw c.in-TooLong.is at c.in_ok-bytes.ensures.loaded in
    let name = c.args.order.now.patch.now in
    let isos = shown_isos c.args.order.now.isos in
    let defined = c.args.order.now.defined.items in
    let target = shown_target c.args.order.now.target in
    let old = c.args.outside.now in
    let fell : NoneFell (counts (g.S.Loads.faults old.shelf.now) (g.O.Sink.faults old.out.now) (g.E.Sink.faults old.err.now))
    (counts (g.S.Loads.faults c.load.new.shelf) (g.O.Sink.faults old.out.now) (g.E.Sink.faults c.load.new.err)) =
    record { shelf = c.in_ok-bytes.ensures.later; out = omega arith; err = c.in_ok-bytes.ensures.later_err } in
    loaded (ReadPatch name isos defined target) (refusing (patch_fault_line name None patch_fault.PatchTooLong) 2)
    (found.0, (found.1.0, patch_long name isos defined target found.0 found.1.1))
    (no_trace c.in_ok-bytes.ensures.same c.in_ok-bytes.ensures.no_store c.in_ok-bytes.ensures.ok_err) fell (c.refuse_patch.ensures.ends _ _ _ _ _)

pub returns-in-Absent-clause-ends : goal.returns-in-Absent-clause-ends
returns-in-Absent-clause-ends g c =
    let found = rw c.in-Absent.is at c.in_ok-bytes.ensures.loaded in
    let name = c.args.order.now.patch.now in
    let isos = shown_isos c.args.order.now.isos in
    let defined = c.args.order.now.defined.items in
    let target = shown_target c.args.order.now.target in
    let old = c.args.outside.now in
    let fell : NoneFell (counts (g.S.Loads.faults old.shelf.now) (g.O.Sink.faults old.out.now) (g.E.Sink.faults old.err.now))
    (counts (g.S.Loads.faults c.load.new.shelf) (g.O.Sink.faults old.out.now) (g.E.Sink.faults c.load.new.err)) =
    record { shelf = c.in_ok-bytes.ensures.later; out = omega arith; err = c.in_ok-bytes.ensures.later_err } in
    loaded (ReadPatch name isos defined target) (refusing (cannot_read name) 5)
    (found.0, (found.1.0, patch_absent name isos defined target found.0 found.1.1))
    (no_trace c.in_ok-bytes.ensures.same c.in_ok-bytes.ensures.no_store c.in_ok-bytes.ensures.ok_err) fell (c.refuse_absent.ensures.ends _ _ _ _ _)

pub returns-in-Ok-clause-ends : goal.returns-in-Ok-clause-ends
returns-in-Ok-clause-ends g c =
    let found = rw c.in-Bytes.is at c.in_ok-bytes.ensures.loaded in
    let under : found.0 ≡ Some c.as_slice-text.result.now = rw c.as_slice-text.ensures.value found.1.1.0 in
    let name = c.args.order.now.patch.now in
    let isos = shown_isos c.args.order.now.isos in
    let defined = c.args.order.now.defined.items in
    let target = shown_target c.args.order.now.target in
    let old = c.args.outside.now in
    let fell : NoneFell (counts (g.S.Loads.faults old.shelf.now) (g.O.Sink.faults old.out.now) (g.E.Sink.faults old.err.now))
    (counts (g.S.Loads.faults c.load.new.shelf) (g.O.Sink.faults old.out.now) (g.E.Sink.faults c.load.new.err)) =
    record { shelf = c.in_ok-bytes.ensures.later; out = omega arith; err = c.in_ok-bytes.ensures.later_err } in
    let made = c.in_ok-noted-in-Ok.ensures.lines in
    let leads = rw (c.in_ok-noted-in-Ok.ensures.patch, made.1.1) at c.give_forms.ensures.ends in
    loaded_by (ReadPatch name isos defined target) (ReadLeads c.in-Ok.patch (note_lines name (is_some isos) target made.0) isos defined target)
    (λ to leads. (
      found.0,
      (
        found.1.0,
        patch_read name isos defined target found.0 c.as_slice-text.result.now c.in-Ok.patch under
            c.in-Ok.ensures.patch to (made.0, (made.1.0, leads)),
      ),
    )) (no_trace c.in_ok-bytes.ensures.same c.in_ok-bytes.ensures.no_store
    c.in_ok-bytes.ensures.ok_err) fell leads

pub returns-in_err-noted-in-Ok-clause-ends : goal.returns-in_err-noted-in-Ok-clause-ends
returns-in_err-noted-in-Ok-clause-ends g c =
    let p = err_from_is_err_and c.from_residual-in_err-noted-in-Ok.result c.from_residual-in_err-noted-in-Ok.ensures.1 in
    let name = c.args.order.now.patch.now in
    let isos = shown_isos c.args.order.now.isos in
    let defined = c.args.order.now.defined.items in
    let target = shown_target c.args.order.now.target in
    let old = c.args.outside.now in
    let fell : NoneFell (counts (g.S.Loads.faults old.shelf.now) (g.O.Sink.faults old.out.now) (g.E.Sink.faults old.err.now))
    (counts (g.S.Loads.faults c.load.new.shelf) (g.O.Sink.faults old.out.now) (g.E.Sink.faults c.load.new.err)) =
    record { shelf = c.in_ok-bytes.ensures.later; out = omega arith; err = c.in_ok-bytes.ensures.later_err } in
    rw (p.1, p.2) (loaded_unfed (ReadPatch name isos defined target)
    (no_trace c.in_ok-bytes.ensures.same c.in_ok-bytes.ensures.no_store c.in_ok-bytes.ensures.ok_err) fell (NoneFell-refl _) refl refl)

pub returns-then-is_no_memory-clause-ends : goal.returns-then-is_no_memory-clause-ends
returns-then-is_no_memory-clause-ends g c =
    let name = c.args.order.now.patch.now in
    let isos = shown_isos c.args.order.now.isos in
    let defined = c.args.order.now.defined.items in
    let target = shown_target c.args.order.now.target in
    let old = c.args.outside.now in
    let fell : NoneFell (counts (g.S.Loads.faults old.shelf.now) (g.O.Sink.faults old.out.now) (g.E.Sink.faults old.err.now))
    (counts (g.S.Loads.faults c.load.new.shelf) (g.O.Sink.faults old.out.now) (g.E.Sink.faults c.load.new.err)) =
    record { shelf = c.in_ok-bytes.ensures.later; out = omega arith; err = c.in_ok-bytes.ensures.later_err } in
    loaded_unfed (ReadPatch name isos defined target)
    (no_trace c.in_ok-bytes.ensures.same c.in_ok-bytes.ensures.no_store c.in_ok-bytes.ensures.ok_err) fell (NoneFell-refl _) refl refl

pub returns-in_err-at-in-Err-clause-ends : goal.returns-in_err-at-in-Err-clause-ends
returns-in_err-at-in-Err-clause-ends g c =
    let p = err_from_is_err_and c.from_residual-in_err-at-in-Err.result c.from_residual-in_err-at-in-Err.ensures.1 in
    let name = c.args.order.now.patch.now in
    let isos = shown_isos c.args.order.now.isos in
    let defined = c.args.order.now.defined.items in
    let target = shown_target c.args.order.now.target in
    let old = c.args.outside.now in
    let fell : NoneFell (counts (g.S.Loads.faults old.shelf.now) (g.O.Sink.faults old.out.now) (g.E.Sink.faults old.err.now))
    (counts (g.S.Loads.faults c.load.new.shelf) (g.O.Sink.faults old.out.now) (g.E.Sink.faults c.load.new.err)) =
    record { shelf = c.in_ok-bytes.ensures.later; out = omega arith; err = c.in_ok-bytes.ensures.later_err } in
    rw (p.1, p.2) (loaded_unfed (ReadPatch name isos defined target)
    (no_trace c.in_ok-bytes.ensures.same c.in_ok-bytes.ensures.no_store c.in_ok-bytes.ensures.ok_err) fell (NoneFell-refl _) refl refl)

pub returns-clause-ends : goal.returns-clause-ends
returns-clause-ends g c =
    let found = rw c.in-Bytes.is at c.in_ok-bytes.ensures.loaded in
    let under : found.0 ≡ Some c.as_slice-text.result.now = rw c.as_slice-text.ensures.value found.1.1.0 in
    let bad : IsFirstFault c.as_slice-text.result.now c.in-Err.fault =
    not_memory c.is_no_memory.result c.if-is_no_memory.false c.is_no_memory.ensures c.in-Err.ensures.fault in
    let name = c.args.order.now.patch.now in
    let isos = shown_isos c.args.order.now.isos in
    let defined = c.args.order.now.defined.items in
    let target = shown_target c.args.order.now.target in
    let old = c.args.outside.now in
    let fell : NoneFell (counts (g.S.Loads.faults old.shelf.now) (g.O.Sink.faults old.out.now) (g.E.Sink.faults old.err.now))
    (counts (g.S.Loads.faults c.load.new.shelf) (g.O.Sink.faults old.out.now) (g.E.Sink.faults c.load.new.err)) =
    record { shelf = c.in_ok-bytes.ensures.later; out = omega arith; err = c.in_ok-bytes.ensures.later_err } in
    let there = told_place (is_quiet target) (placed c.as_slice-text.result.now c.in_ok-at-in-Err.at) in
    let line : there ≡ c.told_place-place.result =
    sym (rw (c.placed.ensures.place, c.is_quiet.ensures.quiet) at c.told_place-place.ensures.place) in
    loaded (ReadPatch name isos defined target) (refusing (patch_fault_line name there c.in-Err.fault) 2) (
      found.0,
      (
        found.1.0,
        patch_bad name isos defined target found.0 c.as_slice-text.result.now c.in-Err.fault c.in_ok-at-in-Err.at under bad
            c.in_ok-at-in-Err.ensures.place,
      ),
    )
    (no_trace c.in_ok-bytes.ensures.same c.in_ok-bytes.ensures.no_store c.in_ok-bytes.ensures.ok_err) fell
    (rw line (c.refuse_patch-in-Err.ensures.ends _ _ _ _ _))
