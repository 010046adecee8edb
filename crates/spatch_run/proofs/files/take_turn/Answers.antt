use Rattle.std.proofs.Common.{[], refl, arith}
use Rattle.std.proofs.lemmas.Result.{err_from_is_err_and}
use Rattle.run_acts.specs.Acts.{Load}
use Rattle.run_acts.specs.Breaks.{NoneFell, counts}
use Rattle.run_files.specs.RunStages.Stages.{Doing, EditFiles}
use Rattle.spatch_run.proofs.Chain.{broken}
use Rattle.spatch_run.proofs.Leading.{no_trace}
use Rattle.spatch_run.proofs.Treating.{file_cut, long_cut, special_cut, turns_long, turns_special, turns_treated, turns_absent}
use Rattle.spatch_run.proofs.files.take_turn.Goals as goal

pub returns-in_err-refuse_special-clause-fell : goal.returns-in_err-refuse_special-clause-fell
returns-in_err-refuse_special-clause-fell g c = record { shelf = omega arith; out = omega arith; err = c.in_err-refuse_special.ensures.later }

pub returns-in_err-refuse_special-clause-stopped : goal.returns-in_err-refuse_special-clause-stopped
returns-in_err-refuse_special-clause-stopped g c =
    let p = err_from_is_err_and c.from_residual.result c.from_residual.ensures.1 in
    let s = g.S.Loads.faults c.args.outside.now.shelf.now in
    let o = g.O.Sink.faults c.args.outside.now.out.now in
    let fell : NoneFell (counts s o (g.E.Sink.faults c.args.outside.now.err.now)) (counts s o (g.E.Sink.faults c.refuse_special.new.err)) =
    record { shelf = omega arith; out = omega arith; err = c.in_err-refuse_special.ensures.later } in
    rw (p.1, p.2) (λ names course. special_cut c.args.rules.now.patch.now c.args.rules.now.defined.now c.args.mode
    c.args.name.now names course (c.is_special.ensures.untold c.if-is_special.true) fell (c.in_err-refuse_special.ensures.stopped _ _ _ s o s o))

pub returns-then-is_special-clause-turned : goal.returns-then-is_special-clause-turned
returns-then-is_special-clause-turned g c =
    rw c.of_refused.ensures (turns_special c.args.rules.now.patch.now c.args.rules.now.defined.now c.args.mode c.args.name.now
    (c.is_special.ensures.untold c.if-is_special.true) (c.in_ok-refuse_special.ensures.done _ _ _))

pub returns-then-is_special-clause-fell : goal.returns-then-is_special-clause-fell
returns-then-is_special-clause-fell g c = record { shelf = omega arith; out = omega arith; err = c.in_ok-refuse_special.ensures.later }

pub process_file-requires-clause-short : goal.process_file-requires-clause-short
process_file-requires-clause-short g c κs within =
    let found = rw c.in-Bytes.is at c.in_ok-bytes.ensures.loaded in
    found.1.1.1

pub returns-in_err-bytes-clause-fell : goal.returns-in_err-bytes-clause-fell
returns-in_err-bytes-clause-fell g c = record { shelf = c.in_err-bytes.ensures.later; out = omega arith; err = c.in_err-bytes.ensures.later_err }

pub returns-in_err-bytes-clause-stopped : goal.returns-in_err-bytes-clause-stopped
returns-in_err-bytes-clause-stopped g c =
    let p = err_from_is_err_and c.from_residual-in_err-bytes.result c.from_residual-in_err-bytes.ensures.1 in
    let o = g.O.Sink.faults c.args.outside.now.out.now in
    rw (p.1, p.2) (λ names course. broken (Doing []
    (EditFiles c.args.rules.now.patch.now c.args.rules.now.defined.now c.args.mode c.args.name.now names course))
    (Load c.args.name.now 16777216) refl
    (record { shelf = c.in_err-bytes.ensures.later; out = omega arith; err = c.in_err-bytes.ensures.later_err })
    (c.in_err-bytes.ensures.stopped (g.O.Sink.written c.args.outside.now.out.now) o o))

pub returns-in-Absent-clause-turned : goal.returns-in-Absent-clause-turned
returns-in-Absent-clause-turned g c =
    let found = rw c.in-Absent.is at c.in_ok-bytes.ensures.loaded in
    turns_absent c.args.rules.now.patch.now c.args.rules.now.defined.now c.args.mode c.args.name.now found.0 found.1.0 found.1.1
    (no_trace c.in_ok-bytes.ensures.same c.in_ok-bytes.ensures.no_store c.in_ok-bytes.ensures.ok_err)

pub returns-in-Absent-clause-fell : goal.returns-in-Absent-clause-fell
returns-in-Absent-clause-fell g c = record { shelf = c.in_ok-bytes.ensures.later; out = omega arith; err = c.in_ok-bytes.ensures.later_err }

pub returns-in_err-refuse_long-in-TooLong-clause-fell : goal.returns-in_err-refuse_long-in-TooLong-clause-fell
returns-in_err-refuse_long-in-TooLong-clause-fell g c =
    record {
      shelf = c.in_ok-bytes.ensures.later;
      out = omega arith;
      err =
          omega (arith, c.in_ok-bytes.ensures.later_err, c.in_err-refuse_long-in-TooLong.ensures.later);
    }

pub returns-in_err-refuse_long-in-TooLong-clause-stopped : goal.returns-in_err-refuse_long-in-TooLong-clause-stopped
returns-in_err-refuse_long-in-TooLong-clause-stopped g c =
    let found = rw c.in-TooLong.is at c.in_ok-bytes.ensures.loaded in
    let p = err_from_is_err_and c.from_residual-in_err-refuse_long-in-TooLong.result c.from_residual-in_err-refuse_long-in-TooLong.ensures.1 in
    let s = g.S.Loads.faults c.load.new.shelf in
    let o = g.O.Sink.faults c.args.outside.now.out.now in
    let fell : NoneFell (counts (g.S.Loads.faults c.args.outside.now.shelf.now) o (g.E.Sink.faults c.args.outside.now.err.now))
    (counts s o (g.E.Sink.faults c.load.new.err)) =
    record { shelf = c.in_ok-bytes.ensures.later; out = omega arith; err = c.in_ok-bytes.ensures.later_err } in
    let more : NoneFell (counts s o (g.E.Sink.faults c.load.new.err)) (counts s o (g.E.Sink.faults c.refuse_long.new.err)) =
    record { shelf = omega arith; out = omega arith; err = c.in_err-refuse_long-in-TooLong.ensures.later } in
    rw (p.1, p.2) (λ names course. long_cut c.args.rules.now.patch.now c.args.rules.now.defined.now c.args.mode c.args.name.now
    names course found.0 found.1.0 found.1.1
    (no_trace c.in_ok-bytes.ensures.same c.in_ok-bytes.ensures.no_store c.in_ok-bytes.ensures.ok_err) fell more
    (c.in_err-refuse_long-in-TooLong.ensures.stopped _ _ _ s o s o))

pub returns-in-TooLong-clause-turned : goal.returns-in-TooLong-clause-turned
returns-in-TooLong-clause-turned g c =
    let found = rw c.in-TooLong.is at c.in_ok-bytes.ensures.loaded in
    rw c.of_refused-in-TooLong.ensures (turns_long c.args.rules.now.patch.now c.args.rules.now.defined.now c.args.mode c.args.name.now
    found.0 found.1.0 found.1.1
    (no_trace c.in_ok-bytes.ensures.same c.in_ok-bytes.ensures.no_store c.in_ok-bytes.ensures.ok_err) (c.in_ok-refuse_long-in-TooLong.ensures.done _ _ _))

pub returns-in-TooLong-clause-fell : goal.returns-in-TooLong-clause-fell
returns-in-TooLong-clause-fell g c = record {
  shelf = c.in_ok-bytes.ensures.later;
  out = omega arith;
  err =
      omega (arith, c.in_ok-bytes.ensures.later_err, c.in_ok-refuse_long-in-TooLong.ensures.later);
}

pub returns-in_err-tally-clause-fell : goal.returns-in_err-tally-clause-fell
returns-in_err-tally-clause-fell g c = record {
  shelf = omega (arith, c.in_ok-bytes.ensures.later, c.in_err-tally.ensures.later);
  out = c.in_err-tally.ensures.later_out;
  err = omega (arith, c.in_ok-bytes.ensures.later_err, c.in_err-tally.ensures.later_err);
}

pub returns-in_err-tally-clause-stopped : goal.returns-in_err-tally-clause-stopped
returns-in_err-tally-clause-stopped g c =
    let found = rw c.in-Bytes.is at c.in_ok-bytes.ensures.loaded in
    let p = err_from_is_err_and c.from_residual-in_err-tally.result c.from_residual-in_err-tally.ensures.1 in
    let old = c.args.outside.now in
    let fell : NoneFell (counts (g.S.Loads.faults old.shelf.now) (g.O.Sink.faults old.out.now) (g.E.Sink.faults old.err.now))
    (counts (g.S.Loads.faults c.load.new.shelf) (g.O.Sink.faults old.out.now) (g.E.Sink.faults c.load.new.err)) =
    record { shelf = c.in_ok-bytes.ensures.later; out = omega arith; err = c.in_ok-bytes.ensures.later_err } in
    let new = c.process_file.new.outside in
    let more : NoneFell (counts (g.S.Loads.faults c.load.new.shelf) (g.O.Sink.faults old.out.now) (g.E.Sink.faults c.load.new.err))
    (counts (g.S.Loads.faults new.shelf.now) (g.O.Sink.faults new.out.now) (g.E.Sink.faults new.err.now)) =
    record { shelf = c.in_err-tally.ensures.later; out = c.in_err-tally.ensures.later_out; err = c.in_err-tally.ensures.later_err } in
    rw (p.1, p.2) (λ names course. file_cut c.args.rules.now.patch.now c.args.rules.now.defined.now c.args.mode c.args.name.now
    names course c.in-Bytes.bytes.items (rw found.1.1.0 at found.1.0)
    (no_trace c.in_ok-bytes.ensures.same c.in_ok-bytes.ensures.no_store c.in_ok-bytes.ensures.ok_err) fell more c.in_err-tally.ensures.stopped)

pub returns-clause-turned : goal.returns-clause-turned
returns-clause-turned g c =
    let found = rw c.in-Bytes.is at c.in_ok-bytes.ensures.loaded in
    turns_treated c.args.rules.now.patch.now c.args.rules.now.defined.now c.args.mode c.args.name.now c.in-Bytes.bytes.items
    found.0 c.in_ok-tally.tally found.1.0 found.1.1.0
    (no_trace c.in_ok-bytes.ensures.same c.in_ok-bytes.ensures.no_store c.in_ok-bytes.ensures.ok_err) c.in_ok-tally.ensures.treated

pub returns-clause-fell : goal.returns-clause-fell
returns-clause-fell g c = record {
  shelf = omega (arith, c.in_ok-bytes.ensures.later, c.in_ok-tally.ensures.later);
  out = c.in_ok-tally.ensures.later_out;
  err = omega (arith, c.in_ok-bytes.ensures.later_err, c.in_ok-tally.ensures.later_err);
}
