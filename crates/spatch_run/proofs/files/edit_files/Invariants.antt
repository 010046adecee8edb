use Rattle.std.proofs.Common.{[], map, drop}
use Rattle.run_acts.specs.Acts.{observed}
use Rattle.run_acts.specs.Breaks.{counts, NoneFell}
use Rattle.run_acts.specs.Places.{SamePlaces}
use Rattle.run_files.specs.RunStages.Stages.{first_course, going}
use Rattle.run_files.specs.RunStages.Ends.{Goes}
use Rattle.spatch_run.proofs.Treating.{course_of}
use Rattle.spatch_run.proofs.files.edit_files.Given as goal

abbrev pub invariant-loop-name : goal.invariant-loop-name
invariant-loop-name g l =
    let old = l.initial.outside in let now = l.outside in
    record {
      same : SamePlaces old now;
      fell : NoneFell (counts (g.S.Loads.faults old.shelf.now) (g.O.Sink.faults old.out.now) (g.E.Sink.faults old.err.now))
          (counts (g.S.Loads.faults now.shelf.now) (g.O.Sink.faults now.out.now) (g.E.Sink.faults now.err.now));
      goes : Goes (going [] l.rules.patch.now l.rules.defined.now l.mode (map (λ name. name.now) l.names)
          (first_course l.notes))
          (observed (g.S.Loads.holds old.shelf.now) (g.S.Loads.stores old.shelf.now) (g.O.Sink.written old.out.now) (g.E.Sink.written old.err.now))
          (going [] l.rules.patch.now l.rules.defined.now l.mode (map (λ name. name.now) (drop l.name-index l.names))
          (course_of l.tally l.notes))
          (observed (g.S.Loads.holds now.shelf.now) (g.S.Loads.stores now.shelf.now) (g.O.Sink.written now.out.now) (g.E.Sink.written now.err.now));
    }
