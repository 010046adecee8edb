use Rattle.std.proofs.Common.{◌≡◌, ◌≤◌, List, ℕ, take, map}
use Rattle.std.specs.Prelude.{Option}
use Rattle.outer_io.specs.Files.{Files}
use Rattle.run_acts.specs.Acts.{observed}
use Rattle.run_files.specs.Treatment.{note_act}
use Rattle.run_files.specs.Does.{Does}
use Rattle.run_files.proofs.effects.report_notes.Given as goal

abbrev pub invariant-loop-note : goal.invariant-loop-note
invariant-loop-note g l = record {
  later : g.E.Sink.faults l.initial.err ≤ g.E.Sink.faults l.err;
  text : l.places ≡ l.text;
  done : (files : Option Files) (stores : ℕ) (out : Option (List ℕ)) →
      Does (map (note_act l.name l.text l.found) (take l.note-index l.notes))
      (observed files stores out (g.E.Sink.written l.initial.err)) (observed files stores out (g.E.Sink.written l.err));
}
