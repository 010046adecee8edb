use Rattle.std.proofs.Common.{◌≤◌, List, ℕ, take, map}
use Rattle.std.specs.Prelude.{Option}
use Rattle.outer_io.specs.Files.{Files}
use Rattle.run_acts.specs.Acts.{Report, observed}
use Rattle.run_files.specs.Does.{Does}
use Rattle.spatch_run.proofs.notes.report_all.Given as goal

abbrev pub invariant-loop-line : goal.invariant-loop-line
invariant-loop-line g l = record {
  later : g.E.Sink.faults l.initial.err ≤ g.E.Sink.faults l.err;
  done : (files : Option Files) (stores : ℕ) (out : Option (List ℕ)) →
      Does (map Report (take l.line-index l.lines))
      (observed files stores out (g.E.Sink.written l.initial.err)) (observed files stores out (g.E.Sink.written l.err));
}
