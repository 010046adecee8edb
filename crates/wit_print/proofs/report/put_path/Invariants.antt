use Rattle.std.proofs.Common.{◌≡◌, ◌++◌, drop}
use Rattle.wit_print.specs.Report.{steps_text}
use Rattle.wit_print.proofs.report.put_path.Given as goal

abbrev pub invariant-loop-step : goal.invariant-loop-step
invariant-loop-step l = l.report ++ steps_text (drop l.step-index l.rest) ≡ l.initial.report ++ steps_text l.rest
