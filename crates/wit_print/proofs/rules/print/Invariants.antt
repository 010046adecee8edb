use Rattle.std.proofs.Common.{◌≡◌, ◌++◌, drop}
use Rattle.wit_print.specs.Report.{rules_lines}
use Rattle.wit_print.proofs.rules.print.Given as goal

abbrev pub invariant-loop-n : goal.invariant-loop-n
invariant-loop-n l = l.report ++ rules_lines l.rules l.witnesses l.n (drop l.n l.rules) ≡ l.initial.report ++ rules_lines l.rules l.witnesses 0 l.rules
