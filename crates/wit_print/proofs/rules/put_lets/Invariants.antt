use Rattle.std.proofs.Common.{◌≡◌, ◌++◌, map, drop}
use Rattle.wit_print.specs.Report.{let_lines}
use Rattle.wit_print.proofs.rules.put_lets.Given as goal

abbrev pub invariant-loop-d : goal.invariant-loop-d
invariant-loop-d l = l.report ++ let_lines l.rules (map (λ d. d.now) (drop l.d-index l.vars)) l.env
    ≡ l.initial.report ++ let_lines l.rules (map (λ d. d.now) l.vars) l.env
