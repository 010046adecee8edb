use Rattle.std.proofs.Common.{◌≡◌, ◌++◌, map, drop}
use Rattle.std.specs.List.{flat_map}
use Rattle.wit_print.specs.Report.{witness_lines}
use Rattle.wit_print.proofs.rules.put_witnesses.Given as goal

abbrev pub invariant-loop-w : goal.invariant-loop-w
invariant-loop-w l = l.report ++ flat_map (witness_lines l.rules (map (λ d. d.now) l.vars)) (map (λ w. w.now) (drop l.w-index l.own))
    ≡ l.initial.report ++ flat_map (witness_lines l.rules (map (λ d. d.now) l.vars)) (map (λ w. w.now) l.own)
