use Rattle.std.proofs.Common.{◌≡◌, map, take}
use Rattle.std.specs.List.{filter}
use Rattle.wit_print.specs.Report.{is_reported}
use Rattle.wit_print.proofs.rules.reported.Given as goal

abbrev pub invariant-loop-d : goal.invariant-loop-d
invariant-loop-d l = map (λ d. d.now) l.vars.items ≡ filter (is_reported l.rule.exports) (take l.d-index l.d-items)
