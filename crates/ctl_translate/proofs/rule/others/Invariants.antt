use Rattle.std.proofs.Common.{◌≡◌, not, take}
use Rattle.std.specs.List.{filter}
use Rattle.pattern_vars.specs.Reads.{has}
use Rattle.ctl_translate.proofs.rule.others.Given as goal

abbrev pub invariant-loop-x : goal.invariant-loop-x
invariant-loop-x l = l.found ≡ filter (λ x. not (has l.used x)) (take l.x-index l.vars)
