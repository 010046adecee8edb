use Rattle.std.proofs.Common.{◌≡◌, ◌&&◌, not, map, take}
use Rattle.std.specs.List.{filter}
use Rattle.pattern_vars.specs.Reads.{has}
use Rattle.ctl_translate.proofs.rule.locals.Given as goal

abbrev pub invariant-loop-d : goal.invariant-loop-d
invariant-loop-d l =
    l.found ≡ map (λ d. d.var) (filter (λ d. not d.inherited && not (has l.exports d.var)) (take l.d-index l.d-items))
