use Rattle.std.proofs.Common.{◌≡◌, drop}
use Rattle.ctl_translate.specs.Rules as rules
use Rattle.ctl_translate.proofs.unbound.first_unbound_by.Given as goal

abbrev pub invariant-loop-d : goal.invariant-loop-d
invariant-loop-d l = rules.first_unbound_from l.rule (drop l.d-index l.d-items) ≡ rules.first_unbound_from l.rule l.d-items
