use Rattle.std.proofs.Common.{◌≡◌, map, take}
use Rattle.run_files.specs.Treatment.{has_star}
use Rattle.run_files.proofs.hits.starred_rules.Given as goal

abbrev pub invariant-loop-rule : goal.invariant-loop-rule
invariant-loop-rule l = l.starred.items ≡ map has_star (take l.rule-index l.rules)
