use Rattle.std.proofs.Common.{◌≡◌, ◌++◌, drop}
use Rattle.std.specs.List.{flat_map}
use Rattle.rule_envs.specs.Inherited as of
use Rattle.rule_envs.proofs.inherited.inherited_of.Given as goal

abbrev pub invariant-loop-d : goal.invariant-loop-d
invariant-loop-d l = l.vars ++ flat_map of.inherited_by (drop l.d-index l.rule.vars) ≡ of.inherited_of l.rule
