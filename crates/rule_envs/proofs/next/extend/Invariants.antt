use Rattle.std.proofs.Common.{◌≡◌, ◌++◌, drop, map}
use Rattle.rule_envs.specs.FileEnvs as of
use Rattle.rule_envs.proofs.next.extend.Given as goal

abbrev pub invariant-loop-part : goal.invariant-loop-part
invariant-loop-part l =
    l.next ++ map (of.extended l.number l.file_env) (drop l.part-index l.parts)
    ≡ l.initial.next ++ map (of.extended l.number l.file_env) l.parts
