use Rattle.std.proofs.Common.{◌≡◌, ◌++◌, drop, map}
use Rattle.rule_envs.specs.declared.file_env.FileEnv.{FileEnv}
use Rattle.rule_envs.proofs.file_env.envs_of.Given as goal

abbrev pub invariant-loop-file_env : goal.invariant-loop-file_env
invariant-loop-file_env l =
    l.envs ++ map (λ (c : FileEnv). c.env) (drop l.file_env-index l.file_envs) ≡ map (λ (c : FileEnv). c.env) l.file_envs
