use Rattle.std.proofs.Common.{◌≡◌, drop, take, map}
use Rattle.std.specs.List.{filter_map, AllZip}
use Rattle.env_parts.specs.Parts.{bare_env, distinct_after}
use Rattle.rule_envs.specs.Shares as of
use Rattle.rule_envs.proofs.shares.projections.Given as goal

abbrev pub invariant-loop-file_env : goal.invariant-loop-file_env
invariant-loop-file_env l = record {
  rest : distinct_after l.envs (filter_map (of.share l.defined l.had l.depends l.inherited) (drop l.file_env-index l.file_envs))
      ≡ of.projections l.defined l.had l.depends l.inherited l.file_envs;
  stand : AllZip (of.StandsAt (map bare_env l.envs))
      (map (of.share l.defined l.had l.depends l.inherited) (map of.bare_file_env (take l.file_env-index l.file_envs))) l.places;
}
