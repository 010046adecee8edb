use Rattle.std.proofs.Common.{◌≡◌, drop, map}
use Rattle.env_parts.specs.Parts.{restricted, distinct_after}
use Rattle.rule_envs.specs.FileEnvs as of
use Rattle.smpl_patch.specs.declared.witness.RuleWitness.{RuleWitness}
use Rattle.rule_envs.proofs.exports.exported.Given as goal

abbrev pub invariant-loop-w : goal.invariant-loop-w
invariant-loop-w l =
    distinct_after l.envs (map (restricted l.exports) (map (λ (w : RuleWitness). w.env) (drop l.w-index l.found)))
    ≡ of.exported l.exports (map (λ (w : RuleWitness). w.env) l.found)
