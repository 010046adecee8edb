use Rattle.std.proofs.Common.{◌≡◌, refl, sym, ap, ◌∙◌, List, [], ◌∷◌, map}
use Rattle.env_parts.specs.Parts.{Pairs, bare_env}
use Rattle.rule_envs.specs.declared.file_env.FileEnv.{FileEnv}
use Rattle.rule_envs.specs.Shares.{bare_file_env}
use Rattle.rule_chain.proofs.answers.answer.Goals as goal

envs_bare : (cs : List FileEnv) → map bare_env (map (λ c. c.env) cs) ≡ map (λ c. c.env) (map bare_file_env cs)
envs_bare [] = refl
envs_bare (c ∷ cs) = ap (λ (r : List Pairs). bare_env c.env ∷ r) (envs_bare cs)

pub returns : goal.returns
returns c = λ choice s are text notes. record {
  bytes = text;
  witnesses = sym are.found_is;
  skipped = sym notes;
  envs = ap (map bare_env) (c.in_ok-envs.ensures.envs ∙ ap (map (λ (k : FileEnv). k.env)) c.as_slice.ensures)
      ∙ envs_bare c.args.findings.file_envs
      ∙ ap (map (λ (k : FileEnv). k.env)) (sym are.seen.file_envs_is);
}
