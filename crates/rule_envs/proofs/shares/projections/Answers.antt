use Rattle.std.proofs.Common.{◌≡◌, ◌<◌, ◌+◌, ◌∷◌, [], ◌++◌, List, Option, ℕ, sym, ap, subst, ◌∙◌, arith, drop, take, map, length}
use Rattle.std.specs.Prelude.{option_map}
use Rattle.std.specs.List.{filter_map, AllZip}
use Rattle.std.proofs.lemmas.List.{drop_more, take_all}
use Rattle.env_parts.specs.Parts.{Pairs, bare_env, distinct_after}
use Rattle.rule_envs.specs.declared.file_env.FileEnv.{FileEnv}
use Rattle.rule_envs.specs.Shares as of
use Rattle.rule_envs.proofs.ShareLemmas.{share-bare, share_rest, share_stands, front_more}
use Rattle.rule_envs.proofs.shares.projections.Goals as goal

pub loop-file_env-preserved : goal.loop-file_env-preserved
loop-file_env-preserved c =
    let f = of.share c.args.defined.now c.args.had.now c.args.depends.now c.args.inherited.now in
    let cs = c.args.file_envs.now in
    let i = c.loop-file_env.file_env-index in
    let one = c.file_env-item.result in
    let rest = drop (i + 1) cs in
    let within : i < length cs = omega arith in
    let left : drop i cs ≡ one ∷ rest = drop_more cs i one within ∙ ap (λ (x : FileEnv). x ∷ rest) (sym c.file_env-item.is) in
    let bare : f (of.bare_file_env one) ≡ option_map bare_env c.in_ok-share.share =
    share-bare c.args.defined.now c.args.had.now c.args.depends.now c.args.inherited.now one ∙ ap (option_map bare_env) (sym c.in_ok-share.ensures) in
    record {
      rest = share_rest f c.loop-file_env.envs c.in_ok-shared.shared.envs c.in_ok-share.share c.in_ok-shared.shared.place one rest
          c.in_ok-share.ensures c.in_ok-shared.ensures
          ∙ ap (λ (xs : List FileEnv). distinct_after c.loop-file_env.envs (filter_map f xs)) (sym left) ∙ c.loop-file_env.invariant.rest;
      stand =
          subst (λ (os : List (Option Pairs)). AllZip (of.StandsAt (map bare_env c.in_ok-shared.shared.envs)) os c.push.new.self)
          (sym (front_more f of.bare_file_env cs i one within c.file_env-item.is
          ∙ ap (λ (o : Option Pairs). map f (map of.bare_file_env (take i cs)) ++ o ∷ []) bare))
          (subst (λ (ps : List (Option ℕ)). AllZip (of.StandsAt (map bare_env c.in_ok-shared.shared.envs))
          (map f (map of.bare_file_env (take i cs)) ++ option_map bare_env c.in_ok-share.share ∷ []) ps)
          (sym c.in_ok-push.ensures.ok)
          (share_stands c.loop-file_env.envs c.in_ok-shared.shared.envs c.in_ok-share.share c.in_ok-shared.shared.place
          (map f (map of.bare_file_env (take i cs))) c.loop-file_env.places c.in_ok-shared.ensures c.loop-file_env.invariant.stand));
    }

pub returns-clause-places : goal.returns-clause-places
returns-clause-places c =
    let f = of.share c.args.defined.now c.args.had.now c.args.depends.now c.args.inherited.now in
    subst (λ (cs : List FileEnv). AllZip (of.StandsAt (map bare_env c.into_envs.result)) (map f (map of.bare_file_env cs)) c.loop-file_env.places)
    (take_all c.loop-file_env.file_env-index c.args.file_envs.now (omega arith))
    (subst (λ (envs : List Pairs). AllZip (of.StandsAt (map bare_env envs))
    (map f (map of.bare_file_env (take c.loop-file_env.file_env-index c.args.file_envs.now))) c.loop-file_env.places)
    (sym c.into_envs.ensures.envs) c.loop-file_env.invariant.stand)
