use Rattle.std.proofs.Common.{◌≡◌, ◌++◌, ◌∷◌, [], cond, Some, ap, ◌∙◌}
use Rattle.std.proofs.lemmas.Result.{IfOk-weaker}
use Rattle.smpl_terms.specs.declared.var.Var.{Var}
use Rattle.smpl_terms.specs.Vars.{same_var}
use Rattle.smpl_terms.specs.Environments.{value_in}
use Rattle.wit_forest.proofs.WitSteps.StepLemmas.{put_known, put_new, none_of}
use Rattle.wit_forest.proofs.wit_steps.envs.put_other.Goals as goal

pub returns-then-has : goal.returns-then-has
returns-then-has c = λ y.
    let rest = c.args.rest in
    let p = c.args.p.now in
    put_known rest p c.if-has.ensures.value y
    ∙ ap (λ b. cond b (value_in rest y) (value_in (rest ++ p ∷ []) y)) c.if-same_var.ensures.value

pub returns : goal.returns
returns c =
    let rest = c.args.rest in
    let p = c.args.p.now in
    IfOk-weaker c.with.result
    (λ r. (y : Var) → value_in r y ≡ cond (same_var p.0 y) (Some p.1) (value_in rest y))
    (λ r. (y : Var) → value_in r y ≡ cond (same_var p.0 c.args.x.now) (value_in rest y) (value_in (rest ++ p ∷ []) y))
    (λ r h y. h y ∙ put_new rest p (none_of (value_in rest p.0) c.if-has.ensures.value) y
    ∙ ap (λ b. cond b (value_in rest y) (value_in (rest ++ p ∷ []) y)) c.if-same_var.ensures.value)
    c.with.ensures.value
