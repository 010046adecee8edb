use Rattle.std.proofs.Common.{◌≡◌, cond, Some}
use Rattle.std.proofs.lemmas.Result.{IfOk-weaker}
use Rattle.smpl_terms.specs.declared.var.Var.{Var}
use Rattle.smpl_terms.specs.Vars.{same_var}
use Rattle.smpl_terms.specs.Environments.{value_in, total, change}
use Rattle.wit_forest.proofs.WitSteps.StepLemmas.{without_has, changed_value}
use Rattle.wit_forest.proofs.wit_steps.envs.changed.Goals as goal

pub with-requires : goal.with-requires
with-requires c = record { absent = without_has c.args.env.now c.in_ok-rest.rest c.args.x.now c.in_ok-rest.ensures }

pub returns : goal.returns
returns c = record {
  value = IfOk-weaker c.with.result
      (λ r. (y : Var) → value_in r y ≡ cond (same_var c.args.x.now y) (Some c.args.v.now) (value_in c.in_ok-rest.rest y))
      (λ r. (y : Var) → total r y ≡ change (total c.args.env.now) c.args.x.now c.args.v.now y)
      (λ r k. changed_value c.args.env.now c.in_ok-rest.rest r c.args.x.now c.args.v.now c.in_ok-rest.ensures k)
      c.with.ensures.value;
}
