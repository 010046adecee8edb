use Rattle.std.proofs.Common.{◌≡◌, ◌<◌, cond, None, sym, arith, length}
use Rattle.std.proofs.lemmas.Result.{IfOk-weaker}
use Rattle.smpl_terms.specs.declared.var.Var.{Var}
use Rattle.smpl_terms.specs.Vars.{same_var}
use Rattle.smpl_terms.specs.Environments.{value_in}
use Rattle.wit_forest.proofs.WitSteps.StepLemmas.{drop_none, without_next}
use Rattle.wit_forest.proofs.wit_steps.envs.without.Goals as goal

pub returns-then-not-has : goal.returns-then-not-has
returns-then-not-has c =
    IfOk-weaker c.copy.result (λ r. r ≡ c.args.env.now)
    (λ r. (y : Var) → value_in r y ≡ cond (same_var y c.args.x.now) None (value_in c.args.env.now y))
    (λ r e. drop_none c.args.env.now r c.args.x.now (sym c.if-not-has.ensures.value) e)
    c.copy.ensures.same

pub loop-p-preserved : goal.loop-p-preserved
loop-p-preserved c =
    let lt : c.loop-p.p-index < length c.pairs-p-items.result.now = omega arith in
    without_next c.pairs-p-items.result.now c.loop-p.p-index c.loop-p.rest c.in_ok-rest.rest c.p-item.result c.args.x.now lt
    c.p-item.is c.loop-p.invariant c.in_ok-rest.ensures
