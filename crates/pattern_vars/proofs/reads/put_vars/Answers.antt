use Rattle.std.proofs.Common.{refl, arith, List}
use Rattle.smpl_terms.specs.declared.var.Var.{Var}
use Rattle.smpl_terms.specs.Vars.{same_var}
use Rattle.pattern_vars.specs.Reads.{has}
use Rattle.pattern_vars.proofs.SetLemmas.{any-step, any-end}
use Rattle.pattern_vars.proofs.reads.put_vars.Goals as goal

pub loop-x-preserved : goal.loop-x-preserved
loop-x-preserved c y =
    any-step (λ (v : Var). same_var v y) (λ (vs : List Var). has vs y) (λ v vs. refl) c.args.vars.now c.loop-x.x-index c.x-item.result
    (has c.loop-x.set y) (has c.put.new.self y) _ c.loop-x-test.true c.x-item.is (c.in_ok-put.ensures y) (c.loop-x.invariant y)

pub returns : goal.returns
returns c y = any-end (λ (vs : List Var). has vs y) refl c.args.vars.now c.loop-x.x-index (has c.loop-x.set y) _ (omega arith) (c.loop-x.invariant y)
