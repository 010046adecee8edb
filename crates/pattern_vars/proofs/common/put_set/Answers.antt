use Rattle.std.proofs.Common.{◌<◌, refl, length, List, arith}
use Rattle.smpl_terms.specs.declared.var.Var.{Var}
use Rattle.smpl_terms.specs.Vars.{same_var}
use Rattle.pattern_vars.specs.Reads.{has}
use Rattle.pattern_vars.proofs.SetLemmas.{any-step}
use Rattle.pattern_vars.proofs.SureLemmas.{element_at}
use Rattle.pattern_vars.proofs.common.put_set.Goals as goal

pub loop-i-preserved : goal.loop-i-preserved
loop-i-preserved c y =
    let other = c.args.other.now in
    let within : c.loop-i.i < length other = omega arith in
    any-step (λ (v : Var). same_var v y) (λ (vs : List Var). has vs y) (λ v vs. refl) other c.loop-i.i c.at.result.now
    (has c.loop-i.set y) (has c.put.new.self y) _ within (element_at other c.loop-i.i c.at.result.now within c.at.ensures)
    (c.in_ok-put.ensures y) (c.loop-i.invariant y)
