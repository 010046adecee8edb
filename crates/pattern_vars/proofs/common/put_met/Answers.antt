use Rattle.std.proofs.Common.{◌<◌, ◌&&◌, length, List, arith}
use Rattle.smpl_terms.specs.declared.var.Var.{Var}
use Rattle.smpl_terms.specs.Vars.{same_var}
use Rattle.pattern_vars.specs.Reads.{has}
use Rattle.pattern_vars.proofs.SetLemmas.{any-step}
use Rattle.pattern_vars.proofs.SureLemmas.{and_over_or, element_at}
use Rattle.pattern_vars.proofs.common.put_met.Goals as goal

pub loop-i-preserved : goal.loop-i-preserved
loop-i-preserved c y =
    let one = c.args.one.now in
    let there = has c.args.other.now y in
    let within : c.loop-i.i < length one = omega arith in
    any-step (λ (v : Var). same_var v y && there) (λ (vs : List Var). has vs y && there)
    (λ v vs. and_over_or (same_var v y) (has vs y) there) one c.loop-i.i c.at.result.now
    (has c.loop-i.set y) (has c.put_if_in.new.set y) _ within (element_at one c.loop-i.i c.at.result.now within c.at.ensures)
    (c.in_ok-put_if_in.ensures y) (c.loop-i.invariant y)
