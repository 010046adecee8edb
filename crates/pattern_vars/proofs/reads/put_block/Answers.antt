use Rattle.std.proofs.Common.{refl, arith, List}
use Rattle.std.specs.List.{list_any}
use Rattle.smpl_patch.specs.declared.pattern.PlusLine.{PlusLine}
use Rattle.smpl_patch.specs.Patterns.{in_line}
use Rattle.pattern_vars.specs.Reads.{has}
use Rattle.pattern_vars.proofs.SetLemmas.{any-step, any-end}
use Rattle.pattern_vars.proofs.reads.put_block.Goals as goal

pub loop-line-preserved : goal.loop-line-preserved
loop-line-preserved c y =
    let decls = c.args.decls.now in
    any-step (λ (t : PlusLine). in_line decls y t) (λ (ts : List PlusLine). list_any (in_line decls y) ts) (λ t ts. refl)
    c.as_slice-line-items.result.now c.loop-line.line-index c.line-item.result
    (has c.loop-line.set y) (has c.put_line.new.set y) _ c.loop-line-test.true c.line-item.is (c.in_ok-put_line-in-Some.ensures y) (c.loop-line.invariant y)

pub returns-after-loop-line : goal.returns-after-loop-line
returns-after-loop-line c y =
    let decls = c.args.decls.now in
    any-end (λ (ts : List PlusLine). list_any (in_line decls y) ts) refl c.as_slice-line-items.result.now c.loop-line.line-index
    (has c.loop-line.set y) _ (omega arith) (c.loop-line.invariant y)
