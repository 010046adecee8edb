use Rattle.std.proofs.Common.{◌∙◌, ◌||◌, ap, arith}
use Rattle.pattern_vars.specs.Reads.{has}
use Rattle.ctl_table.proofs.EndAtomLemmas.{or-nothing, levels-falls, names-step, names-whole}
use Rattle.ctl_table.proofs.end_atoms.+put_names.Goals as goal

pub put_names-requires : goal.put_names-requires
put_names-requires t c =
    let w = levels-falls c.args.end_atoms.now c.in-Any.several c.as_slice-one-items.result.now c.loop-one.one-index c.one-item.result c.one-item.result
    c.in-Any.is c.as_slice-one-items.ensures c.loop-one-test.true c.one-item.is in
    (omega (arith, w), tt)

pub loop-one-init : goal.loop-one-init
loop-one-init t c = λ y. or-nothing (has c.args.names.now y)

pub loop-one-preserved : goal.loop-one-preserved
loop-one-preserved t c = λ y.
    names-step c.as_slice-one-items.result.now c.loop-one.one-index c.one-item.result c.one-item.result y
    (has c.args.names.now y) (has c.loop-one.names y) (has c.put_names.new.names y)
    c.loop-one-test.true c.one-item.is (c.loop-one.invariant y) (c.in_ok-put_names-in-Any.ensures y)

pub returns-after-loop-one : goal.returns-after-loop-one
returns-after-loop-one t c = λ y.
    c.loop-one.invariant y
    ∙ ap (λ z. has c.args.names.now y || z)
    (names-whole c.args.end_atoms.now c.in-Any.several c.as_slice-one-items.result.now c.loop-one.one-index y c.in-Any.is
    c.as_slice-one-items.ensures (omega arith))
