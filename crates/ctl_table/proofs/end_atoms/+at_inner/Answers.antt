use Rattle.std.proofs.Common.{arith, length}
use Rattle.ctl_table.proofs.EndAtomLemmas.{end_atoms-stands, levels-falls}
use Rattle.ctl_table.proofs.EndLemmas.{each_end_atoms-item, several-below, several-step, several-made}
use Rattle.ctl_table.proofs.end_atoms.+at_inner.Goals as goal

pub at_inner-requires : goal.at_inner-requires
at_inner-requires t c = (
  (
      let w = levels-falls c.args.end_atoms.now c.in-Any.several c.as_slice-one-items.result.now c.loop-one.one-index c.one-item.result c.one-item.result
      c.in-Any.is c.as_slice-one-items.ensures c.loop-one-test.true c.one-item.is in
      omega (arith, w)
      ),
  end_atoms-stands c.args.parts.now c.loop-one.parts c.loop-one.invariant.grows c.one-item.result
      (each_end_atoms-item (length c.args.parts.now) c.as_slice-one-items.result.now c.loop-one.one-index c.one-item.result
      c.one-item.result c.loop-one-test.true c.one-item.is
      (several-below (length c.args.parts.now) c.args.end_atoms.now c.in-Any.several c.as_slice-one-items.result.now c.in-Any.is
      c.as_slice-one-items.ensures c.requires)),
)

pub loop-one-preserved : goal.loop-one-preserved
loop-one-preserved t c =
    several-step c.args.parts.now c.loop-one.parts c.at_inner.new.parts c.args.inner.now c.as_slice-one-items.result.now
    c.loop-one.one-index c.one-item.result c.one-item.result
    c.loop-one.found.items c.push_some.new.found.items c.in_ok-f-in-Any.f c.loop-one-test.true c.one-item.is c.in_ok-push_some-in-Any.ensures
    (several-below (length c.args.parts.now) c.args.end_atoms.now c.in-Any.several c.as_slice-one-items.result.now c.in-Any.is
    c.as_slice-one-items.ensures c.requires)
    c.loop-one.invariant c.in_ok-f-in-Any.ensures.made

pub returns-after-loop-one : goal.returns-after-loop-one
returns-after-loop-one t c = record {
  made = several-made c.args.parts.now c.loop-one.parts c.or_some.new.parts c.args.inner.now c.args.end_atoms.now
      c.in-Any.several c.as_slice-one-items.result.now
      c.loop-one.one-index c.loop-one.found.items c.as_slice-in-Any.result.now c.or_some.result c.in-Any.is c.as_slice-one-items.ensures (omega arith)
      c.as_slice-in-Any.ensures.value c.loop-one.invariant c.or_some.ensures.made;
}
