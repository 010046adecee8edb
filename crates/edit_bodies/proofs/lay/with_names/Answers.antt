use Rattle.std.proofs.Common.{arith}
use Rattle.edit_bodies.proofs.LayoutLemmas.{names_end, names_more}
use Rattle.edit_bodies.proofs.lay.with_names.Goals as goal

pub loop-i-preserved : goal.loop-i-preserved
loop-i-preserved c = record {
  names = names_more c.args.items.now c.loop-i.i c.index-items-i.result c.loop-i.names c.add_names.new.names (omega arith) c.index-items-i.is
      c.loop-i.invariant.names c.in_ok-add_names.ensures;
  within = omega arith;
}

pub returns-clause-names : goal.returns-clause-names
returns-clause-names c =
    names_end c.args.items.now c.loop-i.i c.args.item c.min-end.result c.loop-i.names c.min-end.ensures (omega arith) c.loop-i.invariant.within
    c.loop-i.invariant.names
