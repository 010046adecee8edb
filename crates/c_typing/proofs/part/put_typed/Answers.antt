use Rattle.std.proofs.Common.{refl, ap, ◌∙◌}
use Rattle.c_types.proofs.TableLemmas.{typed-more, typed-end}
use Rattle.c_typing.proofs.part.put_typed.Goals as goal

pub loop-i-preserved : goal.loop-i-preserved
loop-i-preserved c = record {
  trees = typed-more c.loop-i.table.trees c.put_type.new.table.trees _ c.args.keys.now c.args.types.now c.loop-i.i _ _ _
      c.loop-i-test.true refl c.type_at.ensures (ap (λ t. t.trees) c.in_ok-put_type.ensures) c.loop-i.invariant.trees;
  locals = ap (λ t. t.locals) c.in_ok-put_type.ensures ∙ c.loop-i.invariant.locals;
}

pub returns : goal.returns
returns c =
    let trees = typed-end c.loop-i.table.trees _ c.args.keys.now c.args.types.now c.loop-i.i c.loop-i-test.false c.loop-i.invariant.trees in
    λ j. record { trees = trees j; locals = c.loop-i.invariant.locals j }
