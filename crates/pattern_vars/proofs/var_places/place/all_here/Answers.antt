use Rattle.std.proofs.Common.{◌++◌, ap, arith, List}
use Rattle.smpl_terms.specs.declared.var.Var.{Var}
use Rattle.pattern_vars.specs.VarPlaces.Homes.{all_here}
use Rattle.pattern_vars.proofs.VarPlaces.ScopeLemmas.{around-step, around-end}
use Rattle.pattern_vars.proofs.var_places.place.all_here.Goals as goal

pub loop-share-init : goal.loop-share-init
loop-share-init c = ap (λ (z : List Var). z ++ all_here c.args.shares.now) c.new-all.ensures.items

pub loop-share-preserved : goal.loop-share-preserved
loop-share-preserved c =
    around-step c.args.shares.now c.loop-share.share-index c.share-item.result c.as_slice.result.now c.loop-share.all.items c.append.new.all.items
    (all_here c.args.shares.now) c.loop-share-test.true c.share-item.is c.as_slice.ensures c.in_ok-append.ensures c.loop-share.invariant

pub returns : goal.returns
returns c = around-end c.args.shares.now c.loop-share.share-index c.loop-share.all.items (all_here c.args.shares.now) (omega arith) c.loop-share.invariant
