use Rattle.std.proofs.Common.{ap, ◌∙◌, sym, subst, arith, take, length}
use Rattle.env_sets.specs.Splits.{AreRestrictions}
use Rattle.env_sets.proofs.PartLemmas.{parts_more, written_back}
use Rattle.env_sets.proofs.parts.restrictions.Goals as goal

pub loop-e-init : goal.loop-e-init
loop-e-init c = (c.in_ok-parts.ensures.count, λ k v lt at. c.in_ok-parts.ensures.empty k)

pub loop-e-preserved : goal.loop-e-preserved
loop-e-preserved c =
    let old = c.loop-e.invariant in
    let new = c.in_ok-put_where_allowed.ensures (take c.loop-e.e-index c.args.a.now)
    (subst (λ ps. AreRestrictions c.args.x.now c.args.values.now (take c.loop-e.e-index c.args.a.now) ps) (sym c.deref_mut.ensures.value) old) in
    let h = c.deref_mut.ensures in
    parts_more c.args.x.now c.args.values.now c.args.a.now c.loop-e.e-index c.e-item.result c.put_where_allowed.new.parts _ (omega arith) c.e-item.is
    (written_back c.put_where_allowed.new.parts c.loop-e.parts.items c.loop-e.parts.len (sym h.len ∙ ap length h.value ∙ old.0 ∙ sym new.0)) new
