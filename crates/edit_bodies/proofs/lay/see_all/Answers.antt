use Rattle.std.proofs.Common.{ap, sym, ◌∙◌, rules}
use Rattle.edit_bodies.specs.Laid.{names_at}
use Rattle.edit_bodies.proofs.OutcomeLemmas.{sees_end, sees_more, sees_none}
use Rattle.edit_bodies.proofs.lay.see_all.Goals as goal

pub loop-body-init : goal.loop-body-init
loop-body-init c = record {
  names = search rules;
  sees = sees_none c.args.scene.now c.args.items.now _ c.requires;
}

pub loop-body-preserved : goal.loop-body-preserved
loop-body-preserved c = record {
  names = c.in_ok-known.ensures.names ∙ ap (names_at c.args.items.now) (sym c.in_ok-known.ensures.count);
  sees = sees_more c.args.scene.now c.args.items.now c.as_slice-bodies.result.now c.loop-body.body-index c.body-item.result _ c.loop-body.seen _
      c.loop-body-test.true c.body-item.is c.in_ok-known.ensures.names c.loop-body.invariant.sees c.in_ok-seen.ensures;
}

pub returns : goal.returns
returns c =
    sees_end c.args.scene.now c.args.items.now c.as_slice-bodies.result.now _ c.loop-body.body-index c.loop-body.seen c.loop-body-test.false
    c.as_slice-bodies.ensures.value c.loop-body.invariant.sees
