use Rattle.std.proofs.Common.{sym, ◌∙◌}
use Rattle.std.specs.List.{list_any}
use Rattle.smpl_terms.specs.Values.{same}
use Rattle.env_sets.proofs.BoundLemmas.{any_same-along}
use Rattle.env_sets.proofs.LoneLemmas.{value_kept, value_dropped}
use Rattle.env_sets.proofs.lists.common.Goals as goal

pub loop-v-preserved-in-Continue-1 : goal.loop-v-preserved-in-Continue-1
loop-v-preserved-in-Continue-1 c = λ z.
    value_kept (λ y. list_any (λ w. same w y) c.args.ws.now) c.loop-v.kept.items _ c.loop-v.yielded c.in-Some.v z c.in_ok-push.ensures.items
    (λ s. any_same-along c.in-Some.v z s c.args.ws.now) (sym c.have.ensures.value ∙ c.if-have.true) (c.loop-v.invariant z)

pub loop-v-preserved-else-have : goal.loop-v-preserved-else-have
loop-v-preserved-else-have c = λ z.
    value_dropped (λ y. list_any (λ w. same w y) c.args.ws.now) c.loop-v.kept.items c.loop-v.yielded c.in-Some.v z
    (λ s. any_same-along c.in-Some.v z s c.args.ws.now) (sym c.have.ensures.value ∙ c.if-have.false) (c.loop-v.invariant z)
