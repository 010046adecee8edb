use Rattle.env_sets.proofs.GroupLemmas.{fixed_at, some_gives}
use Rattle.env_sets.proofs.groups.group_of.Goals as goal

pub returns : goal.returns
returns c = some_gives c.place_in_order.result _ c.place_in_order.ensures (λ k h.
    (h.0, fixed_at c.args.x.now c.args.values.now c.args.e.now c.in_ok-v.v.now k h.0 h.1 c.in_ok-v.ensures))
