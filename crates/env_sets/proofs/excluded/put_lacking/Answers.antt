use Rattle.std.proofs.Common.{◌||◌, arith}
use Rattle.std.specs.List.{list_any}
use Rattle.smpl_terms.specs.Values.{same}
use Rattle.env_sets.proofs.RunLemmas.{lacking_step}
use Rattle.env_sets.proofs.excluded.put_lacking.Goals as goal

pub loop-v-preserved : goal.loop-v-preserved
loop-v-preserved c = λ z.
    let known = list_any (λ v. same v z) c.args.values.now in
    lacking_step known (list_any (λ v. same v z) c.loop-v.out.items) (list_any (λ v. same v z) c.put_if_lacking.new.out.items)
    (known || list_any (λ v. same v z) c.args.out.now.items)
    c.args.items.now c.loop-v.v-index c.v-item.result z (omega arith) c.v-item.is (c.in_ok-put_if_lacking.ensures z) (c.loop-v.invariant z)
