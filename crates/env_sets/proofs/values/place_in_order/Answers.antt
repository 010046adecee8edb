use Rattle.std.proofs.Common.{◌≡◌, ◌+◌, ◌-◌, ◌/◌, false, subst, sym, arith, drop}
use Rattle.std.specs.List.{list_any}
use Rattle.smpl_terms.specs.Values.{same}
use Rattle.env_sets.proofs.RisingLemmas.{front_misses_at, back_misses, parts_miss, here_at}
use Rattle.env_sets.proofs.values.place_in_order.Goals as goal

pub loop-low-preserved-in-Less : goal.loop-low-preserved-in-Less
loop-low-preserved-in-Less c = record {
  order = omega arith;
  within = c.loop-low.invariant.within;
  front = front_misses_at c.args.items.now (c.loop-low.low + (c.loop-low.high - c.loop-low.low) / 2)
      (c.loop-low.low + (c.loop-low.high - c.loop-low.low) / 2 + 1) c.index-items-middle.result c.args.v.now
      c.requires (omega arith) c.index-items-middle.is (sym c.in-Less.ensures.value) (omega arith);
  back = c.loop-low.invariant.back;
}

pub loop-low-preserved : goal.loop-low-preserved
loop-low-preserved c = record {
  order = omega arith;
  within = omega arith;
  front = c.loop-low.invariant.front;
  back = back_misses c.args.items.now (c.loop-low.low + (c.loop-low.high - c.loop-low.low) / 2) c.index-items-middle.result c.args.v.now
      c.requires (omega arith) c.index-items-middle.is (sym c.in-Greater.ensures.value);
}

pub returns-in-Equal : goal.returns-in-Equal
returns-in-Equal c = (
  omega arith,
  here_at c.index-items-middle.result c.args.v.now c.args.items.now
      (c.loop-low.low + (c.loop-low.high - c.loop-low.low) / 2) (omega arith) c.index-items-middle.is (sym c.in-Equal.ensures.value),
)

pub returns : goal.returns
returns c =
    let met : c.loop-low.high ≡ c.loop-low.low = omega (arith, c.loop-low.invariant.order) in
    sym (parts_miss c.args.items.now c.loop-low.low c.args.v.now c.loop-low.invariant.front
    (subst (λ n. list_any (λ w. same w c.args.v.now) (drop n c.args.items.now) ≡ false) met c.loop-low.invariant.back))
