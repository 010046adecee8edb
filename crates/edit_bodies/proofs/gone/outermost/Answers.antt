use Rattle.std.proofs.Common.{List, ℕ, ap, length, not, subst, sym, ◌∙◌}
use Rattle.std.specs.List.{list_any}
use Rattle.edit_bodies.specs.Gone.{AreEnds, AreEndsBefore, is_around}
use Rattle.edit_bodies.proofs.GoneLemmas.{begins_within, ends_behind, filter_push}
use Rattle.edit_bodies.proofs.gone.outermost.Goals as goal

pub is_outer-requires : goal.is_outer-requires
is_outer-requires c = record {
  ends = begins_within c.args.count c.args.ranges.now c.loop-range.range-index _ c.in_ok-farthest.farthest.items c.as_slice-ends.result.now c.requires
      c.loop-range-test.true c.in_ok-farthest.ensures.len c.as_slice-ends.ensures.value;
  before = begins_within c.args.count c.args.ranges.now c.loop-range.range-index _ c.in_ok-earlier.earlier.items c.as_slice-before.result.now c.requires
      c.loop-range-test.true (c.in_ok-earlier.ensures.len ∙ ap length c.as_slice-ends.ensures.value ∙ c.in_ok-farthest.ensures.len)
      c.as_slice-before.ensures.value;
}

pub loop-range-preserved : goal.loop-range-preserved
loop-range-preserved c =
    let ranges = c.args.ranges.now in
    let ends : AreEnds ranges c.as_slice-ends.result.now =
    subst (λ (l : List ℕ). AreEnds ranges l) (sym c.as_slice-ends.ensures.value) c.in_ok-farthest.ensures.ends in
    let before : AreEndsBefore ranges c.as_slice-before.result.now =
    subst (λ (l : List ℕ). AreEndsBefore ranges l) (sym c.as_slice-before.ensures.value) (c.in_ok-earlier.ensures.ends ranges ends) in
    filter_push (λ r. not (list_any (λ a. is_around a r) ranges)) ranges c.loop-range.range-index _ c.is_outer.result c.loop-range.outer.items
    c.push_if.new.ranges.items c.loop-range-test.true
    (c.is_outer.ensures ranges ends before (ends_behind c.args.count ranges c.loop-range.range-index _ c.requires c.loop-range-test.true))
    c.in_ok-push_if.ensures c.loop-range.invariant
