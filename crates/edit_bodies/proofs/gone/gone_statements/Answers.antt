use Rattle.std.proofs.Common.{List, ap, length, map, subst, sym, ◌∙◌}
use Rattle.std.specs.Prelude.{All, filter}
use Rattle.edit_marks.specs.declared.tidy.shape.LeafRange.{LeafRange}
use Rattle.edit_unparse.specs.Output.{is_removed}
use Rattle.edit_bodies.specs.Gone.{IsProper, extent_of, is_gone, outermost}
use Rattle.edit_bodies.proofs.GoneLemmas.{all_proper, found_gone}
use Rattle.edit_bodies.proofs.gone.gone_statements.Goals as goal

pub outermost-requires : goal.outermost-requires
outermost-requires c =
    let leaves = c.as_slice-leaves.result.now in
    subst (λ (l : List LeafRange). All (IsProper (length leaves)) l)
    (sym (found_gone c.args.edits.now leaves c.as_slice-statements.result.now c.as_slice-ranges.result.now c.in_ok-gone.gone.items
    c.as_slice-flags.result.now c.in_ok-removed.removed.items c.in_ok-counts.counts.items c.as_slice-stays.result.now c.count_for.result
    c.count_for.ensures c.in_ok-removed.ensures.flags c.as_slice-flags.ensures.value c.in_ok-counts.ensures c.as_slice-stays.ensures.value
    c.in_ok-gone.ensures c.as_slice-ranges.ensures.value))
    (all_proper (λ n. is_removed n c.args.edits.now) leaves c.as_slice-statements.result.now)

pub returns : goal.returns
returns c =
    let leaves = c.as_slice-leaves.result.now in
    let gone = found_gone c.args.edits.now leaves c.as_slice-statements.result.now c.as_slice-ranges.result.now c.in_ok-gone.gone.items
    c.as_slice-flags.result.now c.in_ok-removed.removed.items c.in_ok-counts.counts.items c.as_slice-stays.result.now c.count_for.result
    c.count_for.ensures c.in_ok-removed.ensures.flags c.as_slice-flags.ensures.value c.in_ok-counts.ensures c.as_slice-stays.ensures.value
    c.in_ok-gone.ensures c.as_slice-ranges.ensures.value in
    c.in_ok-found.ensures
    ∙ ap (map (extent_of leaves)) (c.as_slice-whole.ensures.value ∙ c.in_ok-outer.ensures ∙ ap outermost gone)
    ∙ (λ i. map (extent_of (c.as_slice-leaves.ensures.value i)) (outermost
    (filter (is_gone (λ n. is_removed n c.args.edits.now) (c.as_slice-leaves.ensures.value i)) (c.as_slice-statements.ensures.value i))))
