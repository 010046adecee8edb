use Rattle.std.proofs.Common.{◌-◌, ℕ, ap, sym, ◌∙◌, take}
use Rattle.edit_marks.specs.declared.insert.Anchor.{Anchor}
use Rattle.edit_marks.specs.Tidy.Reach.{reach_of}
use Rattle.edit_marks.proofs.Tidied.PlaceLemmas.{take_node, take_removed}
use Rattle.edit_marks.proofs.tidy.place.reach_of.Goals as goal

pub returns-in-Removed-clause-reach : goal.returns-in-Removed-clause-reach
returns-in-Removed-clause-reach c =
    let path = c.args.path.now in
    let tree = c.args.tree.now in
    ap (λ (n : ℕ). take n path) (c.saturating_sub.ensures ∙ ap (λ (n : ℕ). n - c.args.depth.removed) c.node_depth.ensures.depth)
    ∙ take_removed tree path c.args.depth.removed
    ∙ sym (ap (λ (a : Anchor). reach_of a c.args.is_inside c.args.depth tree path) c.in-Removed.is)

pub returns-in-BeforeToken-clause-reach : goal.returns-in-BeforeToken-clause-reach
returns-in-BeforeToken-clause-reach c =
    let path = c.args.path.now in
    let tree = c.args.tree.now in
    ap (λ (n : ℕ). take n path) c.node_depth-in-BeforeToken.ensures.depth ∙ take_node tree path
    ∙ sym (ap (λ (a : Anchor). reach_of a c.args.is_inside c.args.depth tree path) c.in-BeforeToken.is)
