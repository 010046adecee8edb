use Rattle.std.proofs.Common.{◌≡◌, ℕ, Bool, sym, ap, ◌∙◌, take}
use Rattle.edit_marks.specs.Tidy.Reach.{reach_after}
use Rattle.edit_marks.proofs.Tidied.PlaceLemmas.{take_node}
use Rattle.edit_marks.proofs.tidy.place.reach_after.Goals as goal

pub returns-then-is_inside-clause-reach : goal.returns-then-is_inside-clause-reach
returns-then-is_inside-clause-reach c =
    ap (λ (n : ℕ). take n c.args.path.now) c.node_depth.ensures.depth ∙ take_node c.args.tree.now c.args.path.now
    ∙ sym (ap (λ (b : Bool). reach_after b c.args.depth c.args.tree.now c.args.path.now) c.if-is_inside.true)

pub returns-clause-reach : goal.returns-clause-reach
returns-clause-reach c =
    let path = c.args.path.now in
    ap (λ (n : ℕ). take n path) c.saturating_sub.ensures
    ∙ sym (ap (λ (b : Bool). reach_after b c.args.depth c.args.tree.now path) c.if-is_inside.false)
