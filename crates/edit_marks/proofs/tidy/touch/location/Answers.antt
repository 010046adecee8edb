use Rattle.std.proofs.Common.{◌≡◌, sym, ap, ◌∙◌}
use Rattle.edit_marks.specs.EditWalk.Named.{tree_of}
use Rattle.edit_marks.specs.EditWalk.WalkContexts.{patterns_at}
use Rattle.edit_marks.specs.Tidy.Touch.{depth_at, inside_at}
use Rattle.edit_marks.proofs.tidy.touch.location.Goals as goal

pub returns-clause-touch : goal.returns-clause-touch
returns-clause-touch c = λ t item atom path.
    let walk = c.args.context.now.walk in
    let patterns = patterns_at walk in
    λ i. record {
      tree = (c.tree_of.ensures ∙ ap (tree_of walk.items.now) (sym item)) i;
      path = (c.steps.ensures.steps ∙ sym path) i;
      depth = (c.depth_at.ensures ∙ ap (depth_at patterns c.args.context.now.depths.now) (sym atom)) i;
      inside = (c.is_inside_at.ensures ∙ ap (inside_at patterns) (sym atom)) i;
    }
