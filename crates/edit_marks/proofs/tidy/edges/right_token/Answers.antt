use Rattle.std.proofs.Common.{◌≡◌, refl, subst, ◌∙◌}
use Rattle.edit_marks.specs.Tidy.Searches.{GoesRight, IsRightStep}
use Rattle.edit_marks.proofs.tidy.edges.right_token.Goals as goal

pub returns-in-Found : goal.returns-in-Found
returns-in-Found c =
    subst (IsRightStep c.args.files.now c.args.removed.now c.args.blocks.now c.steps.at) c.in-Found.is c.in_ok-text.ensures
    ∙ c.steps.invariant.same

pub steps-preserved : goal.steps-preserved
steps-preserved c =
    let go : GoesRight c.args.files.now c.args.removed.now c.args.blocks.now c.steps.at c.in-Go.next =
    subst (IsRightStep c.args.files.now c.args.removed.now c.args.blocks.now c.steps.at) c.in-Go.is c.in_ok-text.ensures in
    record { place = go.search; same = go.same ∙ c.steps.invariant.same }

pub steps-smaller : goal.steps-smaller
steps-smaller c =
    let go : GoesRight c.args.files.now c.args.removed.now c.args.blocks.now c.steps.at c.in-Go.next =
    subst (IsRightStep c.args.files.now c.args.removed.now c.args.blocks.now c.steps.at) c.in-Go.is c.in_ok-text.ensures in
    go.less

pub steps-init : goal.steps-init
steps-init c = record { place = c.requires.from; same = refl }
