use Rattle.std.proofs.Common.{◌≡◌, ◌≤◌, ◌<◌, ◌+◌, ◌==◌, ℕ, Bool, true, false, refl, sym, ap, subst, ◌∙◌, arith, List, length}
use Rattle.std.specs.Prelude.{Option, None}
use Rattle.std.specs.List.{list_any}
use Rattle.edit_marks.specs.declared.tidy.edges.PlacedBlock.{PlacedBlock}
use Rattle.edit_marks.specs.declared.tidy.edges.Search.{Search}
use Rattle.edit_marks.specs.declared.tidy.edges.Step.{Step}
use Rattle.edit_marks.specs.Tidy.Brackets.{first_token}
use Rattle.edit_marks.specs.Tidy.Searches.{is_right_here, found_or, IsRightStep}
use Rattle.edit_marks.proofs.Tidied.SearchLemmas.{right_here, right_block, right_kept, right_gone, right_end, right_next}
use Rattle.edit_marks.proofs.Tidied.PlaceOrder.{not_true, not_false}
use Rattle.edit_marks.proofs.tidy.edges.right_step.Goals as goal

pub overflow_add-behind : goal.overflow_add-behind
overflow_add-behind c =
    let within = right_here c.args.blocks.now c.args.at (sym c.is_right_here.ensures ∙ c.if-is_right_here.true) in omega (arith, within)

pub bounds-blocks-next : goal.bounds-blocks-next
bounds-blocks-next c =
    let within = right_here c.args.blocks.now c.args.at (sym c.is_right_here.ensures ∙ c.if-is_right_here.true) in omega (arith, within)

pub returns-then-is_right_here : goal.returns-then-is_right_here
returns-then-is_right_here c =
    let at = c.args.at in
    let own = c.index-blocks-next.result in
    let q : Search = record at { next = at.next + 1 } in
    let is : c.in_ok-step.step ≡ found_or (first_token own.words None) q =
    c.in_ok-step.ensures
    ∙ ap (λ (o : Option (List ℕ)). found_or o q) (c.first_token.ensures ∙ ap (λ ws. first_token ws None) (c.as_slice-words.ensures ∙ ap (λ (b : PlacedBlock). b.words) (sym c.index-blocks-next.is))) in
    subst (IsRightStep c.args.files.now c.args.removed.now c.args.blocks.now at) (sym is)
    (right_block c.args.files.now c.args.removed.now c.args.blocks.now c.requires.in_place at q own c.requires.at
    (sym c.is_right_here.ensures ∙ c.if-is_right_here.true) refl refl refl c.index-blocks-next.is)

pub returns-then-not-is_removed : goal.returns-then-not-is_removed
returns-then-not-is_removed c =
    c.in_ok-text.ensures
    ∙ right_kept c.args.files.now c.args.removed.now c.args.blocks.now c.requires.in_place c.args.at c.requires.at
    (sym c.is_right_here.ensures ∙ c.if-is_right_here.false) (not_true c.args.at.after c.if-not-at.true) (sym c.is_removed.ensures ∙ c.if-not-is_removed.true)

pub returns-then-not-at : goal.returns-then-not-at
returns-then-not-at c =
    right_gone c.args.files.now c.args.removed.now c.args.blocks.now c.requires.in_place c.args.at _ c.requires.at
    (sym c.is_right_here.ensures ∙ c.if-is_right_here.false) (not_true c.args.at.after c.if-not-at.true) (sym c.is_removed.ensures ∙ c.if-not-is_removed.false) refl refl refl

pub returns-then-left-eq1 : goal.returns-then-left-eq1
returns-then-left-eq1 c =
    right_end c.args.files.now c.args.removed.now c.args.blocks.now c.requires.in_place c.args.at c.requires.at
    (sym c.is_right_here.ensures ∙ c.if-is_right_here.false) (not_false c.args.at.after c.if-not-at.false) (omega arith)

pub returns : goal.returns
returns c =
    right_next c.args.files.now c.args.removed.now c.args.blocks.now c.requires.in_place c.args.at _ c.requires.at
    (sym c.is_right_here.ensures ∙ c.if-is_right_here.false) (not_false c.args.at.after c.if-not-at.false) (omega (arith, c.requires.at.token)) refl refl refl
