use Rattle.std.proofs.Common.{◌≡◌, ◌<◌, ◌-◌, ◌==◌, ℕ, Bool, true, false, refl, sym, ap, subst, ◌∙◌, arith, List}
use Rattle.std.specs.Prelude.{Option, None}
use Rattle.std.specs.List.{list_any}
use Rattle.edit_marks.specs.declared.tidy.edges.PlacedBlock.{PlacedBlock}
use Rattle.edit_marks.specs.declared.tidy.edges.Search.{Search}
use Rattle.edit_marks.specs.declared.tidy.edges.Step.{Step}
use Rattle.edit_marks.specs.Tidy.Layout.{last_word}
use Rattle.edit_marks.specs.Tidy.Searches.{is_left_here, found_or, IsLeftStep}
use Rattle.edit_marks.proofs.Tidied.SearchLemmas.{left_here, left_block, left_kept, left_gone, left_end, left_next}
use Rattle.edit_marks.proofs.tidy.edges.left_step.Goals as goal

pub overflow_sub-next : goal.overflow_sub-next
overflow_sub-next c = let some = left_here c.args.blocks.now c.args.at (sym c.is_left_here.ensures ∙ c.if-is_left_here.true) in omega (arith, some)

pub bounds-blocks-next : goal.bounds-blocks-next
bounds-blocks-next c =
    let some = left_here c.args.blocks.now c.args.at (sym c.is_left_here.ensures ∙ c.if-is_left_here.true) in omega (arith, some, c.requires.at.next)

pub returns-then-is_left_here : goal.returns-then-is_left_here
returns-then-is_left_here c =
    let at = c.args.at in
    let own = c.index-blocks-next.result in
    let q : Search = record at { next = at.next - 1 } in
    let is : c.in_ok-step.step ≡ found_or (last_word None own.words) q =
    c.in_ok-step.ensures ∙ ap (λ (o : Option (List ℕ)). found_or o q) (c.last_token.ensures ∙ ap (last_word None) (c.as_slice-words.ensures ∙ ap (λ (b : PlacedBlock). b.words) (sym c.index-blocks-next.is))) in
    subst (IsLeftStep c.args.files.now c.args.removed.now c.args.blocks.now at) (sym is)
    (left_block c.args.files.now c.args.removed.now c.args.blocks.now c.requires.in_place at q own c.requires.at
    (sym c.is_left_here.ensures ∙ c.if-is_left_here.true) refl refl refl c.index-blocks-next.is)

pub returns-then-not-is_removed : goal.returns-then-not-is_removed
returns-then-not-is_removed c =
    c.in_ok-text.ensures
    ∙ left_kept c.args.files.now c.args.removed.now c.args.blocks.now c.requires.in_place c.args.at c.requires.at
    (sym c.is_left_here.ensures ∙ c.if-is_left_here.false) c.if-at.true (sym c.is_removed.ensures ∙ c.if-not-is_removed.true)

pub returns-then-at : goal.returns-then-at
returns-then-at c =
    left_gone c.args.files.now c.args.removed.now c.args.blocks.now c.requires.in_place c.args.at _ c.requires.at
    (sym c.is_left_here.ensures ∙ c.if-is_left_here.false) c.if-at.true (sym c.is_removed.ensures ∙ c.if-not-is_removed.false) refl refl refl

pub returns-then-at-eq0 : goal.returns-then-at-eq0
returns-then-at-eq0 c =
    left_end c.args.files.now c.args.removed.now c.args.blocks.now c.requires.in_place c.args.at c.requires.at
    (sym c.is_left_here.ensures ∙ c.if-is_left_here.false) c.if-at.false c.if-at-eq0.true

pub returns : goal.returns
returns c =
    left_next c.args.files.now c.args.removed.now c.args.blocks.now c.requires.in_place c.args.at _ c.requires.at
    (sym c.is_left_here.ensures ∙ c.if-is_left_here.false) c.if-at.false (omega arith) refl refl refl
