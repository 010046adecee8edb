use Rattle.std.proofs.Common.{ap, sym, ◌∙◌}
use Rattle.edit_marks.specs.declared.tidy.edges.PlacedBlock.{PlacedBlock}
use Rattle.edit_marks.proofs.Tidied.SearchLemmas.{block_there, left_start, right_start, left_is, right_is}
use Rattle.edit_marks.proofs.tidy.edges.outside.Goals as goal

pub left_token-requires-clause-from : goal.left_token-requires-clause-from
left_token-requires-clause-from c =
    let blocks = c.args.blocks.now in
    let own = c.index-blocks-number.result in
    let is = c.search_at-before.ensures in
    left_start c.args.files.now c.args.removed.now blocks c.requires.in_place c.args.number own c.search_at-before.result c.requires.within c.index-blocks-number.is
    (c.requires.in_text own (block_there blocks c.args.number own c.requires.within c.index-blocks-number.is)) is.next
    (is.token ∙ ap (λ (b : PlacedBlock). b.spot.token) (sym c.index-blocks-number.is))
    (is.after ∙ ap (λ (b : PlacedBlock). b.spot.after) (sym c.index-blocks-number.is))

pub right_token-requires-clause-from : goal.right_token-requires-clause-from
right_token-requires-clause-from c =
    let blocks = c.args.blocks.now in
    let own = c.index-blocks-number.result in
    let is = c.search_at-behind.ensures in
    right_start c.args.files.now c.args.removed.now blocks c.requires.in_place c.args.number own c.search_at-behind.result c.requires.within
    c.index-blocks-number.is
    (c.requires.in_text own (block_there blocks c.args.number own c.requires.within c.index-blocks-number.is)) is.next
    (is.token ∙ ap (λ (b : PlacedBlock). b.spot.token) (sym c.index-blocks-number.is))
    (is.after ∙ ap (λ (b : PlacedBlock). b.spot.after) (sym c.index-blocks-number.is))

pub returns-clause-left : goal.returns-clause-left
returns-clause-left c =
    let is = c.search_at-before.ensures in
    c.in_ok-left.ensures
    ∙ left_is c.args.files.now c.args.removed.now c.args.blocks.now c.args.number c.index-blocks-number.result c.search_at-before.result c.requires.within
    c.index-blocks-number.is is.next
    (is.token ∙ ap (λ (b : PlacedBlock). b.spot.token) (sym c.index-blocks-number.is))
    (is.after ∙ ap (λ (b : PlacedBlock). b.spot.after) (sym c.index-blocks-number.is))

pub returns-clause-right : goal.returns-clause-right
returns-clause-right c =
    let is = c.search_at-behind.ensures in
    c.in_ok-right.ensures
    ∙ right_is c.args.files.now c.args.removed.now c.args.blocks.now c.args.number c.index-blocks-number.result c.search_at-behind.result c.requires.within
    c.index-blocks-number.is is.next
    (is.token ∙ ap (λ (b : PlacedBlock). b.spot.token) (sym c.index-blocks-number.is))
    (is.after ∙ ap (λ (b : PlacedBlock). b.spot.after) (sym c.index-blocks-number.is))
