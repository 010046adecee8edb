use Rattle.std.proofs.Common.{◌≡◌, false, sym, ap, ◌∙◌, List}
use Rattle.std.specs.Prelude.{None, Some}
use Rattle.edit_marks.specs.declared.tidy.edges.PlacedBlock.{PlacedBlock}
use Rattle.edit_marks.specs.declared.tidy.words.BlockWord.{BlockWord}
use Rattle.edit_marks.specs.Tidy.Brackets.{with_brackets, has_loose_word}
use Rattle.edit_marks.specs.Tidy.Neighbours.{left_of, right_of, words_in}
use Rattle.edit_marks.proofs.Tidied.BracketLemmas.{firm_same}
use Rattle.edit_marks.proofs.Tidied.SearchLemmas.{block_there}
use Rattle.edit_marks.proofs.tidy.edges.beside.Goals as goal

pub returns-then-has_loose_word : goal.returns-then-has_loose_word
returns-then-has_loose_word c = λ b at.
    (λ i. with_brackets (c.in_ok-found.ensures.left i) (c.in_ok-found.ensures.right i) (words_in (sym at i)))

pub returns : goal.returns
returns c = λ b at.
    let files = c.args.files.now in
    let removed = c.args.removed.now in
    let blocks = c.args.blocks.now in
    let number = c.args.number in
    let own = c.index-blocks-number.result in
    let there = block_there blocks number own c.requires.within c.index-blocks-number.is in
    let same : own.words ≡ b.words = ap words_in (sym there ∙ at) in
    let firm : has_loose_word b.words ≡ false = ap has_loose_word (sym (c.as_slice-words.ensures ∙ ap (λ (b : PlacedBlock). b.words) (sym c.index-blocks-number.is) ∙ same)) ∙ sym c.has_loose_word.ensures ∙ c.if-has_loose_word.false in
    firm_same b.words None None (left_of files removed blocks number) (right_of files removed blocks number) firm
    ∙ (λ i. with_brackets (left_of files removed blocks number) (right_of files removed blocks number) (words_in (sym at i)))
