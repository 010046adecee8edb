use Rattle.std.proofs.Common.{ap, sym, ◌∙◌, List}
use Rattle.edit_marks.specs.declared.tidy.edges.PlacedBlock.{PlacedBlock}
use Rattle.edit_marks.specs.declared.tidy.words.BlockWord.{BlockWord}
use Rattle.edit_marks.specs.Tidy.Brackets.{with_brackets}
use Rattle.edit_marks.proofs.Tidied.SearchLemmas.{block_there}
use Rattle.edit_marks.proofs.tidy.edges.words_at.Goals as goal

pub returns : goal.returns
returns c =
    let own = c.index-blocks-number.result in
    c.in_ok-all.ensures
    ∙ ap (λ (ws : List BlockWord). with_brackets c.in_ok-around.around.left c.in_ok-around.around.right ws)
    (c.as_slice-words.ensures ∙ ap (λ (b : PlacedBlock). b.words) (sym c.index-blocks-number.is))
    ∙ c.in_ok-around.ensures own (block_there c.args.blocks.now c.args.number own c.requires.within c.index-blocks-number.is)
