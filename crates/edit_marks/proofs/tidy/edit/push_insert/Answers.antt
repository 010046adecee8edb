use Rattle.std.proofs.Common.{◌≡◌, ◌<◌, List, [], ◌∷◌, ◌++◌, sym, ap, subst, ◌∙◌, length}
use Rattle.std.specs.Prelude.{Option, None, Some, slice_get}
use Rattle.std.proofs.lemmas.List.{append-nil}
use Rattle.edit_marks.specs.declared.edit_conflict.edit.Insert.{Insert}
use Rattle.edit_marks.specs.declared.file_tokens.FileToken.{FileToken}
use Rattle.edit_marks.specs.declared.tidy.edges.PlacedBlock.{PlacedBlock}
use Rattle.edit_marks.specs.declared.tidy.words.BlockWord.{BlockWord}
use Rattle.edit_marks.specs.Tidy.Edits.{touch_of, insert_if, insert_with, inserts_at}
use Rattle.edit_marks.proofs.Tidied.EditLemmas.{some_within}
use Rattle.edit_marks.proofs.Tidied.SearchLemmas.{block_there}
use Rattle.edit_marks.proofs.tidy.edit.push_insert.Goals as goal

same_block : (a b : PlacedBlock) → Some a ≡ Some b → a ≡ b
same_block a b e = cc

pub words_at-requires-clause-in_text : goal.words_at-requires-clause-in_text
words_at-requires-clause-in_text c = λ b at.
    let own = c.index-blocks-number.result in
    let there = block_there c.args.blocks.now c.args.number own c.requires.within c.index-blocks-number.is in
    let same = same_block own b (sym there ∙ at) in
    let files = c.args.at.now.files.now in
    subst (λ (x : PlacedBlock). x.spot.token < length files) same
    (some_within files own.spot.token c.in-Some.file (sym c.in_ok-found.ensures ∙ c.in-Some.is))

pub returns-in_ok-push-in-Some : goal.returns-in_ok-push-in-Some
returns-in_ok-push-in-Some c =
    let at = c.args.at.now in
    let t = touch_of at in
    let ids = at.ids.now in
    let files = at.files.now in
    let removed = c.args.removed.now in
    let blocks = c.args.blocks.now in
    let number = c.args.number in
    let own = c.index-blocks-number.result in
    let file = c.in-Some.file in
    let old = c.args.inserts.now.items in
    let there = block_there blocks number own c.requires.within c.index-blocks-number.is in
    c.in_ok-push-in-Some.ensures.items
    ∙ ap (λ (i : Insert). old ++ i ∷ []) (c.in_ok-insert-in-Some.ensures
    ∙ ap (λ (ws : List BlockWord). insert_with ids files t removed ws own file) (c.deref.ensures.value ∙ c.in_ok-words-in-Some.ensures))
    ∙ sym (ap (λ (o : Option PlacedBlock). old ++ inserts_at ids files t removed blocks number o) there
    ∙ ap (λ (o : Option FileToken). old ++ insert_if ids files t removed blocks number own o) (sym c.in_ok-found.ensures ∙ c.in-Some.is))

pub returns-in-None : goal.returns-in-None
returns-in-None c =
    let at = c.args.at.now in
    let t = touch_of at in
    let blocks = c.args.blocks.now in
    let own = c.index-blocks-number.result in
    let old = c.args.inserts.now.items in
    let there = block_there blocks c.args.number own c.requires.within c.index-blocks-number.is in
    sym (ap (λ (o : Option PlacedBlock). old ++ inserts_at at.ids.now at.files.now t c.args.removed.now blocks c.args.number o) there
    ∙ ap (λ (o : Option FileToken). old ++ insert_if at.ids.now at.files.now t c.args.removed.now blocks c.args.number own o)
    (sym c.in_ok-found.ensures ∙ c.in-None.is)
    ∙ append-nil old)
