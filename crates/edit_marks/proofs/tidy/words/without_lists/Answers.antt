use Rattle.std.proofs.Common.{◌∷◌, ◌-◌, ◌∙◌, ap, sym, arith, List, drop, length, take}
use Rattle.std.proofs.lemmas.List.{take_rest}
use Rattle.edit_marks.specs.declared.tidy.words.BlockWord.{BlockWord}
use Rattle.edit_marks.proofs.Lines.{next}
use Rattle.edit_marks.proofs.Tidied.WordLemmas.{kept_more}
use Rattle.edit_marks.proofs.tidy.words.without_lists.Goals as goal

pub words-preserved : goal.words-preserved
words-preserved c =
    let rest = c.words.rest.now in
    let word = c.word-item.result in
    kept_more c.words.closes c.is_comma_before_list-goes.result c.is_list_before_comma-takes.result c.closes_after-closes.result
    word rest (take (length rest - 1) (drop 1 rest)) c.without_first-rest.result.now c.words.kept.items c.put_unless.new.kept.items _
    (next rest 0 word (omega (arith, c.in-len1-up.len_at_least)) c.word-item.is ∙ ap (λ (l : List BlockWord). word ∷ l) (sym (take_rest rest 1)))
    c.is_comma_before_list-goes.ensures c.is_list_before_comma-takes.ensures c.in_ok-put_unless.ensures c.closes_after-closes.ensures
    c.without_first-rest.ensures c.words.invariant
