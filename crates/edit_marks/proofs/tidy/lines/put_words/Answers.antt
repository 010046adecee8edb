use Rattle.std.proofs.Common.{◌≡◌, ◌-◌, ℕ, List, sym, ap, ◌∙◌, take, drop, length}
use Rattle.edit_marks.proofs.Lines.{gap_left}
use Rattle.edit_marks.proofs.Tidied.WordLemmas.{words_more}
use Rattle.edit_marks.proofs.tidy.lines.put_words.Goals as goal

pub loop-word-preserved : goal.loop-word-preserved
loop-word-preserved c =
    let w = c.word-item.result in
    let bytes = c.as_bytes-gap.result.now in
    let k = c.min.result in
    let cut : take (length bytes - k) (drop k bytes) ≡ drop c.loop-word.lead w.gap =
    gap_left bytes c.loop-word.lead k c.min.ensures ∙ ap (drop c.loop-word.lead) c.as_bytes-gap.ensures.bytes in
    words_more c.args.words.now c.loop-word.word-index c.loop-word.lead w (take (length bytes - k) (drop k bytes)) c.loop-word.beside c.in_ok-beside.beside
    c.loop-word.out.items c.put_chunk.new.out.items _ c.loop-word-test.true c.word-item.is cut c.in_ok-beside.ensures.text c.in_ok-beside.ensures.beside
    c.loop-word.invariant
