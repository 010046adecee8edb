use Rattle.std.proofs.Common.{◌≡◌, sym, ap, ◌∙◌, length}
use Rattle.edit_marks.proofs.Tidied.WordLemmas.{word_more}
use Rattle.edit_marks.proofs.tidy.words.put_line_words.Goals as goal

pub loop-i-preserved : goal.loop-i-preserved
loop-i-preserved c =
    let gaps = c.as_slice-gaps.result.now in
    let tokens = c.as_slice-tokens.result.now in
    let even : length gaps ≡ length tokens = ap length c.as_slice-gaps.ensures ∙ c.requires ∙ ap length (sym c.as_slice-tokens.ensures) in
    record {
      end = c.loop-i.invariant.end;
      written = word_more c.args.decls.now c.args.env.now c.args.number gaps tokens c.loop-i.i c.index-gaps-i.result c.index-tokens-i.result c.in_ok-word.word
          c.loop-i.words.items c.push.new.self.items _ c.loop-i-test.true even c.index-tokens-i.is c.index-gaps-i.is c.in_ok-word.ensures
          c.in_ok-push.ensures.items c.loop-i.invariant.written;
    }
