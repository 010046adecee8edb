use Rattle.std.proofs.Common.{◌∙◌, ap, sym, subst, map, IsUtf8}
use Rattle.run_words.proofs.Texts.{more_same, more_text, no_text}
use Rattle.run_words.proofs.words.utf8_words.Goals as goal

pub returns-in-Err : goal.returns-in-Err
returns-in-Err c = no_text c.args.words.now c.loop-word.word-index c.word-item.result c.loop-word-test.true c.word-item.is
    (λ text. c.in-Err.ensures.cases.0 (subst IsUtf8 (sym c.as_bytes.ensures.bytes) text))

pub loop-word-preserved : goal.loop-word-preserved
loop-word-preserved c = record {
  same = ap (map (λ t. t.now)) c.in_ok-push-in-Ok.ensures.items
      ∙ more_same c.args.words.now c.loop-word.word-index c.word-item.result c.loop-word.texts.items c.in-Ok.text c.loop-word-test.true c.word-item.is
      (c.in-Ok.ensures.cases.0 ∙ c.as_bytes.ensures.bytes) c.loop-word.invariant.same;
  are_text = more_text c.args.words.now c.loop-word.word-index c.word-item.result c.loop-word-test.true c.word-item.is
      (subst IsUtf8 c.as_bytes.ensures.bytes c.in-Ok.ensures.cases.1) c.loop-word.invariant.are_text;
}
