use Rattle.std.proofs.Common.{◌≤◌, ◌∙◌, length, arith}
use Rattle.run_words.proofs.FormLemmas.{has_none, has_value}
use Rattle.run_words.proofs.word.named.Goals as goal

pub returns-then-end-text : goal.returns-then-end-text
returns-then-end-text c =
    c.with_value.ensures ∙ has_value c.args.text.now c.equals_sign-end.result c.equals_sign-end.ensures.first c.if-end-text.true

pub returns : goal.returns
returns c =
    let more : length c.args.text.now ≤ c.equals_sign-end.result = omega (arith, c.if-end-text.false) in
    c.without_value.ensures ∙ has_none c.args.text.now c.equals_sign-end.result c.equals_sign-end.ensures.first more
