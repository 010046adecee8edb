use Rattle.std.proofs.Common.{◌<◌, arith, length}
use Rattle.c_terms.specs.Names.{has_name}
use Rattle.rule_chain.specs.RuleRun.Needed.{is_word_at, holds_word}
use Rattle.rule_chain.proofs.NoteLemmas.{next_text, all_texts}
use Rattle.rule_chain.proofs.item_texts.item_texts.Goals as goal

pub loop-place-preserved : goal.loop-place-preserved
loop-place-preserved c = λ w.
    let shown = c.shown-shown.result.now in
    let i = c.loop-place.place in
    let last = c.args.span.last in
    let lt : i < last = omega (arith, c.loop-place-test.true, c.min-end.ensures) in
    let within : i < length shown = omega (arith, c.loop-place-test.true, c.min-end.ensures) in
    next_text (is_word_at c.args.file.now.pieces w) shown i last (has_name c.loop-place.texts w) (has_name c.add_piece.new.texts w)
    (holds_word c.args.file.now c.args.span w) lt within (rw c.lexed.ensures.lexed at (c.in_ok-add_piece.ensures w)) (c.loop-place.invariant w)

pub returns : goal.returns
returns c = λ w.
    all_texts (is_word_at c.args.file.now.pieces w) c.shown-shown.result.now c.loop-place.place c.args.span.last (has_name c.loop-place.texts w)
    (holds_word c.args.file.now c.args.span w) (λ lt. omega (arith, lt, c.min-end.ensures)) (c.loop-place.invariant w)
