use Rattle.std.proofs.Common.{◌∙◌, ◌<◌, sym, arith, length}
use Rattle.rule_chain.proofs.NoteLemmas.{found, passed}
use Rattle.rule_chain.proofs.notes.item_token.Goals as goal

pub returns-then-is_some : goal.returns-then-is_some
returns-then-is_some c =
    let shown = c.shown-shown.result.now in
    let i = c.loop-place.place in
    let last = c.args.span.last in
    let lt : i < last = omega (arith, c.loop-place-test.true, c.min-end.ensures) in
    let within : i < length shown = omega (arith, c.loop-place-test.true, c.min-end.ensures) in
    sym (found c.args.loaded c.args.file.now.pieces shown i last lt within c.loaded_at-id.result
    (rw c.lexed.ensures.lexed at c.loaded_at-id.ensures) (sym c.is_some.ensures ∙ c.if-is_some.true)) ∙ c.loop-place.invariant

pub loop-place-preserved : goal.loop-place-preserved
loop-place-preserved c =
    let shown = c.shown-shown.result.now in
    let i = c.loop-place.place in
    let last = c.args.span.last in
    let lt : i < last = omega (arith, c.loop-place-test.true, c.min-end.ensures) in
    let within : i < length shown = omega (arith, c.loop-place-test.true, c.min-end.ensures) in
    passed c.args.loaded c.args.file.now.pieces shown i last lt within c.loaded_at-id.result
    (rw c.lexed.ensures.lexed at c.loaded_at-id.ensures) (sym c.is_some.ensures ∙ c.if-is_some.false) ∙ c.loop-place.invariant
