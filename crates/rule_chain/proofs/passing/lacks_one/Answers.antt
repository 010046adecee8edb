use Rattle.std.proofs.Common.{◌<◌, not, ap, ◌∙◌, arith, length}
use Rattle.rule_chain.proofs.StandLemmas.{lacks_at}
use Rattle.rule_chain.proofs.passing.lacks_one.Goals as goal

pub returns-then-is_none : goal.returns-then-is_none
returns-then-is_none c = λ h.
    let within : c.loop-number.number < length c.args.words.now = omega (arith, c.loop-number-test.true, c.min-few.ensures) in
    lacks_at c.args.bytes.now c.args.words.now c.loop-number.number c.index-words-number.result c.as_bytes.result.now c.find.result within
    c.index-words-number.is c.as_bytes.ensures.bytes (c.is_none.ensures ∙ ap not c.if-is_none.true) c.find.ensures
