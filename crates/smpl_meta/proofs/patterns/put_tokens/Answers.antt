use Rattle.std.proofs.Common.{◌≡◌, sym, ◌∙◌}
use Rattle.smpl_meta.specs.Patterns.{at_position}
use Rattle.smpl_meta.proofs.Placing.{two_more}
use Rattle.smpl_meta.proofs.patterns.put_tokens.Goals as goal

pub loop-i-preserved-then-i-tokens : goal.loop-i-preserved-then-i-tokens
loop-i-preserved-then-i-tokens c =
    let t = c.index-tokens-i.result in
    let n = c.index-tokens-i-then-i-tokens.result in
    let found : c.in_ok-found.found ≡ at_position c.args.vars.now c.loop-i.out c.index-tokens-i.result
    c.index-tokens-i-then-i-tokens.result = rw c.as_slice.ensures at c.in_ok-found.ensures in
    rw (c.in_ok-taken.ensures.out, c.in_ok-taken.ensures.width)
    (sym (two_more c.args.vars.now c.args.sign c.args.line c.loop-i.out c.args.tokens.now c.loop-i.i t n c.in_ok-found.found
    c.loop-i-test.true c.if-i-tokens.true c.index-tokens-i.is c.index-tokens-i-then-i-tokens.is found) ∙ c.loop-i.invariant)
