use Rattle.std.proofs.Common.{ℕ, ◌+◌, ◌<◌, refl, drop, subst, sym}
use Rattle.c_rows.specs.Depth.{opens_from}
use Rattle.c_expr.proofs.DepthLemmas.{below_turn, above_turn, big_after, at_end_small}
use Rattle.c_expr.proofs.depth.is_too_deep.Goals as goal

pub returns-then-depth-gt-MOST_OPEN : goal.returns-then-depth-gt-MOST_OPEN
returns-then-depth-gt-MOST_OPEN c = (
  λ _. c.loop-token.invariant.above (above_turn c.args.tokens.now c.loop-token.token-index c.loop-token.depth
      c.token-item.result c.loop-token-test.true c.token-item.is
      (big_after (drop (c.loop-token.token-index + 1) c.args.tokens.now) c.token-item.result c.loop-token.depth
      c.depth_after-depth.result c.depth_after-depth.ensures.value c.if-depth-gt-MOST_OPEN.true)),
  λ _. refl,
)

pub loop-token-preserved : goal.loop-token-preserved
loop-token-preserved c = record {
  small = c.if-depth-gt-MOST_OPEN.false;
  below = λ big. subst (λ (d : ℕ). 200 < opens_from d (drop (c.loop-token.token-index + 1) c.args.tokens.now)) (sym c.depth_after-depth.ensures.value)
      (below_turn c.args.tokens.now c.loop-token.token-index c.loop-token.depth c.token-item.result c.loop-token-test.true
      c.token-item.is c.loop-token.invariant.small (c.loop-token.invariant.below big));
  above = λ big. c.loop-token.invariant.above
      (above_turn c.args.tokens.now c.loop-token.token-index c.loop-token.depth c.token-item.result c.loop-token-test.true c.token-item.is
      (subst (λ (d : ℕ). 200 < opens_from d (drop (c.loop-token.token-index + 1) c.args.tokens.now)) c.depth_after-depth.ensures.value big));
}

pub returns : goal.returns
returns c = (
  λ f. let no : ⊥ = cc in absurd no,
  λ big. absurd (at_end_small c.args.tokens.now c.loop-token.token-index c.loop-token.depth c.loop-token-test.false
      c.loop-token.invariant.small (c.loop-token.invariant.below big)),
)
