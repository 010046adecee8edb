use Rattle.std.proofs.Common.{◌≡◌, ◌∙◌, ◌<◌, length, subst, arith, Some}
use Rattle.iso_expand.specs.IsoForms.Matching.{matched}
use Rattle.iso_expand.specs.IsoForms.Stepped.{Answers}
use Rattle.iso_expand.proofs.IsoForms.MatchLemmas.{each-uneven, each_more}
use Rattle.iso_expand.proofs.iso_forms.matching.+matching.Goals as goal

pub all_match-returns-then-sides-trees : goal.all_match-returns-then-sides-trees
all_match-returns-then-sides-trees t c =
    each-uneven (matched c.args.vars.now) c.args.sides.now c.args.trees.now c.args.bound.now (λ e. omega (arith, e))

pub all_match-loop-i-preserved : goal.all_match-loop-i-preserved
all_match-loop-i-preserved t c =
    let m = matched c.args.vars.now in
    let even : length c.args.sides.now ≡ length c.args.trees.now = c.loop-i.invariant.even in
    let here : c.loop-i.i < length c.args.sides.now = c.loop-i-test.true in
    let there : c.loop-i.i < length c.args.trees.now = omega arith in
    let found : m c.index-sides-i.result c.index-trees-i.result c.loop-i.bound ≡ Some c.matches.new.bound =
    subst (λ b. Answers b c.matches.new.bound (m c.index-sides-i.result c.index-trees-i.result c.loop-i.bound)) c.if-not-branch.false c.in_ok-matches.ensures in
    record {
      even = even;
      rest = each_more m c.args.sides.now c.args.trees.now c.loop-i.i c.index-sides-i.result c.index-trees-i.result
          c.loop-i.bound c.matches.new.bound here there
          c.index-sides-i.is c.index-trees-i.is found ∙ c.loop-i.invariant.rest;
    }
