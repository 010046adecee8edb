use Rattle.std.proofs.Common.{◌≡◌, ◌∙◌, sym, drop}
use Rattle.std.proofs.lemmas.List.{take_rest}
use Rattle.iso_file.specs.Stepped.{arrow_first}
use Rattle.iso_file.proofs.Arrows.{parts_first, arrow_step, token_step}
use Rattle.iso_file.proofs.side.part_at_arrows.Goals as goal

pub loop-i-init : goal.loop-i-init
loop-i-init c = rw (c.new.ensures, c.new-2.ensures, c.new-3.ensures) (parts_first c.args.tokens.now)

pub loop-i-preserved-in-Some : goal.loop-i-preserved-in-Some
loop-i-preserved-in-Some c =
    let first : c.arrow_first.result ≡ arrow_first (drop c.loop-i.i c.args.tokens.now) = rw take_rest at c.arrow_first.ensures in
    arrow_step c.args.tokens.now c.loop-i.i c.loop-i.parting c.in_ok-parting-in-Some.parting c.in-Some.way c.loop-i.invariant
    (sym first ∙ c.in-Some.is) c.in_ok-parting-in-Some.ensures

pub loop-i-preserved : goal.loop-i-preserved
loop-i-preserved c =
    let first : c.arrow_first.result ≡ arrow_first (drop c.loop-i.i c.args.tokens.now) = rw take_rest at c.arrow_first.ensures in
    token_step c.args.tokens.now c.loop-i.i c.index-tokens-i.result c.loop-i.parting c.in_ok-parting-in-None.parting
    c.loop-i-test.true c.index-tokens-i.is c.loop-i.invariant (sym first ∙ c.in-None.is) c.in_ok-parting-in-None.ensures
