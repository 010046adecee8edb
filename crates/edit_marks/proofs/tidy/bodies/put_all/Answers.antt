use Rattle.std.proofs.Common.{ℕ, ◌==◌, refl, get_or}
use Rattle.std.proofs.lemmas.List.{get_or_default}
use Rattle.edit_marks.proofs.Tidied.FlagLemmas.{adds_none, adds_more, adds_end, adds_always}
use Rattle.edit_marks.proofs.tidy.bodies.put_all.Goals as goal

pub loop-token-init : goal.loop-token-init
loop-token-init c = adds_none c.args.flags.now.items

pub loop-token-preserved : goal.loop-token-preserved
loop-token-preserved c =
    let own = get_or c.args.tokens.now c.loop-token.token-index 0 in
    adds_more (λ (m n : ℕ). m == n) c.args.tokens.now c.loop-token.token-index own c.args.flags.now.items c.loop-token.flags.items
    c.put.new.flags.items c.loop-token-test.true (get_or_default c.args.tokens.now c.loop-token.token-index 0 own c.loop-token-test.true)
    c.loop-token.invariant (adds_always c.loop-token.flags.items c.put.new.flags.items own _ refl c.put.ensures)

pub returns : goal.returns
returns c =
    adds_end (λ (m n : ℕ). m == n) c.args.tokens.now c.loop-token.token-index c.args.flags.now.items c.loop-token.flags.items
    c.loop-token-test.false c.loop-token.invariant
