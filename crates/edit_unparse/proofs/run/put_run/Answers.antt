use Rattle.std.proofs.Common.{arith, rules}
use Rattle.edit_unparse.proofs.RunTextLemmas.{pieces_written, pieces_overflow, run_overflow}
use Rattle.edit_unparse.proofs.run.put_run.Goals as goal

pub returns-in_err-put_texts-clause-too_long : goal.returns-in_err-put_texts-clause-too_long
returns-in_err-put_texts-clause-too_long c = λ e edits none.
    let to = c.in_ok-to.to in
    run_overflow c.args.lexed.now c.args.from to c.args.stop c.args.draft.now edits c.in_ok-to.ensures.run.passes none
    (pieces_overflow c.args.lexed.now c.args.draft.now c.put_ids.new.draft c.put_texts.new.draft c.args.from.piece to.piece
    (omega (arith, c.in_ok-to.ensures.run.passes.on, c.if-to-from.false)) c.in_ok-to.ensures.run.passes.within c.in_ok-to.ensures.same c.in_ok-to.ensures.ids
    (λ p at. c.in_err-put_texts.ensures.too_long p at (search rules)))

pub returns-clause-ok : goal.returns-clause-ok
returns-clause-ok c =
    let to = c.in_ok-to.to in
    pieces_written c.args.lexed.now c.args.draft.now c.put_ids.new.draft c.put_texts.new.draft c.args.from.piece to.piece
    (omega (arith, c.in_ok-to.ensures.run.passes.on, c.if-to-from.false)) c.in_ok-to.ensures.run.passes.within c.in_ok-to.ensures.same c.in_ok-to.ensures.ids
    c.in_ok-put_texts.ensures.bytes c.in_ok-put_texts.ensures.last c.in_ok-put_texts.ensures.others
