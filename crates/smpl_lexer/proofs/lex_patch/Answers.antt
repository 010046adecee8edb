use Rattle.std.proofs.Common.{refl, sym, ◌∙◌, inl, inr}
use Rattle.std.proofs.lemmas.Result.{err_from_is_err_and}
use Rattle.smpl_lexer.specs.Texts.IsTextFault.{too_long}
use Rattle.smpl_lexer.proofs.Readings.{text_read, fault_read}
use Rattle.smpl_lexer.proofs.Small.{text_is_small}
use Rattle.smpl_lexer.proofs.lex_patch.Goals as goal

pub returns-then-bytes-gt-MOST_BYTES-clause-fault : goal.returns-then-bytes-gt-MOST_BYTES-clause-fault
returns-then-bytes-gt-MOST_BYTES-clause-fault c = inr (too_long c.if-bytes-gt-MOST_BYTES.true)

pub returns-in_err-reading-clause-fault : goal.returns-in_err-reading-clause-fault
returns-in_err-reading-clause-fault c =
    let p = err_from_is_err_and c.from_residual.result c.from_residual.ensures.1 in
    rw (p.1, p.2) (inl refl)

pub returns-in-Some-clause-fault : goal.returns-in-Some-clause-fault
returns-in-Some-clause-fault c = inr (fault_read c.args.bytes.now c.in_ok-reading.reading c.in-Some.fault
    c.in_ok-reading.ensures c.if-bytes-gt-MOST_BYTES.false (sym c.with_end.ensures ∙ c.in-Some.is))

pub returns-in_ok-finished-in-None-clause-text : goal.returns-in_ok-finished-in-None-clause-text
returns-in_ok-finished-in-None-clause-text c =
    rw c.in_ok-finished-in-None.ensures (text_read c.args.bytes.now c.in_ok-reading.reading c.in_ok-reading.ensures
    c.if-bytes-gt-MOST_BYTES.false (sym c.with_end.ensures ∙ c.in-None.is))

pub returns-in_ok-finished-in-None-clause-small : goal.returns-in_ok-finished-in-None-clause-small
returns-in_ok-finished-in-None-clause-small c =
    text_is_small c.args.bytes.now c.in_ok-finished-in-None.field-0
    (rw c.in_ok-finished-in-None.ensures (text_read c.args.bytes.now c.in_ok-reading.reading c.in_ok-reading.ensures
    c.if-bytes-gt-MOST_BYTES.false (sym c.with_end.ensures ∙ c.in-None.is)))
