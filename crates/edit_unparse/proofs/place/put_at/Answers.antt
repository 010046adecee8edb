use Rattle.std.proofs.Common.{subst}
use Rattle.std.specs.Prelude.{OnOk}
use Rattle.c_lexer.specs.Pieces.{TextPiece}
use Rattle.edit_unparse.specs.Output.{token_parts}
use Rattle.edit_unparse.specs.Written.{Writes, Overflows}
use Rattle.edit_unparse.proofs.RunTextLemmas.{piece_is}
use Rattle.edit_unparse.proofs.place.put_at.Goals as goal

pub returns-clause-ok : goal.returns-clause-ok
returns-clause-ok c = λ p at.
    let same = piece_is c.args.lexed.now c.bytes-bytes.result.now c.args.place.piece c.piece-piece.result.start
    c.piece-piece.result.end c.piece-piece.result.kind p
    c.bytes-bytes.ensures.bytes c.piece-piece.ensures.piece at in
    subst (λ (x : TextPiece). OnOk c.put_token.result
    (Writes c.args.draft.now c.put_token.new.draft (token_parts c.args.edits.now c.args.place.token c.args.place.piece x)))
    same c.put_token.ensures.ok

pub returns-clause-too_long : goal.returns-clause-too_long
returns-clause-too_long c = λ p at fault.
    let same = piece_is c.args.lexed.now c.bytes-bytes.result.now c.args.place.piece c.piece-piece.result.start
    c.piece-piece.result.end c.piece-piece.result.kind p
    c.bytes-bytes.ensures.bytes c.piece-piece.ensures.piece at in
    subst (λ (x : TextPiece). Overflows c.args.draft.now (token_parts c.args.edits.now c.args.place.token c.args.place.piece x))
    same (c.put_token.ensures.too_long fault)
