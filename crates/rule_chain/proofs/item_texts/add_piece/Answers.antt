use Rattle.std.proofs.Common.{ap, slice_range}
use Rattle.c_lexer.specs.Pieces.{TextPiece, text_of}
use Rattle.rule_chain.proofs.NoteLemmas.{piece_named}
use Rattle.rule_chain.proofs.item_texts.add_piece.Goals as goal

pub returns : goal.returns
returns c =
    let piece = c.piece-piece.result in
    let p : TextPiece = record { kind = piece.kind; text = slice_range (text_of c.args.lexed.now) piece.start piece.end } in
    piece_named c.args.lexed.now c.args.number p c.args.texts.now c.add.new.self _ c.piece-piece.ensures.piece
    (ap (λ bytes. slice_range bytes piece.start piece.end) c.bytes.ensures.bytes) c.in_ok-add.ensures
