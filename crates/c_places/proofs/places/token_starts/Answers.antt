use Rattle.std.proofs.Common.{◌≡◌, ◌∙◌, sym}
use Rattle.std.specs.Prelude.{Some, slice_get, slice_range}
use Rattle.c_lexer.specs.Pieces.{TextPiece, text_of}
use Rattle.c_places.proofs.StartLemmas.{a_token, no_token}
use Rattle.c_places.proofs.places.token_starts.Goals as goal
use Rattle.c_places.proofs.places.token_starts.Goals.{then-is_token+in_ok-push, else-is_token}

pub loop-i-preserved : goal.loop-i-preserved
loop-i-preserved c =
    let lexed = c.args.lexed.now in
    let i = c.loop-i.i in
    let text = slice_range (text_of lexed) c.piece-piece.result.start c.piece-piece.result.end in
    let p : TextPiece = record { kind = c.piece-piece.result.kind; text = text } in
    let is : slice_get lexed i ≡ Some p = c.piece-piece.ensures.piece in
    elim c.if-is_token.branch [
      | then-is_token+in_ok-push w ↦ rw w.starts-is (record {
        end = c.loop-i.invariant.end;
        so_far = rw (w.in_ok-push.ensures.ok, c.piece-piece.ensures.start)
            (a_token lexed i p is c.loop-i.starts c.loop-i.invariant.so_far (sym c.is_token.ensures ∙ w.if-is_token.true));
      })
      | else-is_token w ↦ rw w.starts-is (record {
        end = c.loop-i.invariant.end;
        so_far = no_token lexed i p is c.loop-i.starts c.loop-i.invariant.so_far (sym c.is_token.ensures ∙ w.if-is_token.false);
      })
    ]
