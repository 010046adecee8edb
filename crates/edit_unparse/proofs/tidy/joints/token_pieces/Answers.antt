use Rattle.std.proofs.Common.{◌≤◌, ap, ℕ, length, length-append, arith}
use Rattle.c_lexer.specs.declared.piece.PieceKind.{PieceKind}
use Rattle.c_lexer.specs.declared.piece.PieceKind.TheVariants.{Word, Blank, Comment, Line}
use Rattle.edit_unparse.specs.Tidy.Text.{token_piece}
use Rattle.edit_unparse.proofs.JointLemmas.{token_pieces_more}
use Rattle.edit_unparse.proofs.tidy.joints.token_pieces.Goals as goal

at_most_one : (k : PieceKind) (i : ℕ) → length (token_piece k i) ≤ 1
at_most_one (Word kind id) i = omega arith
at_most_one Blank i = omega arith
at_most_one Comment i = omega arith
at_most_one Line i = omega arith

pub loop-i-preserved : goal.loop-i-preserved
loop-i-preserved c = record {
  all = token_pieces_more c.args.lexed.now c.loop-i.i _ c.loop-i.pieces.items c.put_token_piece.new.pieces.items _
      c.piece.ensures.piece c.in_ok-put_token_piece.ensures c.loop-i.invariant.all;
  few = omega (
    arith,
    c.loop-i.invariant.few,
    ap length c.in_ok-put_token_piece.ensures,
    length-append c.loop-i.pieces.items (token_piece c.piece.result.kind c.loop-i.i),
    at_most_one c.piece.result.kind c.loop-i.i,
  );
}
