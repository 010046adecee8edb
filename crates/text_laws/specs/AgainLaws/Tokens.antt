-- The tokens of pieces, and the pieces that edits leave.
use Rattle.std.specs.Prelude.{ℕ, cond, List, [], ◌∷◌}
use Rattle.c_lexer.specs.declared.piece.PieceKind.{PieceKind}
use Rattle.c_lexer.specs.declared.piece.PieceKind.TheVariants.{Word, Blank, Comment, Line}
use Rattle.c_lexer.specs.Pieces.{TextPiece}
use Rattle.edit_marks.specs.declared.edit_conflict.edit.Edit.{Edit}
use Rattle.edit_unparse.specs.Output.{output_of}
use Rattle.rule_chain.specs.RuleEdits.Pages.{is_edited}

abbrev pub where_token : PieceKind → TextPiece → List TextPiece → List TextPiece
where_token (Word kind id) p tokens = p ∷ tokens
where_token Blank p tokens = tokens
where_token Comment p tokens = tokens
where_token Line p tokens = tokens

-- the tokens, in order, with their ids
abbrev pub tokens_of : List TextPiece → List TextPiece
tokens_of [] = []
tokens_of (p ∷ pieces) = where_token p.kind p (tokens_of pieces)

-- The pieces without what edits remove and with what they insert; the added tokens have the ids from `next` on. If no edit
-- changes anything, these are the old pieces.
abbrev pub left_pieces : ℕ → List TextPiece → List Edit → List TextPiece
left_pieces next pieces edits = cond (is_edited edits) (output_of pieces edits next) pieces
