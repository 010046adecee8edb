use Rattle.std.proofs.Common.{◌≡◌, ◌++◌, length, take, drop, map}
use Rattle.std.specs.Prelude.{All}
use Rattle.c_lexer.specs.Pieces.{text_of}
use Rattle.edit_marks.specs.Inserts.{line_start, returns_in}
use Rattle.edit_marks.specs.Tokens.{tokens_from, file_tokens, token_at, IsWithin}
use Rattle.edit_marks.proofs.file_tokens.FileTokens.of.Given as goal

abbrev pub invariant-loop-i : goal.invariant-loop-i
invariant-loop-i l = record {
  tokens : map (token_at l.bytes) l.places.items
      ++ tokens_from (text_of l.lexed) (length (text_of (take l.i l.lexed))) (drop l.i l.lexed) ≡ file_tokens l.lexed;
  returns : l.returns ≡ returns_in (drop l.line l.bytes);
  line : l.line ≡ line_start (text_of l.lexed) (length (text_of (take l.i l.lexed)));
  within : All (IsWithin l.bytes) l.places.items;
}
