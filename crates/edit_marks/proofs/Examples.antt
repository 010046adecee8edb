-- The text of plus code at its anchors.
use Rattle.std.specs.Prelude.{◌≡◌, ℕ, Bool, true, false, List, [], ◌∷◌, ◌++◌, Option, None, Some, refl, codes}
use Rattle.c_terms.specs.declared.token.Token.{Token}
use Rattle.c_terms.specs.declared.token.TokenKind.TheVariants.{Name, Punct}
use Rattle.c_lexer.specs.declared.piece.PieceKind.TheVariants.{Word, Blank}
use Rattle.c_lexer.specs.Pieces.{TextPiece}
use Rattle.c_show.specs.Joint.{runs_together}
use Rattle.smpl_patch.specs.declared.pattern.PlusLine.{PlusLine}
use Rattle.smpl_patch.specs.declared.pattern.PlusBlock.{PlusBlock}
use Rattle.edit_marks.specs.declared.insert.Anchor.TheVariants.{Removed, AfterLine, AfterToken, BeforeToken}
use Rattle.edit_marks.specs.Blocks.{block_text, block_ends}
use Rattle.edit_marks.specs.Inserts.{insert_of, indent_at, returns_in, returns_at, line_end}
use Rattle.edit_marks.specs.Edits.{anchor_of}
use Rattle.edit_marks.specs.Tokens.{file_tokens}

abbrev word : List ℕ → Token
word text = record { kind = Name; text = text; id = 0 }

abbrev sign : List ℕ → Token
sign text = record { kind = Punct; text = text; id = 0 }

-- a line of one name and a semicolon, after these blanks
abbrev line : ℕ → List ℕ → List ℕ → PlusLine
line lead gap name = record { lead = lead; tokens = word name ∷ sign (codes ";") ∷ []; gaps = gap ∷ [] ∷ [] }

abbrev empty_line : PlusLine
empty_line = record { lead = 0; tokens = []; gaps = [] }

abbrev block : List PlusLine → PlusBlock
block lines = record { many = false; lines = lines }

abbrev joint : List ℕ
joint = 10 ∷ 9 ∷ []

-- the least lead is removed from each line, and a line that has no token doesn't count
least_lead_goes : block_text [] [] joint
    (block (line 2 (codes "  ") (codes "a") ∷ empty_line ∷ line 4 (codes "    ") (codes "b") ∷ [])) ≡ codes "a;" ++ joint ++ joint ++ codes "  b;"
unfolding runs_together
least_lead_goes = refl

-- a space separates tokens that are side by side and would run together
tokens_are_parted : block_text [] [] joint
    (block (record {
      lead = 0;
      tokens = word (codes "a") ∷ word (codes "b") ∷ sign (codes "+") ∷ sign (codes "+") ∷ [];
      gaps =
          [] ∷ [] ∷ [] ∷ [] ∷ [];
    } ∷ [])) ≡ codes "a b+ +"
unfolding runs_together
tokens_are_parted = refl

after_a_semicolon : insert_of (anchor_of false true (codes ";")) joint (codes "b;") true ≡ joint ++ codes "b;"
after_a_semicolon = refl

after_a_name : insert_of (anchor_of false true (codes "a")) joint (codes "b") false ≡ codes " b"
after_a_name = refl

before_a_token : insert_of (anchor_of false false (codes "a")) joint (codes "b;") true ≡ codes "b;" ++ joint
before_a_token = refl

before_within_a_line : insert_of (anchor_of false false (codes ";")) joint (codes "b") false ≡ codes "b "
before_within_a_line = refl

in_place_of_a_token : insert_of (anchor_of true true (codes ";")) joint (codes "b;") true ≡ codes "b;"
in_place_of_a_token = refl

-- the blanks of the line that the place is in, not of the one before it
indent : indent_at (codes "  a" ++ 10 ∷ 9 ∷ codes "b c") 7 ≡ 9 ∷ []
indent = refl

at_a_newline : indent_at (codes "  a" ++ 10 ∷ 9 ∷ codes "b") 3 ≡ codes "  "
at_a_newline = refl

-- a line ends in a carriage return and a newline, or in a newline, or with the text
line_with_return : returns_in (codes "a" ++ 13 ∷ 10 ∷ codes "b" ++ 10 ∷ []) ≡ true
line_with_return = refl

only_the_next_line_has_one : returns_in (codes "a" ++ 10 ∷ codes "b" ++ 13 ∷ 10 ∷ []) ≡ false
only_the_next_line_has_one = refl

return_within_a_line : returns_in (codes "a" ++ 13 ∷ codes "b" ++ 10 ∷ []) ≡ false
return_within_a_line = refl

return_ends_the_text : returns_in (codes "a" ++ 13 ∷ []) ≡ false
return_ends_the_text = refl

line_of_a_return : returns_in (13 ∷ 10 ∷ []) ≡ true
line_of_a_return = refl

no_line : returns_in [] ≡ false
no_line = refl

-- the line that the place is in, not the one before it
last_line : returns_at (codes "a" ++ 13 ∷ 10 ∷ codes "b") 3 ≡ false
last_line = refl

line_before_it : returns_at (codes "a" ++ 13 ∷ 10 ∷ codes "b") 2 ≡ true
line_before_it = refl

after_a_line_with_return : insert_of (anchor_of false true (codes ";")) (line_end true ++ 9 ∷ []) (codes "b();") true ≡ 13 ∷ 10 ∷ 9 ∷ codes "b();"
after_a_line_with_return = refl

before_a_line_with_return : insert_of (anchor_of false false (codes "a")) (line_end true ++ 9 ∷ []) (codes "b();") true ≡ codes "b();" ++ 13 ∷ 10 ∷ 9 ∷ []
before_a_line_with_return = refl

-- `a`, a newline and a tab, `b ;`: the tokens of the second line share its tab
two_lines : List TextPiece
two_lines =
    record { kind = Word Name 0; text = codes "a" } ∷ record { kind = Blank; text = 10 ∷ 9 ∷ [] } ∷ record { kind = Word Name 1; text = codes "b" }
    ∷ record { kind = Blank; text = codes " " } ∷ record { kind = Word Punct 2; text = codes ";" } ∷ []

by_lines : file_tokens two_lines ≡ record { text = codes "a"; indent = []; returns = false } ∷ record { text = codes "b"; indent = 9 ∷ []; returns = false }
    ∷ record { text = codes ";"; indent = 9 ∷ []; returns = false } ∷ []
unfolding two_lines
by_lines = refl

-- the same where the first line ends in a carriage return and a newline
with_a_return : List TextPiece
with_a_return =
    record { kind = Word Name 0; text = codes "a" } ∷ record { kind = Blank; text = 13 ∷ 10 ∷ 9 ∷ [] } ∷ record { kind = Word Name 1; text = codes "b" } ∷ []

by_line_ends : file_tokens with_a_return ≡ record { text = codes "a"; indent = []; returns = true } ∷ record { text = codes "b"; indent = 9 ∷ []; returns = false } ∷ []
unfolding with_a_return
by_line_ends = refl
