-- The tidied text that results from applying edits to a text: its pieces in order without the removed tokens, without the
-- blanks within runs of them, and without the lines that are emptied; the inserts at a run before its first token, any other
-- insert directly before or after its token's place, and the braces at theirs; without the commas that are left beside nothing;
-- and a space where a token and a piece that was not its neighbour would run together.
use Rattle.std.specs.Prelude.{ℕ, ◌+◌, ◌-◌, ◌==◌, ◌&&◌, ◌||◌, Bool, true, false, not}
use Rattle.std.specs.Prelude.{List, [], ◌∷◌, ◌++◌, drop, filter, get_or, map, length, nat_lt, if◌then◌else◌}
use Rattle.std.specs.Prelude.{Option, Some, None, fold}
use Rattle.std.specs.List.{list_any, range_with_len}
use Rattle.c_lexer.specs.declared.piece.PieceKind.{PieceKind}
use Rattle.c_lexer.specs.declared.piece.PieceKind.TheVariants.{Word, Blank, Comment, Line}
use Rattle.c_lexer.specs.Pieces.{TextPiece}
use Rattle.c_lexer.specs.Lexes.{id_after}
use Rattle.edit_marks.specs.declared.edit_conflict.edit.Edit.{Edit}
use Rattle.edit_unparse.specs.declared.tidy.flags.Extent.{Extent}
use Rattle.edit_unparse.specs.declared.tidy.commas.CommaList.{CommaList}
use Rattle.tidy_flags.specs.declared.lines.LineByte.{LineByte}
use Rattle.edit_unparse.specs.declared.tidy.parts.Brace.{Brace}
use Rattle.edit_unparse.specs.Output.{Part, added, is_removed, kept, old_part, output_of, spaced}
use Rattle.edit_unparse.specs.Tidy.Places.{inserts_after, inserts_before, joints}
use Rattle.tidy_flags.specs.Lines.{blank_bytes, emptied, left_of_lines, removed_bytes, solid_bytes}
use Rattle.edit_unparse.specs.Tidy.Spots.{brace_number, placed_texts, spot, spot_number}
use Rattle.edit_unparse.specs.Tidy.Commas.{with_list}

-- What the trees of a text say of its tidied text: the statements of which nothing stays, how deep each edit's statement is,
-- the lists, and the braces that come.
pub record Frame : Type 0 where
  pub gone : List Extent
  pub depths : List ℕ
  pub lists : List CommaList
  pub braces : List Brace

-- Which tokens go, which are joined to the one before them, and the texts of the inserts that stand before and after the
-- places of tokens.
pub record Placement : Type 0 where
  pub goes : ℕ → Bool
  pub joined : ℕ → Bool
  pub before : ℕ → List (List ℕ)
  pub after : ℕ → List (List ℕ)

abbrev pub placement_with : List Edit → List ℕ → List Bool → Placement
placement_with edits depths joined = record {
  goes = λ n. is_removed n edits;
  joined = λ n. get_or joined n false;
  before = λ n. placed_texts edits (inserts_before edits depths (is_removed n edits) (get_or joined n false) n (drop (n + 1) joined));
  after = λ n. placed_texts edits (inserts_after edits depths (is_removed n edits) n);
}

abbrev pub placement_of : List TextPiece → List Edit → Frame → Placement
placement_of pieces edits frame = placement_with edits frame.depths (joints edits frame.gone pieces)

-- of the braces at a place, the texts of those before which this many inserts stand
abbrev pub braces_among : List Brace → ℕ → List (List ℕ)
braces_among braces count = map (λ b. b.text) (filter (λ b. b.inserts == count) braces)

abbrev pub braces_at : List Brace → ℕ → Bool → List Brace
braces_at braces token after = filter (λ b. brace_number b == spot_number (spot token after)) braces

-- the inserts at a place, each with the braces behind it, given how many inserts stand before them
abbrev pub behind : List Brace → ℕ → List (List ℕ) → List (List ℕ)
behind braces count [] = []
behind braces count (text ∷ texts) = text ∷ (braces_among braces (count + 1) ++ behind braces (count + 1) texts)

-- the inserts at a place, with the braces before, between and behind them
abbrev pub with_braces : List Brace → List (List ℕ) → List (List ℕ)
with_braces braces texts = braces_among braces 0 ++ behind braces 0 texts

-- an old piece, if anything is left of it
abbrev pub unless_empty : ℕ → PieceKind → List ℕ → List Part
unless_empty number kind [] = []
unless_empty number kind (b ∷ bytes) = old_part number (record { kind = kind; text = b ∷ bytes }) ∷ []

module _ (at : Placement) where
  -- whether an insert stands at the place of a token
  abbrev pub has_insert : ℕ → Bool
  has_insert token = not (length (at.before token) == 0) || not (length (at.after token) == 0)

  -- the bytes of the lines at a piece: none of a blank within a run
  abbrev pub bytes_at : PieceKind → ℕ → List ℕ → List LineByte
  bytes_at (Word kind id) token text = if at.goes token then removed_bytes (has_insert token) text else solid_bytes text
  bytes_at Blank token text = if at.joined token then [] else blank_bytes text
  bytes_at Comment token text = solid_bytes text
  bytes_at Line token text = solid_bytes text

  abbrev pub line_bytes : ℕ → List TextPiece → List LineByte
  line_bytes token [] = []
  line_bytes token (p ∷ pieces) = bytes_at p.kind token p.text ++ line_bytes (id_after p.kind token) pieces

  -- told how the texts of inserts and braces are put down as parts
  module _ (put : List (List ℕ) → List Part) (braces : List Brace) where
    -- the parts at the place of a piece, given for each byte from here on whether its line is emptied
    abbrev pub tidy_parts : PieceKind → List Bool → ℕ → ℕ → TextPiece → List Part
    tidy_parts (Word kind id) flags token number p = put (with_braces (braces_at braces token false) (at.before token))
        ++ (kept (at.goes token) number p ++ put (with_braces (braces_at braces token true) (at.after token)))
    tidy_parts Blank flags token number p = if at.joined token then [] else unless_empty number Blank (left_of_lines flags p.text)
    tidy_parts Comment flags token number p = old_part number p ∷ []
    tidy_parts Line flags token number p = old_part number p ∷ []

    abbrev pub tidy_placed : List Bool → ℕ → ℕ → List TextPiece → List Part
    tidy_placed flags token number [] = []
    tidy_placed flags token number (p ∷ pieces) = tidy_parts p.kind flags token number p
        ++ tidy_placed (drop (length (bytes_at p.kind token p.text)) flags) (id_after p.kind token) (number + 1) pieces

-- the number of a piece, if it is a token
abbrev pub token_piece : PieceKind → ℕ → List ℕ
token_piece (Word kind id) number = number ∷ []
token_piece Blank number = []
token_piece Comment number = []
token_piece Line number = []

-- the number of the piece of each token
abbrev pub token_pieces : ℕ → List TextPiece → List ℕ
token_pieces number [] = []
token_pieces number (p ∷ pieces) = token_piece p.kind number ++ token_pieces (number + 1) pieces

-- a token of the text stays
abbrev pub stays : Placement → List ℕ → ℕ → Bool
stays at tokens n = nat_lt n (length tokens) && not (at.goes n)

-- a token goes, or has an insert at its place
abbrev pub changes : Placement → ℕ → Bool
changes at n = at.goes n || has_insert at n

-- something goes or comes in a list, or at its brackets, and these stay
abbrev pub is_touched : Placement → List ℕ → CommaList → Bool
is_touched at tokens l = stays at tokens l.opening && stays at tokens l.closing
    && list_any (changes at) (range_with_len l.opening (l.closing + 1 - l.opening))

-- the parts after the commas of a list have gone, given the number of each token's piece
abbrev pub with_commas : Placement → List ℕ → List Part → CommaList → List Part
with_commas at tokens parts l = if is_touched at tokens l then with_list l.may_end (get_or tokens l.opening 0) (get_or tokens l.closing 0) parts else parts

-- the parts of the tidied text without spaces, told how inserts and braces are put down
abbrev pub tidied_parts : (List (List ℕ) → List Part) → List TextPiece → List Edit → Frame → List Part
tidied_parts put pieces edits frame =
    let at = placement_of pieces edits frame in
    fold (with_commas at (token_pieces 0 pieces)) (tidy_placed at put frame.braces (emptied (line_bytes at 0 pieces)) 0 0 pieces) frame.lists

-- the pieces of the tidied text; added tokens have the ids from next on
abbrev pub tidied_of : List TextPiece → List Edit → Frame → ℕ → List TextPiece
tidied_of pieces edits frame next = spaced None next (tidied_parts added pieces edits frame)

-- the pieces of the new text, plain or, with what the trees say of it, tidied
abbrev pub text_after : Option Frame → List TextPiece → List Edit → ℕ → List TextPiece
text_after None pieces edits next = output_of pieces edits next
text_after (Some frame) pieces edits next = tidied_of pieces edits frame next
