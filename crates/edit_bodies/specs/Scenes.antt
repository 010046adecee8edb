-- For internal use: the new text, as the code has it.
use Rattle.std.specs.Prelude.{ℕ, ◌≡◌, Bool, true, false, not, List, [], ◌∷◌, ◌++◌, filter, fold, get_or, map, min}
use Rattle.std.specs.Prelude.{slice_get, Option, None, Some}
use Rattle.std.specs.Option.{option_map}
use Rattle.c_terms.specs.declared.token.Token.{Token}
use Rattle.c_terms.specs.declared.tree.Tree.{Tree}
use Rattle.c_rows.specs.Look.{Names}
use Rattle.c_lexer.specs.Lexes.{Lexes}
use Rattle.c_lexer.specs.Pieces.{TextPiece}
use Rattle.cpp_lines.specs.declared.reading.Item.{Item}
use Rattle.cpp_lines.specs.Shown.{AreShown}
use Rattle.c_file.specs.Tokens.{token_at}
use Rattle.edit_marks.specs.Tidy.Bodies.{acts_of}
use Rattle.edit_marks.specs.declared.edit_conflict.edit.Edit.{Edit}
use Rattle.edit_marks.specs.declared.edit_conflict.mark.Act.TheVariants.{Insert}
use Rattle.edit_marks.specs.declared.edit_conflict.mark.Act.{Act}
use Rattle.edit_marks.specs.declared.tidy.shape.Body.{Body}
use Rattle.edit_marks.specs.declared.tidy.touch.PatternStatement.{PatternStatement}
use Rattle.edit_unparse.specs.declared.tidy.fallen.Fallen.{Fallen}
use Rattle.edit_unparse.specs.declared.tidy.plan.Placed.{Placed}
use Rattle.edit_unparse.specs.Tidy.Fallen.{has_place}
use Rattle.edit_unparse.specs.Tidy.Plans.{inserts_there}
use Rattle.edit_unparse.specs.Written.{edit_text}
use Rattle.edit_bodies.specs.declared.braces.Spot.{Spot}
use Rattle.edit_bodies.specs.declared.place.Place.{Place}
use Rattle.edit_bodies.specs.declared.rows.Row.{Row}
use Rattle.edit_bodies.specs.declared.scene.Scene.{Scene}
use Rattle.edit_bodies.specs.declared.see.SeenBodies.{SeenBodies}
use Rattle.edit_bodies.specs.Needs.{form_of}
use Rattle.edit_bodies.specs.Rows.{NewText, RowToken, is_within, tokens_in}
use Rattle.edit_bodies.specs.Looks.{Seen, behind_of, is_else, lead_of, left_out_of, own_leaves, row_of, see, see_all, seen_row}
use Rattle.edit_bodies.specs.Laid.{AreReadings, IsBodyReading, IsReading, offset_of}

-- ---- the visible tokens of inserts

-- the piece at this offset of an insert goes
abbrev pub falls_in : Fallen → ℕ → ℕ → ℕ → Bool
falls_in fallen edit insert offset = has_place edit insert offset fallen.added.items

-- the tokens of these pieces, without those that begin at offsets that go
abbrev pub tokens_left : (ℕ → Bool) → List TextPiece → List ℕ → List Token
tokens_left falls pieces shown = map (token_at pieces) (filter (λ n. not (falls (offset_of pieces n))) shown)

-- the visible tokens of a text, as those of a file would be, without those that begin at offsets that go
pub record AreVisible (falls : ℕ → Bool) (text : List ℕ) (words : List Token) : Type 0 where
  pub own : List TextPiece
  pub cut : Lexes text own
  pub shown : List ℕ
  pub visible : AreShown own shown
  pub are : words ≡ tokens_left falls own shown

abbrev pub AreVisibleIn : (ℕ → Bool) → Option (List ℕ) → List Token → Type 0
AreVisibleIn falls None words = words ≡ []
AreVisibleIn falls (Some text) words = AreVisible falls text words

-- the tokens of each insert of the edit with this number, if there is one
abbrev pub AreEditWords : Fallen → ℕ → Option Edit → List (List Token) → Type 0
AreEditWords fallen number edit own = (insert : ℕ) → AreVisibleIn (falls_in fallen number insert) (edit_text edit insert) (get_or own insert [])

-- the tokens of each insert of each edit
abbrev pub AreInsertWords : Fallen → List Edit → List (List (List Token)) → Type 0
AreInsertWords fallen edits all = (number : ℕ) → AreEditWords fallen number (slice_get edits number) (get_or all number [])

-- the tokens of the insert with this number of the edit with this number
abbrev pub words_at : List (List (List Token)) → Placed → List Token
words_at all p = get_or (get_or all p.edit []) p.insert []

abbrev pub text_in : Scene → NewText
text_in s = record {
  token = λ n. token_at s.lexed.now (get_or s.plan.now.pieces.items n 0);
  goes = λ n. get_or s.plan.now.removed.items n false;
  falls = λ n. get_or s.fallen.now.pieces.items (get_or s.plan.now.pieces.items n 0) false;
  comes = (acts_of s.edits.now.list).comes;
  inserts = inserts_there s.plan.now;
  words = words_at s.inserts.items;
}

abbrev pub leaves_of : Scene → List ℕ
leaves_of s = s.edits.now.outline.leaves.items

abbrev pub statements_of : Scene → List (ℕ × PatternStatement)
statements_of s = s.edits.now.statements.items

abbrev pub is_insert : Act → Bool
is_insert (Insert side many number) = true
is_insert act = false

-- ---- the statements of patterns

-- the body is within the statement, and is not the statement, if there is one
abbrev pub is_within_some : Option (ℕ × PatternStatement) → Body → Bool
is_within_some None b = true
is_within_some (Some s) b = is_within s.1 b

-- ---- rows

-- what stands for the place's body
pub record IsPlace (s : Scene) (p : Place) : Type 0 where
  pub lead : p.lead ≡ lead_of (text_in s) (leaves_of s) (statements_of s) p.body.now
  pub range : p.range ≡ own_leaves (text_in s) (leaves_of s) (statements_of s) p.body.now
  pub behind : p.behind.now ≡ behind_of (text_in s) (leaves_of s) (statements_of s) p.body.now
  pub left_out : p.left_out.now ≡ left_out_of (text_in s) (leaves_of s) (statements_of s) p.body.now

-- whether the first token is `else`, if there is one
abbrev pub first_else : List Token → Option Bool
first_else [] = None
first_else (t ∷ tokens) = Some (is_else t)

-- where the last token of a row ends, or else this
abbrev pub end_after : Option Spot → List RowToken → Option Spot
end_after end [] = end
end_after end (t ∷ row) = end_after (Some t.end) row

-- the row gets these tokens
pub record AddsRow (more : List RowToken) (old new : Row) : Type 0 where
  pub tokens : new.tokens.items ≡ old.tokens.items ++ tokens_in more
  pub end : new.end ≡ end_after old.end more

-- the row has these tokens alone
pub record IsRow (all : List RowToken) (row : Row) : Type 0 where
  pub tokens : row.tokens.items ≡ tokens_in all
  pub end : row.end ≡ end_after None all

-- ---- what becomes of bodies

-- the least of these tokens
abbrev pub lesser : Option ℕ → ℕ → Option ℕ
lesser None n = Some n
lesser (Some m) n = Some (min m n)

abbrev pub least_of : List ℕ → Option ℕ
least_of tokens = fold lesser None tokens

-- what becomes of bodies, as the code has it
abbrev pub in_code : Seen → SeenBodies
in_code s = record { braces = s.braces; broken = least_of s.broken }

-- what has become of bodies after one more of a statement that is looked at, whose row is read with these names
pub record SeesRow (s : Scene) (names : Names) (b : Body) (old : Seen) (new : SeenBodies) : Type 0 where
  pub reading : Option Tree
  pub read : IsReading names (tokens_in (row_of (text_in s) (leaves_of s) (statements_of s) b old.braces)) reading
  pub seen_so : new ≡ in_code (seen_row (text_in s) (leaves_of s) (statements_of s) b (option_map form_of reading) old)

-- what has become of bodies after one more, whose row is read with these names
pub record SeesBody (s : Scene) (names : Names) (b : Body) (old : Seen) (new : SeenBodies) : Type 0 where
  pub reading : Option Tree
  pub read : IsBodyReading (text_in s) (leaves_of s) (statements_of s) names b old.braces reading
  pub seen_so : new ≡ in_code (see (text_in s) (leaves_of s) (statements_of s) b (option_map form_of reading) old)

-- what has become of these bodies, after others
pub record SeesAll (s : Scene) (items : List Item) (bodies : List Body) (old : Seen) (new : SeenBodies) : Type 0 where
  pub readings : List (Option Tree)
  pub read : AreReadings (text_in s) (leaves_of s) (statements_of s) items bodies readings old
  pub seen_so : new ≡ in_code (see_all (text_in s) (leaves_of s) (statements_of s) bodies (map (option_map form_of) readings) old)
