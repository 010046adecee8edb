-- Typed declarations whose type is probably a misspelt kind of metavariables.
use Rattle.std.specs.Prelude.{ℕ, Bool, false, ◌&&◌, not, cond, ◌==◌, Option, None, Some, option_map, List, [], ◌∷◌}
use Rattle.std.specs.List.{flat_map}
use Rattle.text_places.specs.Places.{place_of}
use Rattle.smpl_lexer.specs.declared.token.PatchToken.{PatchToken}
use Rattle.smpl_lexer.specs.Tokens.{is_name}
use Rattle.smpl_meta.specs.Forms.{is_keyword, parts}
use Rattle.smpl_meta.specs.Typed.{specs_length}
use Rattle.smpl_notes.specs.declared.note.Slip.{Slip}
use Rattle.smpl_notes.specs.declared.note.Slip.TheVariants.{MisspeltKind, UnreadKind}
use Rattle.smpl_notes.specs.declared.note.Note.{Note}
use Rattle.smpl_notes.specs.declared.note.Note.TheVariants.{InRule}
use Rattle.smpl_notes.specs.KindWords.{is_unread_kind, kind_meant}

-- ---- names of types

-- what is probably wrong with a type of this name
abbrev pub word_slip : List ℕ → Option Slip
word_slip word = cond (is_unread_kind word) (Some (UnreadKind word)) (option_map (MisspeltKind word) (kind_meant word))

abbrev pub slip_note : List ℕ → ℕ → ℕ → Option Slip → List Note
slip_note bytes rule at None = []
slip_note bytes rule at (Some s) = InRule rule (Some (place_of bytes at)) s ∷ []

-- the note on a type of this name, in the rule of this number
abbrev pub type_note : List ℕ → ℕ → PatchToken → List Note
type_note bytes rule t = slip_note bytes rule t.at (word_slip t.token.text)

-- ---- declarations

-- the declaration's specifiers, if they are one name
abbrev pub lone_type : List PatchToken → List PatchToken
lone_type [] = []
lone_type (t ∷ ts) = cond (is_name t && (specs_length (t ∷ ts) == 1)) (t ∷ []) []

-- Of each declaration whose specifiers are one name, the note on it. The word for a kind, with which other declarations begin,
-- was meant to be itself.
abbrev pub type_notes : List ℕ → ℕ → List PatchToken → List Note
type_notes bytes rule decls = flat_map (type_note bytes rule) (flat_map lone_type (parts decls))

-- ---- token by token

abbrev pub is_some_keyword : Option PatchToken → Bool
is_some_keyword None = false
is_some_keyword (Some t) = is_keyword t

-- a declaration that begins with these two tokens has one name as its specifiers: no keyword follows the name
abbrev pub is_lone : PatchToken → Option PatchToken → Bool
is_lone t next = is_name t && not (is_some_keyword next)
