-- Notes on the items that a reading skips.
use Rattle.std.specs.Prelude.{ℕ, suc, nat_lt, if◌then◌else◌, List, [], ◌∷◌, Option, Some, None, option_and_then, slice_get, slice_range}
use Rattle.std.specs.Option.{option_or}
use Rattle.c_lexer.specs.declared.piece.PieceKind.{PieceKind}
use Rattle.c_lexer.specs.declared.piece.PieceKind.TheVariants.{Word}
use Rattle.c_lexer.specs.Pieces.{TextPiece}
use Rattle.cpp_lines.specs.declared.span.ItemSpan.{ItemSpan}
use Rattle.cpp_lines.specs.declared.reading.Item.{Item}
use Rattle.cpp_lines.specs.declared.reading.Item.TheVariants.{Parsed, Skipped}
use Rattle.c_file.specs.File.{FileItems}
use Rattle.rule_chain.specs.declared.rule_run.state.SkipNote.{SkipNote}

-- The id of a token of the text that was loaded, whose tokens have the ids below `loaded`. Tokens that edits add have greater
-- ones.
abbrev pub loaded_id : (loaded : ℕ) → PieceKind → Option ℕ
loaded_id loaded (Word kind id) = if nat_lt id loaded then Some id else None
loaded_id loaded _ = None

-- the id of the first such token among the pieces with these numbers
abbrev pub first_loaded : (loaded : ℕ) → List TextPiece → List ℕ → Option ℕ
first_loaded loaded pieces [] = None
first_loaded loaded pieces (number ∷ numbers) =
    option_or (option_and_then (λ (p : TextPiece). loaded_id loaded p.kind) (slice_get pieces number)) (first_loaded loaded pieces numbers)

-- the id of the first such token among the visible ones of an item
abbrev pub item_token : (loaded : ℕ) → FileItems → ItemSpan → Option ℕ
item_token loaded file span = first_loaded loaded file.pieces (slice_range file.shown span.first span.last)

-- notes on those of these items of a file that a reading skipped; they are numbered from here
abbrev pub notes_from : (loaded reading : ℕ) → FileItems → (at : ℕ) → List Item → List SkipNote
notes_from loaded reading file at [] = []
notes_from loaded reading file at (Parsed t ∷ items) = notes_from loaded reading file (suc at) items
notes_from loaded reading file at (Skipped span why ∷ items) =
    record { reading = reading; item = at; why = why; token = item_token loaded file span } ∷ notes_from loaded reading file (suc at) items

-- the notes on a reading
abbrev pub notes_on : (loaded reading : ℕ) → FileItems → List SkipNote
notes_on loaded reading file = notes_from loaded reading file 0 file.items
