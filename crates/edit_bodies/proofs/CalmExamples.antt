-- Lists in small texts, and which of them may lose their commas, each worked out by hand.
use Rattle.std.proofs.Common.{◌≡◌, ℕ, false, refl, List, [], ◌∷◌, codes}
use Rattle.std.specs.Prelude.{filter}
use Rattle.c_terms.specs.declared.token.TokenKind.TheVariants.{Name, Punct, Stray}
use Rattle.c_lexer.specs.declared.piece.PieceKind.{PieceKind}
use Rattle.c_lexer.specs.declared.piece.PieceKind.TheVariants.{Word, Blank, Comment, Line}
use Rattle.c_lexer.specs.Pieces.{TextPiece}
use Rattle.edit_unparse.specs.declared.tidy.commas.CommaList.{CommaList}
use Rattle.edit_bodies.specs.Calm.{is_calm}

abbrev piece : PieceKind → List ℕ → TextPiece
piece kind text = record { kind = kind; text = text }

abbrev name : ℕ → List ℕ → TextPiece
name id text = piece (Word Name id) text

abbrev sign : ℕ → List ℕ → TextPiece
sign id text = piece (Word Punct id) text

abbrev space : TextPiece
space = piece Blank (codes " ")

abbrev new_line : TextPiece
new_line = piece Blank (10 ∷ [])

abbrev list : ℕ → ℕ → CommaList
list opening closing = record { opening = opening; closing = closing; may_end = false }

-- `f(a,`, `#ifdef B`, `b,`, `#endif`, `c);`, `#define D`, `g(a, /* e */ b);`, each on a line
abbrev with_lines : List TextPiece
with_lines =
    name 0 (codes "f") ∷ sign 1 (codes "(") ∷ name 2 (codes "a") ∷ sign 3 (codes ",") ∷ new_line ∷ piece Line (codes "#ifdef B") ∷ new_line
    ∷ name 4 (codes "b") ∷ sign 5 (codes ",") ∷ new_line ∷ piece Line (codes "#endif") ∷ new_line ∷ name 6 (codes "c") ∷ sign 7 (codes ")")
    ∷ sign 8 (codes ";") ∷ new_line ∷ piece Line (codes "#define D") ∷ new_line ∷ name 9 (codes "g") ∷ sign 10 (codes "(") ∷ name 11 (codes "a")
    ∷ sign 12 (codes ",") ∷ space ∷ piece Comment (codes "/* e */") ∷ space ∷ name 13 (codes "b") ∷ sign 14 (codes ")") ∷ sign 15 (codes ";") ∷ []

-- the list with `#` lines keeps its commas, the one behind a `#` line doesn't
list_with_lines : filter (is_calm with_lines) (list 1 7 ∷ list 10 14 ∷ []) ≡ list 10 14 ∷ []
list_with_lines = refl

-- `f(`, `#ifdef B`, `g(a, b),`, `#endif`, `c)`: the inner list may lose its comma
abbrev around_a_list : List TextPiece
around_a_list =
    name 0 (codes "f") ∷ sign 1 (codes "(") ∷ new_line ∷ piece Line (codes "#ifdef B") ∷ new_line ∷ name 2 (codes "g") ∷ sign 3 (codes "(")
    ∷ name 4 (codes "a") ∷ sign 5 (codes ",") ∷ space ∷ name 6 (codes "b") ∷ sign 7 (codes ")") ∷ sign 8 (codes ",") ∷ new_line
    ∷ piece Line (codes "#endif") ∷ new_line ∷ name 9 (codes "c") ∷ sign 10 (codes ")") ∷ []

list_within_lines : filter (is_calm around_a_list) (list 1 10 ∷ list 3 7 ∷ []) ≡ list 3 7 ∷ []
list_within_lines = refl

-- `f(a @ b), g(a, b)`
abbrev with_a_stray : List TextPiece
with_a_stray =
    name 0 (codes "f") ∷ sign 1 (codes "(") ∷ name 2 (codes "a") ∷ space ∷ piece (Word Stray 3) (codes "@") ∷ space ∷ name 4 (codes "b")
    ∷ sign 5 (codes ")") ∷ sign 6 (codes ",") ∷ space ∷ name 7 (codes "g") ∷ sign 8 (codes "(") ∷ name 9 (codes "a") ∷ sign 10 (codes ",") ∷ space
    ∷ name 11 (codes "b") ∷ sign 12 (codes ")") ∷ []

list_with_a_stray : filter (is_calm with_a_stray) (list 1 5 ∷ list 8 12 ∷ []) ≡ list 8 12 ∷ []
list_with_a_stray = refl
