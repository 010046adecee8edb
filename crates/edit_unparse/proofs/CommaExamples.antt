-- Small texts and the tidied results of edits to them: commas of lists.
use Rattle.std.specs.Prelude.{◌≡◌, true, false, List, [], ◌∷◌, ◌++◌, None, refl, codes}
use Rattle.c_terms.specs.declared.token.TokenKind.TheVariants.{Name, Punct}
use Rattle.c_lexer.specs.declared.piece.PieceKind.TheVariants.{Word, Blank}
use Rattle.c_lexer.specs.Pieces.{TextPiece, text_of}
use Rattle.c_show.specs.Joint.{runs_together}
use Rattle.edit_marks.specs.declared.edit_conflict.edit.Side.TheVariants.{Before}
use Rattle.edit_unparse.specs.Output.{spaced}
use Rattle.edit_unparse.specs.Tidy.Text.{tidied_parts}
use Rattle.edit_unparse.proofs.Sketches.{piece, insert, from, edit, no_frame, sketch, as_bytes}

-- a comma behind the opening bracket goes, with the blanks behind it
abbrev first_comma_text : List TextPiece
first_comma_text =
    piece (Word Name 0) (codes "f") ∷ piece (Word Punct 1) (codes "(") ∷ piece (Word Name 2) (codes "a") ∷ piece (Word Punct 3) (codes ",")
    ∷ piece Blank (codes " ") ∷ piece (Word Name 4) (codes "b") ∷ piece (Word Punct 5) (codes ")") ∷ piece (Word Punct 6) (codes ";") ∷ []

first_comma : sketch first_comma_text (edit (from 2 1) []
    ∷ [])
    (record no_frame { lists = record { opening = 1; closing = 5; may_end = false } ∷ [] })
    ≡ codes "f(b);"
unfolding runs_together
first_comma = refl

-- a comma before the closing bracket goes
abbrev last_comma_text : List TextPiece
last_comma_text =
    piece (Word Name 0) (codes "f") ∷ piece (Word Punct 1) (codes "(") ∷ piece (Word Name 2) (codes "a") ∷ piece (Word Punct 3) (codes ",")
    ∷ piece Blank (10 ∷ codes "  ") ∷ piece (Word Name 4) (codes "b") ∷ piece (Word Punct 5) (codes ")") ∷ piece (Word Punct 6) (codes ";") ∷ []

last_comma : sketch last_comma_text (edit (from 4 1) []
    ∷ [])
    (record no_frame { lists = record { opening = 1; closing = 5; may_end = false } ∷ [] })
    ≡ codes "f(a);"
unfolding runs_together
last_comma = refl

-- the last comma of initialisers stays
abbrev comma_of_initialisers_text : List TextPiece
comma_of_initialisers_text =
    piece (Word Punct 0) (codes "{") ∷ piece (Word Name 1) (codes "a") ∷ piece (Word Punct 2) (codes ",") ∷ piece Blank (codes " ")
    ∷ piece (Word Name 3) (codes "b") ∷ piece (Word Punct 4) (codes "}") ∷ piece (Word Punct 5) (codes ";") ∷ []

comma_of_initialisers : sketch comma_of_initialisers_text (edit (from 3 1) []
    ∷ [])
    (record no_frame { lists = record { opening = 0; closing = 4; may_end = true } ∷ [] })
    ≡ codes "{a, };"
unfolding runs_together
comma_of_initialisers = refl

-- several commas beside nothing go, and each list has its own
abbrev lists_in_lists_text : List TextPiece
lists_in_lists_text =
    piece (Word Name 0) (codes "f") ∷ piece (Word Punct 1) (codes "(") ∷ piece (Word Name 2) (codes "a") ∷ piece (Word Punct 3) (codes ",")
    ∷ piece Blank (codes " ") ∷ piece (Word Name 4) (codes "g") ∷ piece (Word Punct 5) (codes "(") ∷ piece (Word Name 6) (codes "b")
    ∷ piece (Word Punct 7) (codes ",") ∷ piece Blank (codes " ") ∷ piece (Word Name 8) (codes "c") ∷ piece (Word Punct 9) (codes ")")
    ∷ piece (Word Punct 10) (codes ",") ∷ piece Blank (codes " ") ∷ piece (Word Name 11) (codes "d") ∷ piece (Word Punct 12) (codes ")")
    ∷ piece (Word Punct 13) (codes ";") ∷ []

lists_in_lists : sketch lists_in_lists_text (edit (2 ∷ 8 ∷ 11 ∷ []) []
    ∷ [])
    (record no_frame { lists = record { opening = 1; closing = 12; may_end = false } ∷ record { opening = 5; closing = 9; may_end = false } ∷ [] })
    ≡ codes "f(g(b));"
unfolding runs_together
lists_in_lists = refl

-- the comma of an insert goes behind the opening bracket, and stays behind a token
abbrev an_empty_list_text : List TextPiece
an_empty_list_text =
    piece (Word Name 0) (codes "f") ∷ piece (Word Punct 1) (codes "(") ∷ piece (Word Punct 2) (codes ")") ∷ piece (Word Punct 3) (codes ";") ∷ []

an_empty_list : text_of (spaced None 99 (tidied_parts as_bytes an_empty_list_text (edit [] (insert 2 Before (codes ", 1 ") ∷ [])
    ∷ [])
    (record no_frame { lists = record { opening = 1; closing = 2; may_end = false } ∷ [] })))
    ≡ codes "f(1 );"
unfolding runs_together
an_empty_list = refl

abbrev a_list_of_one_text : List TextPiece
a_list_of_one_text =
    piece (Word Name 0) (codes "f") ∷ piece (Word Punct 1) (codes "(") ∷ piece (Word Name 2) (codes "a") ∷ piece (Word Punct 3) (codes ")")
    ∷ piece (Word Punct 4) (codes ";") ∷ []

a_list_of_one : text_of (spaced None 99 (tidied_parts as_bytes a_list_of_one_text (edit [] (insert 3 Before (codes ", 1 ") ∷ [])
    ∷ [])
    (record no_frame { lists = record { opening = 1; closing = 3; may_end = false } ∷ [] })))
    ≡ codes "f(a, 1 );"
unfolding runs_together
a_list_of_one = refl

-- a list in which nothing goes or comes stays as it is
abbrev other_lists_stay_text : List TextPiece
other_lists_stay_text =
    piece (Word Name 0) (codes "f") ∷ piece (Word Punct 1) (codes "(") ∷ piece (Word Name 2) (codes "a") ∷ piece (Word Punct 3) (codes ",")
    ∷ piece (Word Punct 4) (codes ")") ∷ piece (Word Punct 5) (codes ";") ∷ []

other_lists_stay : sketch other_lists_stay_text (edit (5 ∷ []) []
    ∷ [])
    (record no_frame { lists = record { opening = 1; closing = 4; may_end = false } ∷ [] })
    ≡ codes "f(a,)"
unfolding runs_together
other_lists_stay = refl

-- a blank with a backslash behind a comma that goes stays
abbrev a_splice_behind_a_comma_text : List TextPiece
a_splice_behind_a_comma_text =
    piece (Word Name 0) (codes "f") ∷ piece (Word Punct 1) (codes "(") ∷ piece (Word Name 2) (codes "a") ∷ piece (Word Punct 3) (codes ",")
    ∷ piece Blank (32 ∷ 92 ∷ 10 ∷ []) ∷ piece (Word Name 4) (codes "b") ∷ piece (Word Punct 5) (codes ")") ∷ []

a_splice_behind_a_comma : sketch a_splice_behind_a_comma_text (edit (2 ∷ []) []
    ∷ [])
    (record no_frame { lists = record { opening = 1; closing = 5; may_end = false } ∷ [] })
    ≡ codes "f(" ++ 32 ∷ 92 ∷ 10 ∷ codes "b)"
unfolding runs_together
a_splice_behind_a_comma = refl
