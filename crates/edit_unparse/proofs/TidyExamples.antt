-- Small texts and the tidied results of edits to them: runs, lines, inserts and braces.
use Rattle.std.specs.Prelude.{◌≡◌, ◌+◌, true, List, [], ◌∷◌, ◌++◌, refl, codes}
use Rattle.c_terms.specs.declared.token.TokenKind.TheVariants.{Name, Keyword, Number, Punct}
use Rattle.c_lexer.specs.declared.piece.PieceKind.TheVariants.{Word, Blank, Comment}
use Rattle.c_lexer.specs.Pieces.{TextPiece}
use Rattle.c_show.specs.Joint.{runs_together}
use Rattle.edit_marks.specs.declared.edit_conflict.edit.Side.TheVariants.{After}
use Rattle.edit_unparse.proofs.Sketches.{piece, insert, from, edit, brace, no_frame, sketch}

-- the blanks within what an edit removes go, and what comes stands at the front
abbrev one_line_text : List TextPiece
one_line_text =
    piece Blank (9 ∷ []) ∷ piece (Word Name 0) (codes "p") ∷ piece Blank (codes " ") ∷ piece (Word Punct 1) (codes "=") ∷ piece Blank (codes " ")
    ∷ piece (Word Name 2) (codes "dev_alloc") ∷ piece (Word Punct 3) (codes "(") ∷ piece (Word Name 4) (codes "d") ∷ piece (Word Punct 5) (codes ",")
    ∷ piece Blank (codes " ") ∷ piece (Word Number 6) (codes "10") ∷ piece (Word Punct 7) (codes ")") ∷ piece (Word Punct 8) (codes ";")
    ∷ piece Blank (10 ∷ []) ∷ []

one_line : sketch one_line_text (edit (from 0 9) (insert 8 After (codes "p = dev_zalloc(d, 10);") ∷ [])
    ∷ [])
    no_frame
    ≡ 9 ∷ codes "p = dev_zalloc(d, 10);" ++ 10 ∷ []
unfolding runs_together
one_line = refl

-- a statement over two lines becomes one line, and the comment behind it stays
abbrev two_lines_text : List TextPiece
two_lines_text =
    piece Blank (9 ∷ []) ∷ piece (Word Name 0) (codes "q") ∷ piece Blank (codes " ") ∷ piece (Word Punct 1) (codes "=") ∷ piece Blank (codes " ")
    ∷ piece (Word Name 2) (codes "f") ∷ piece (Word Punct 3) (codes "(") ∷ piece (Word Name 4) (codes "d") ∷ piece (Word Punct 5) (codes ",")
    ∷ piece Blank (10 ∷ 9 ∷ 9 ∷ 9 ∷ []) ∷ piece (Word Name 6) (codes "n") ∷ piece (Word Punct 7) (codes ")") ∷ piece (Word Punct 8) (codes ";")
    ∷ piece Blank (9 ∷ []) ∷ piece Comment (codes "/* why */") ∷ piece Blank (10 ∷ []) ∷ []

two_lines : sketch two_lines_text (edit (from 0 9) (insert 8 After (codes "q = g(d, n);") ∷ [])
    ∷ [])
    no_frame
    ≡ 9 ∷ codes "q = g(d, n);" ++ 9 ∷ codes "/* why */" ++ 10 ∷ []
unfolding runs_together
two_lines = refl

-- a line with another token stays as it is
abbrev in_the_middle_text : List TextPiece
in_the_middle_text =
    piece Blank (9 ∷ []) ∷ piece (Word Name 0) (codes "a") ∷ piece (Word Punct 1) (codes "(") ∷ piece (Word Punct 2) (codes ")")
    ∷ piece (Word Punct 3) (codes ";") ∷ piece Blank (codes " ") ∷ piece (Word Name 4) (codes "b") ∷ piece (Word Punct 5) (codes "(")
    ∷ piece (Word Number 6) (codes "1") ∷ piece (Word Punct 7) (codes ",") ∷ piece Blank (10 ∷ 9 ∷ 9 ∷ []) ∷ piece (Word Number 8) (codes "2")
    ∷ piece (Word Punct 9) (codes ")") ∷ piece (Word Punct 10) (codes ";") ∷ piece Blank (codes " ") ∷ piece (Word Name 11) (codes "c")
    ∷ piece (Word Punct 12) (codes "(") ∷ piece (Word Punct 13) (codes ")") ∷ piece (Word Punct 14) (codes ";") ∷ piece Blank (10 ∷ []) ∷ []

in_the_middle : sketch in_the_middle_text (edit (from 4 7) []
    ∷ [])
    no_frame
    ≡ 9 ∷ codes "a();  c();" ++ 10 ∷ []
unfolding runs_together
in_the_middle = refl

-- a line of which only blanks are left goes
abbrev an_emptied_line_text : List TextPiece
an_emptied_line_text =
    piece Blank (9 ∷ []) ∷ piece (Word Name 0) (codes "p") ∷ piece Blank (codes " ") ∷ piece (Word Punct 1) (codes "=") ∷ piece Blank (codes " ")
    ∷ piece (Word Name 2) (codes "a") ∷ piece (Word Punct 3) (codes "(") ∷ piece (Word Number 4) (codes "10") ∷ piece (Word Punct 5) (codes ",")
    ∷ piece Blank (codes " ") ∷ piece (Word Name 6) (codes "K") ∷ piece (Word Punct 7) (codes ")") ∷ piece (Word Punct 8) (codes ";")
    ∷ piece Blank (10 ∷ 9 ∷ []) ∷ piece (Word Name 9) (codes "z") ∷ piece (Word Punct 10) (codes "(") ∷ piece (Word Name 11) (codes "p")
    ∷ piece (Word Punct 12) (codes ",") ∷ piece Blank (codes " ") ∷ piece (Word Number 13) (codes "0") ∷ piece (Word Punct 14) (codes ")")
    ∷ piece (Word Punct 15) (codes ";") ∷ piece Blank (10 ∷ 9 ∷ []) ∷ piece (Word Keyword 16) (codes "return") ∷ piece Blank (codes " ")
    ∷ piece (Word Number 17) (codes "0") ∷ piece (Word Punct 18) (codes ";") ∷ piece Blank (10 ∷ []) ∷ []

an_emptied_line : sketch an_emptied_line_text (edit (from 0 9) (insert 8 After (codes "p = b(10, K);") ∷ [])
    ∷ edit (from 9 7) []
    ∷ [])
    no_frame
    ≡ 9 ∷ codes "p = b(10, K);" ++ 10 ∷ 9 ∷ codes "return 0;" ++ 10 ∷ []
unfolding runs_together
an_emptied_line = refl

-- a call around a value of a member, whose blanks go with it
abbrev an_inner_value_text : List TextPiece
an_inner_value_text =
    piece (Word Punct 0) (codes "(") ∷ piece (Word Name 1) (codes "d") ∷ piece Blank (codes " ") ∷ piece (Word Punct 2) (codes "+") ∷ piece Blank (codes " ")
    ∷ piece (Word Number 3) (codes "1") ∷ piece (Word Punct 4) (codes ")") ∷ piece (Word Punct 5) (codes "->") ∷ piece (Word Name 6) (codes "priv")
    ∷ piece (Word Punct 7) (codes "->") ∷ piece (Word Name 8) (codes "n") ∷ piece (Word Punct 9) (codes ";") ∷ []

an_inner_value : sketch an_inner_value_text (edit (from 0 7) (insert 6 After (codes "get_priv((d + 1))") ∷ [])
    ∷ [])
    no_frame
    ≡ codes "get_priv((d + 1))->n;"
unfolding runs_together
an_inner_value = refl

-- an argument more: the comma stands directly behind the token before it
abbrev one_argument_more_text : List TextPiece
one_argument_more_text =
    piece Blank (9 ∷ []) ∷ piece (Word Name 0) (codes "f") ∷ piece (Word Punct 1) (codes "(") ∷ piece (Word Name 2) (codes "d")
    ∷ piece (Word Punct 3) (codes ",") ∷ piece Blank (codes " ") ∷ piece (Word Number 4) (codes "10") ∷ piece (Word Punct 5) (codes ")")
    ∷ piece (Word Punct 6) (codes ";") ∷ piece Blank (10 ∷ []) ∷ []

one_argument_more : sketch one_argument_more_text (edit [] (insert 4 After (codes ", GFP") ∷ [])
    ∷ [])
    no_frame
    ≡ 9 ∷ codes "f(d, 10, GFP);" ++ 10 ∷ []
unfolding runs_together
one_argument_more = refl

-- a token that stays keeps the blanks beside it
abbrev a_statement_more_text : List TextPiece
a_statement_more_text =
    piece Blank (9 ∷ []) ∷ piece (Word Name 0) (codes "d") ∷ piece (Word Punct 1) (codes "(") ∷ piece Blank (10 ∷ 9 ∷ 9 ∷ 9 ∷ [])
    ∷ piece (Word Name 2) (codes "a") ∷ piece (Word Punct 3) (codes ")") ∷ piece (Word Punct 4) (codes ";") ∷ piece Blank (10 ∷ []) ∷ []

a_statement_more : sketch a_statement_more_text (edit [] (insert 4 After (10 ∷ 9 ∷ codes "e(a);") ∷ [])
    ∷ [])
    no_frame
    ≡ 9 ∷ codes "d(" ++ 10 ∷ 9 ∷ 9 ∷ 9 ∷ codes "a);" ++ 10 ∷ 9 ∷ codes "e(a);" ++ 10 ∷ []
unfolding runs_together
a_statement_more = refl

abbrev two_for_one_text : List TextPiece
two_for_one_text =
    piece Blank (9 ∷ []) ∷ piece (Word Name 0) (codes "d") ∷ piece (Word Punct 1) (codes "(") ∷ piece Blank (10 ∷ 9 ∷ 9 ∷ 9 ∷ [])
    ∷ piece (Word Name 2) (codes "a") ∷ piece (Word Punct 3) (codes ")") ∷ piece (Word Punct 4) (codes ";") ∷ piece Blank (10 ∷ []) ∷ []

two_for_one : sketch two_for_one_text (edit (from 0 5) (insert 4 After (codes "e(a);" ++ 10 ∷ 9 ∷ codes "g(a);") ∷ [])
    ∷ [])
    no_frame
    ≡ 9 ∷ codes "e(a);" ++ 10 ∷ 9 ∷ codes "g(a);" ++ 10 ∷ []
unfolding runs_together
two_for_one = refl

-- what comes stands before the last run, and the comment stays
abbrev a_comment_parts_a_run_text : List TextPiece
a_comment_parts_a_run_text =
    piece Blank (9 ∷ []) ∷ piece (Word Name 0) (codes "d") ∷ piece (Word Punct 1) (codes "(") ∷ piece (Word Name 2) (codes "a")
    ∷ piece Blank (codes " ") ∷ piece Comment (codes "/* c */") ∷ piece Blank (codes " ") ∷ piece (Word Punct 3) (codes ")")
    ∷ piece (Word Punct 4) (codes ";") ∷ piece Blank (10 ∷ []) ∷ []

a_comment_parts_a_run : sketch a_comment_parts_a_run_text (edit (from 0 5) (insert 4 After (codes "e(a);") ∷ [])
    ∷ [])
    no_frame
    ≡ 9 ∷ codes " /* c */ e(a);" ++ 10 ∷ []
unfolding runs_together
a_comment_parts_a_run = refl

abbrev a_splice_parts_a_run_text : List TextPiece
a_splice_parts_a_run_text =
    piece Blank (9 ∷ []) ∷ piece (Word Name 0) (codes "d") ∷ piece (Word Punct 1) (codes "(") ∷ piece (Word Name 2) (codes "a")
    ∷ piece Blank (codes " " ++ 92 ∷ 10 ∷ 9 ∷ []) ∷ piece (Word Punct 3) (codes ")") ∷ piece (Word Punct 4) (codes ";") ∷ piece Blank (10 ∷ []) ∷ []

a_splice_parts_a_run : sketch a_splice_parts_a_run_text (edit (from 0 5) (insert 4 After (codes "e(a);") ∷ [])
    ∷ [])
    no_frame
    ≡ 9 ∷ codes " " ++ 92 ∷ 10 ∷ 9 ∷ codes "e(a);" ++ 10 ∷ []
unfolding runs_together
a_splice_parts_a_run = refl

-- of a statement of which nothing stays, all counts as removed by one edit
abbrev a_whole_statement_text : List TextPiece
a_whole_statement_text =
    piece Blank (9 ∷ []) ∷ piece (Word Keyword 0) (codes "if") ∷ piece Blank (codes " ") ∷ piece (Word Punct 1) (codes "(")
    ∷ piece (Word Name 2) (codes "p") ∷ piece (Word Punct 3) (codes ")") ∷ piece Blank (10 ∷ 9 ∷ 9 ∷ []) ∷ piece (Word Name 4) (codes "k")
    ∷ piece (Word Punct 5) (codes "(") ∷ piece (Word Name 6) (codes "p") ∷ piece (Word Punct 7) (codes ")") ∷ piece (Word Punct 8) (codes ";")
    ∷ piece Blank (10 ∷ []) ∷ []

a_whole_statement : sketch a_whole_statement_text (edit (from 0 4) []
    ∷ edit (from 4 5) (insert 8 After (codes "k(p);" ++ 10 ∷ 9 ∷ codes "p = 0;") ∷ [])
    ∷ [])
    (record no_frame { gone = record { first = 0; last = 8 } ∷ [] })
    ≡ 9 ∷ codes "k(p);" ++ 10 ∷ 9 ∷ codes "p = 0;" ++ 10 ∷ []
unfolding runs_together
a_whole_statement = refl

abbrev a_comment_in_a_statement_text : List TextPiece
a_comment_in_a_statement_text =
    piece Blank (9 ∷ []) ∷ piece (Word Keyword 0) (codes "if") ∷ piece Blank (codes " ") ∷ piece (Word Punct 1) (codes "(")
    ∷ piece (Word Name 2) (codes "p") ∷ piece (Word Punct 3) (codes ")") ∷ piece Blank (codes " ") ∷ piece Comment (codes "// c")
    ∷ piece Blank (10 ∷ 9 ∷ 9 ∷ []) ∷ piece (Word Name 4) (codes "k") ∷ piece (Word Punct 5) (codes "(") ∷ piece (Word Name 6) (codes "p")
    ∷ piece (Word Punct 7) (codes ")") ∷ piece (Word Punct 8) (codes ";") ∷ piece Blank (10 ∷ []) ∷ []

a_comment_in_a_statement : sketch a_comment_in_a_statement_text (edit (from 0 4) []
    ∷ edit (from 4 5) (insert 8 After (codes "k(p);") ∷ [])
    ∷ [])
    (record no_frame { gone = record { first = 0; last = 8 } ∷ [] })
    ≡ 9 ∷ codes " // c" ++ 10 ∷ 9 ∷ 9 ∷ codes "k(p);" ++ 10 ∷ []
unfolding runs_together
a_comment_in_a_statement = refl

-- a line with a comment is not emptied
abbrev a_comment_stays_with_its_line_text : List TextPiece
a_comment_stays_with_its_line_text =
    piece Blank (9 ∷ []) ∷ piece (Word Name 0) (codes "g") ∷ piece (Word Punct 1) (codes "(") ∷ piece (Word Number 2) (codes "1")
    ∷ piece (Word Punct 3) (codes ")") ∷ piece (Word Punct 4) (codes ";") ∷ piece Blank (codes " ") ∷ piece Comment (codes "// c")
    ∷ piece Blank (10 ∷ []) ∷ piece (Word Punct 5) (codes "}") ∷ piece Blank (10 ∷ []) ∷ []

a_comment_stays_with_its_line : sketch a_comment_stays_with_its_line_text (edit (from 0 5) []
    ∷ [])
    no_frame
    ≡ 9 ∷ codes " // c" ++ 10 ∷ codes "}" ++ 10 ∷ []
unfolding runs_together
a_comment_stays_with_its_line = refl

abbrev lines_of_a_statement_go_text : List TextPiece
lines_of_a_statement_go_text =
    piece (Word Punct 0) (codes "{") ∷ piece Blank (10 ∷ 9 ∷ []) ∷ piece (Word Name 1) (codes "g") ∷ piece (Word Punct 2) (codes "(")
    ∷ piece Blank (10 ∷ 9 ∷ 9 ∷ []) ∷ piece (Word Number 3) (codes "1") ∷ piece (Word Punct 4) (codes ")") ∷ piece (Word Punct 5) (codes ";")
    ∷ piece Blank (10 ∷ []) ∷ piece (Word Punct 6) (codes "}") ∷ piece Blank (10 ∷ []) ∷ []

lines_of_a_statement_go : sketch lines_of_a_statement_go_text (edit (from 1 5) []
    ∷ [])
    no_frame
    ≡ codes "{" ++ 10 ∷ codes "}" ++ 10 ∷ []
unfolding runs_together
lines_of_a_statement_go = refl

-- braces come behind the token before the body, and behind what stands in its place
abbrev braces_around_two_text : List TextPiece
braces_around_two_text =
    piece Blank (9 ∷ []) ∷ piece (Word Keyword 0) (codes "if") ∷ piece Blank (codes " ") ∷ piece (Word Punct 1) (codes "(")
    ∷ piece (Word Name 2) (codes "a") ∷ piece (Word Punct 3) (codes ")") ∷ piece Blank (10 ∷ 9 ∷ 9 ∷ []) ∷ piece (Word Name 4) (codes "d")
    ∷ piece (Word Punct 5) (codes "(") ∷ piece (Word Name 6) (codes "a") ∷ piece (Word Punct 7) (codes ")") ∷ piece (Word Punct 8) (codes ";")
    ∷ piece Blank (10 ∷ []) ∷ []

braces_around_two : sketch braces_around_two_text (edit [] (insert 8 After (10 ∷ 9 ∷ 9 ∷ codes "e(a);") ∷ [])
    ∷ [])
    (record no_frame { braces = brace 3 true 0 (codes " {") ∷ brace 8 true 1 (10 ∷ 9 ∷ codes "}") ∷ [] })
    ≡ 9 ∷ codes "if (a) {" ++ 10 ∷ 9 ∷ 9 ∷ codes "d(a);" ++ 10 ∷ 9 ∷ 9 ∷ codes "e(a);" ++ 10 ∷ 9 ∷ codes "}" ++ 10 ∷ []
unfolding runs_together
braces_around_two = refl

abbrev braces_around_nothing_text : List TextPiece
braces_around_nothing_text =
    piece Blank (9 ∷ []) ∷ piece (Word Keyword 0) (codes "if") ∷ piece Blank (codes " ") ∷ piece (Word Punct 1) (codes "(")
    ∷ piece (Word Name 2) (codes "a") ∷ piece (Word Punct 3) (codes ")") ∷ piece Blank (10 ∷ 9 ∷ 9 ∷ []) ∷ piece (Word Keyword 4) (codes "while")
    ∷ piece Blank (codes " ") ∷ piece (Word Punct 5) (codes "(") ∷ piece (Word Name 6) (codes "a") ∷ piece (Word Punct 7) (codes ")")
    ∷ piece Blank (10 ∷ 9 ∷ 9 ∷ 9 ∷ []) ∷ piece (Word Name 8) (codes "d") ∷ piece (Word Punct 9) (codes "(") ∷ piece (Word Name 10) (codes "a")
    ∷ piece (Word Punct 11) (codes ")") ∷ piece (Word Punct 12) (codes ";") ∷ piece Blank (10 ∷ []) ∷ []

braces_around_nothing : sketch braces_around_nothing_text (edit (from 4 4) []
    ∷ edit (from 8 5) []
    ∷ [])
    (record no_frame { gone = record { first = 4; last = 12 } ∷ []; braces = brace 3 true 0 (codes " {") ∷ brace 3 true 0 (10 ∷ 9 ∷ codes "}") ∷ [] })
    ≡ 9 ∷ codes "if (a) {" ++ 10 ∷ 9 ∷ codes "}" ++ 10 ∷ []
unfolding runs_together
braces_around_nothing = refl

abbrev deepest_first_text : List TextPiece
deepest_first_text =
    piece (Word Name 0) (codes "a") ∷ piece (Word Punct 1) (codes "(") ∷ piece (Word Punct 2) (codes ")") ∷ piece (Word Punct 3) (codes ";")
    ∷ piece Blank (10 ∷ []) ∷ []

deepest_first : sketch deepest_first_text (edit [] (insert 3 After (codes " b();") ∷ [])
    ∷ edit [] (insert 3 After (codes " c();") ∷ [])
    ∷ [])
    (record no_frame { depths = 1 ∷ 2 ∷ [] })
    ≡ codes "a(); c(); b();" ++ 10 ∷ []
unfolding runs_together
deepest_first = refl

-- a space where a token and a piece that was not its neighbour would run together
abbrev a_space_where_a_line_was_text : List TextPiece
a_space_where_a_line_was_text =
    piece (Word Name 0) (codes "a") ∷ piece (Word Punct 1) (codes "-") ∷ piece (Word Name 2) (codes "b") ∷ []

a_space_where_a_line_was : sketch a_space_where_a_line_was_text (edit (1 ∷ []) []
    ∷ [])
    no_frame
    ≡ codes "a b"
unfolding runs_together
a_space_where_a_line_was = refl

-- a line with a backslash is not emptied
abbrev a_line_with_a_backslash_text : List TextPiece
a_line_with_a_backslash_text =
    piece Blank (9 ∷ []) ∷ piece (Word Name 0) (codes "a") ∷ piece (Word Punct 1) (codes ";")
    ∷ piece Blank (32 ∷ 92 ∷ 10 ∷ []) ∷ piece (Word Name 2) (codes "b") ∷ []

a_line_with_a_backslash : sketch a_line_with_a_backslash_text (edit (0 ∷ 1 ∷ []) []
    ∷ [])
    no_frame
    ≡ 9 ∷ 32 ∷ 92 ∷ 10 ∷ codes "b"
unfolding runs_together
a_line_with_a_backslash = refl

-- carriage returns are blanks of their lines
abbrev a_line_with_a_return_text : List TextPiece
a_line_with_a_return_text =
    piece (Word Punct 0) (codes "{") ∷ piece Blank (13 ∷ 10 ∷ 9 ∷ []) ∷ piece (Word Name 1) (codes "a") ∷ piece (Word Punct 2) (codes ";")
    ∷ piece Blank (13 ∷ 10 ∷ []) ∷ piece (Word Punct 3) (codes "}") ∷ []

a_line_with_a_return : sketch a_line_with_a_return_text (edit (1 ∷ 2 ∷ []) []
    ∷ [])
    no_frame
    ≡ codes "{" ++ 13 ∷ 10 ∷ codes "}"
unfolding runs_together
a_line_with_a_return = refl
