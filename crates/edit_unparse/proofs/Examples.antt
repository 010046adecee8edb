-- Small texts and the results of edits to them.
use Rattle.std.specs.Prelude.{◌≡◌, ℕ, List, [], ◌∷◌, ◌++◌, refl, codes}
use Rattle.c_terms.specs.declared.token.TokenKind.TheVariants.{Name, Punct}
use Rattle.c_lexer.specs.declared.piece.PieceKind.{PieceKind}
use Rattle.c_lexer.specs.declared.piece.PieceKind.TheVariants.{Word, Blank, Comment}
use Rattle.c_lexer.specs.Pieces.{TextPiece, text_of}
use Rattle.c_lexer.specs.Ids.{ids_of}
use Rattle.c_show.specs.Joint.{runs_together}
use Rattle.edit_marks.specs.declared.edit_conflict.edit.Edit.{Edit}
use Rattle.edit_unparse.specs.Output.{output_of}

abbrev piece : PieceKind → List ℕ → TextPiece
piece kind text = record { kind = kind; text = text }

abbrev removal : ℕ → Edit
removal token = record { removed = token ∷ []; inserts = [] }

-- `a-b`
abbrev difference : List TextPiece
difference = piece (Word Name 0) (codes "a") ∷ piece (Word Punct 1) (codes "-") ∷ piece (Word Name 2) (codes "b") ∷ []

-- two names that were not neighbours are separated, and keep their ids
parted : text_of (output_of difference (removal 1 ∷ []) 9) ≡ codes "a b"
unfolding runs_together
parted = refl

ids_stay : ids_of (output_of difference (removal 1 ∷ []) 9) ≡ 0 ∷ 2 ∷ []
unfolding runs_together
ids_stay = refl

-- a name and a sign need no space
not_parted : text_of (output_of difference (removal 0 ∷ []) 9) ≡ codes "-b"
unfolding runs_together
not_parted = refl

-- the blanks beside a removed token stay, and separate what is left
blanks_stay : text_of (output_of (piece (Word Name 0) (codes "a") ∷ piece Blank (32 ∷ []) ∷ piece (Word Punct 1) (codes "-")
    ∷ piece Blank (9 ∷ []) ∷ piece (Word Name 2) (codes "b") ∷ []) (removal 1 ∷ []) 9) ≡ codes "a" ++ 32 ∷ 9 ∷ codes "b"
unfolding runs_together
blanks_stay = refl

-- `/` and what is left of `/b/` after it would begin a comment
no_comment_begins : text_of (output_of (piece (Word Punct 0) (codes "/") ∷ piece (Word Name 1) (codes "b")
    ∷ piece (Word Punct 2) (codes "/") ∷ []) (removal 1 ∷ []) 9) ≡ codes "/ /"
unfolding runs_together
no_comment_begins = refl

-- a comment is not a token: no space comes after it
after_a_comment : text_of (output_of (piece Comment (codes "/**/") ∷ piece (Word Name 0) (codes "a")
    ∷ piece (Word Name 1) (codes "b") ∷ []) (removal 0 ∷ []) 9) ≡ codes "/**/b"
unfolding runs_together
after_a_comment = refl

-- neighbours in the old text stay next to each other, whatever they are
old_neighbours : text_of (output_of (piece (Word Punct 0) (codes ".") ∷ piece (Word Punct 1) (codes ".")
    ∷ piece (Word Name 2) (codes "a") ∷ []) (removal 2 ∷ []) 9) ≡ codes ".."
unfolding runs_together
old_neighbours = refl
