-- Examples of where tokens begin, above all those on which another reading would differ.
use Rattle.std.specs.Prelude.{ℕ, ◌≡◌, List, [], ◌∷◌, refl, codes}
use Rattle.c_terms.specs.declared.token.TokenKind.TheVariants.{Name, Keyword, Punct}
use Rattle.c_lexer.specs.declared.piece.PieceKind.TheVariants.{Word, Blank, Comment}
use Rattle.c_lexer.specs.Pieces.{TextPiece}
use Rattle.c_places.specs.Starts.{token_starts}

abbrev name : ℕ → List ℕ → TextPiece
name id text = record { kind = Word Name id; text = text }

abbrev keyword : ℕ → List ℕ → TextPiece
keyword id text = record { kind = Word Keyword id; text = text }

abbrev punct : ℕ → List ℕ → TextPiece
punct id text = record { kind = Word Punct id; text = text }

abbrev blank : List ℕ → TextPiece
blank text = record { kind = Blank; text = text }

-- the lines `int x;` and `f();`
abbrev two_lines : List TextPiece
two_lines = keyword 0 (codes "int") ∷ blank (codes " ") ∷ name 1 (codes "x") ∷ punct 2 (codes ";") ∷ blank (codes "\n")
    ∷ name 3 (codes "f") ∷ punct 4 (codes "(") ∷ punct 5 (codes ")") ∷ punct 6 (codes ";") ∷ blank (codes "\n") ∷ []

tokens_of_two_lines : token_starts two_lines ≡ 0 ∷ 4 ∷ 5 ∷ 7 ∷ 8 ∷ 9 ∷ 10 ∷ []
tokens_of_two_lines = refl

-- a comment is no token, but its bytes count
abbrev commented : List TextPiece
commented = record { kind = Comment; text = codes "/* c */" } ∷ blank (codes "\n") ∷ name 0 (codes "x") ∷ punct 1 (codes ";") ∷ []

after_a_comment : token_starts commented ≡ 8 ∷ 9 ∷ []
after_a_comment = refl

-- `__init x;`: a marker has a place, too
abbrev marked : List TextPiece
marked = name 0 (codes "__init") ∷ blank (codes " ") ∷ name 1 (codes "x") ∷ punct 2 (codes ";") ∷ []

tokens_and_marker : token_starts marked ≡ 0 ∷ 7 ∷ 8 ∷ []
tokens_and_marker = refl

no_tokens : token_starts [] ≡ []
no_tokens = refl
