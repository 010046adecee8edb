-- A file is cut as C text, as a whole: blanks and comments are not tokens, even if a comment spans several lines. Text
-- that is no token of C counts as a token that no form has.
use Rattle.std.specs.Prelude.{ℕ, ◌≡◌, ◌+◌, Bool, true, false, List, [], ◌∷◌, ◌++◌, length, Option, Some, None}
use Rattle.c_terms.specs.declared.token.TokenKind.{TokenKind}
use Rattle.c_terms.specs.declared.token.TokenKind.TheVariants as token
use Rattle.c_lexer.specs.declared.state.Kind.{Kind}
use Rattle.c_lexer.specs.declared.state.Kind.TheVariants as kind
use Rattle.c_lexer.specs.First.{IsFirst}
use Rattle.smpl_lexer.specs.Pieces.{has_newline}
use Rattle.smpl_lexer.specs.Tokens.{made}
use Rattle.smpl_lexer.specs.declared.token.PatchToken.{PatchToken}

pub record Piece : Type 0 where
  pub kind : Kind
  pub text : List ℕ

abbrev pub joined : List Piece → List ℕ
joined [] = []
joined (p ∷ ps) = p.text ++ joined ps

-- each piece is the first of what is left
abbrev pub Cut : List Piece → Type 0
Cut [] = Unit {0}
Cut (p ∷ ps) = IsFirst p.kind p.text (joined ps) × Cut ps

-- the kind of token that a piece is, if it is one
abbrev pub token_kind : Kind → Option TokenKind
token_kind kind.Name = Some token.Name
token_kind kind.Keyword = Some token.Keyword
token_kind kind.Number = Some token.Number
token_kind kind.Char = Some token.Char
token_kind kind.Str = Some token.Str
token_kind kind.Punct = Some token.Punct
token_kind kind.Stray = Some token.Stray
token_kind kind.Line = Some token.Stray
token_kind kind.Blank = None
token_kind kind.Comment = None

-- prepends an item to the first of some groups
abbrev pub put : {A : Type 0} → A → List (List A) → List (List A)
put a [] = (a ∷ []) ∷ []
put a (g ∷ gs) = (a ∷ g) ∷ gs

-- a newline between tokens begins another line
abbrev pub part : Bool → List (List PatchToken) → List (List PatchToken)
part true gs = [] ∷ gs
part false gs = gs

abbrev pub put_piece : Option TokenKind → List ℕ → ℕ → List (List PatchToken) → List (List PatchToken)
put_piece (Some k) text at gs = put (made k text at) gs
put_piece None text at gs = part (has_newline text) gs

-- the tokens of each line, the first of which may have begun earlier
abbrev pub groups : ℕ → List Piece → List (List PatchToken)
groups at [] = [] ∷ []
groups at (p ∷ ps) = put_piece (token_kind p.kind) p.text at (groups (at + length p.text) ps)

-- those that are not empty
abbrev pub filled : {A : Type 0} → List (List A) → List (List A)
filled [] = []
filled ([] ∷ gs) = filled gs
filled ((a ∷ g) ∷ gs) = (a ∷ g) ∷ filled gs

-- These are the lines of the file that have tokens.
pub record AreLinesOf (bytes : List ℕ) (lines : List (List PatchToken)) : Type 0 where
  pub pieces : List Piece
  pub text : joined pieces ≡ bytes
  pub cut : Cut pieces
  pub lines_are : lines ≡ filled (groups 0 pieces)
