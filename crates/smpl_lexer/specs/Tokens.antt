-- The tokens of a line, and what is bad in it.
use Rattle.std.specs.Prelude.{ℕ, ◌+◌, ◌==◌, ◌||◌, ◌&&◌, Bool, true, false, if◌then◌else◌, List, [], ◌∷◌, length, Option, Some, None, codes}
use Rattle.std.specs.Str.{bytes_eq}
use Rattle.c_terms.specs.declared.token.TokenKind.{TokenKind}
use Rattle.c_terms.specs.declared.token.TokenKind.TheVariants as token
use Rattle.c_lexer.specs.declared.state.Kind.TheVariants as kind
use Rattle.smpl_patch.specs.declared.fault.PatchFault.{PatchFault}
use Rattle.smpl_patch.specs.declared.fault.PatchFault.TheVariants.{BadToken}
use Rattle.smpl_lexer.specs.declared.piece.LineKind.{LineKind}
use Rattle.smpl_lexer.specs.declared.piece.LineKind.TheVariants.{Plain, Dots, Sign}
use Rattle.smpl_lexer.specs.declared.token.PatchToken.{PatchToken}
use Rattle.smpl_lexer.specs.Pieces.{LinePiece, backslash, is_bad}

-- the kind of token that a piece is, if it is one
abbrev pub token_kind : LineKind → Option TokenKind
token_kind (Plain kind.Name) = Some token.Name
token_kind (Plain kind.Keyword) = Some token.Keyword
token_kind (Plain kind.Number) = Some token.Number
token_kind (Plain kind.Char) = Some token.Char
token_kind (Plain kind.Str) = Some token.Str
token_kind (Plain kind.Punct) = Some token.Punct
token_kind (Plain kind.Stray) = Some token.Stray
token_kind (Plain kind.Blank) = None
token_kind (Plain kind.Comment) = None
token_kind (Plain kind.Line) = None
token_kind Dots = Some token.Dots
token_kind Sign = Some token.Pat

-- a token; its id does not matter yet
abbrev pub made : TokenKind → List ℕ → ℕ → PatchToken
made k text at = record { token = record { kind = k; text = text; id = 0 }; at = at }

abbrev pub put_token : Option TokenKind → List ℕ → ℕ → List PatchToken → List PatchToken
put_token None text at tokens = tokens
put_token (Some k) text at tokens = made k text at ∷ tokens

-- the tokens of pieces, of which the first is at this place
abbrev pub tokens_from : ℕ → List LinePiece → List PatchToken
tokens_from at [] = []
tokens_from at (p ∷ ps) = put_token (token_kind p.kind) p.text at (tokens_from (at + length p.text) ps)

abbrev pub put_bad : Bool → ℕ → List PatchFault → List PatchFault
put_bad false at faults = faults
put_bad true at faults = BadToken at ∷ faults

-- the faults of pieces
abbrev pub bad_from : Bool → ℕ → List LinePiece → List PatchFault
bad_from plus at [] = []
bad_from plus at (p ∷ ps) = put_bad (is_bad plus p.kind p.text) at (bad_from plus (at + length p.text) ps)

abbrev pub is_name_kind : TokenKind → Bool
is_name_kind token.Name = true
is_name_kind _ = false

abbrev pub is_mark_kind : TokenKind → Bool
is_mark_kind token.Punct = true
is_mark_kind _ = false

abbrev pub is_stray_kind : TokenKind → Bool
is_stray_kind token.Stray = true
is_stray_kind _ = false

abbrev pub is_name : PatchToken → Bool
is_name t = is_name_kind t.token.kind

abbrev pub is_mark : PatchToken → Bool
is_mark t = is_mark_kind t.token.kind

abbrev pub is_stray : PatchToken → Bool
is_stray t = is_stray_kind t.token.kind

-- a name with this text
abbrev pub is_word : List ℕ → PatchToken → Bool
is_word text t = is_name t && bytes_eq t.token.text text

-- the punctuator with this text
abbrev pub is_sign : List ℕ → PatchToken → Bool
is_sign text t = is_mark t && bytes_eq t.token.text text

-- `@`
abbrev pub is_at : PatchToken → Bool
is_at t = is_stray t && bytes_eq t.token.text (codes "@")

-- `(`, `|`, `&` or `)`
abbrev pub is_branch_sign : PatchToken → Bool
is_branch_sign t = is_sign (codes "(") t || is_sign (codes "|") t || is_sign (codes "&") t || is_sign (codes ")") t

-- such a sign alone, at this place
abbrev pub is_branch : ℕ → List PatchToken → Bool
is_branch start (t ∷ []) = t.at == start && is_branch_sign t
is_branch start _ = false

abbrev pub branch_tokens : List PatchToken → List PatchToken
branch_tokens [] = []
branch_tokens (t ∷ ts) = made token.Pat (backslash ∷ t.token.text) t.at ∷ branch_tokens ts

-- Such a sign has a backslash before it if it is alone in its line and in column 1.
abbrev pub as_branch : ℕ → List PatchToken → List PatchToken
as_branch start ts = if is_branch start ts then branch_tokens ts else ts
