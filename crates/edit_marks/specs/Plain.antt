-- Plus code whose text consists of blanks and tokens of C, none of which is a Stray.
use Rattle.std.specs.Prelude.{ℕ, ◌≡◌, Bool, true, false, List, [], ◌∷◌, Option, None, Some}
use Rattle.std.specs.List.{list_all}
use Rattle.c_terms.specs.declared.token.Token.{Token}
use Rattle.c_terms.specs.declared.token.TokenKind.{TokenKind}
use Rattle.c_terms.specs.declared.tree.Tree.{Tree}
use Rattle.c_terms.specs.Trees.{leaves}
use Rattle.c_lexer.specs.declared.piece.PieceKind.TheVariants.{Word}
use Rattle.c_lexer.specs.Words.{is_space}
use Rattle.c_lexer.specs.Beside.{IsOfKind}
use Rattle.c_show.specs.PlainText.{is_plain_token}
use Rattle.smpl_patch.specs.declared.pattern.VarDecl.{VarDecl}
use Rattle.smpl_patch.specs.declared.pattern.PlusLine.{PlusLine}
use Rattle.edit_marks.specs.Blocks.{Environment, is_meta, term}

-- a token of C other than a Stray, with a text of its kind
pub record IsCToken (kind : TokenKind) (text : List ℕ) : Type 0 where
  pub plain : is_plain_token kind ≡ true
  pub of : IsOfKind (record { kind = Word kind 0; text = text })

abbrev pub AreCTokens : List Token → Type 0
AreCTokens [] = Unit {0}
AreCTokens (t ∷ tokens) = IsCToken t.kind t.text × AreCTokens tokens

abbrev pub IsCTerm : Option Tree → Type 0
IsCTerm None = Unit {0}
IsCTerm (Some t) = AreCTokens (leaves t)

abbrev pub IsSoundToken : Bool → List VarDecl → Environment → Token → Type 0
IsSoundToken true decls env t = IsCTerm (term decls env t.text)
IsSoundToken false decls env t = IsCToken t.kind t.text

abbrev pub AreSpaces : List ℕ → Type 0
AreSpaces bytes = list_all is_space bytes ≡ true

-- tokens of C, metavariables with terms of such tokens, and only spaces between them
abbrev pub AreSoundTokens : List VarDecl → Environment → List Token → Type 0
AreSoundTokens decls env [] = Unit {0}
AreSoundTokens decls env (t ∷ tokens) = IsSoundToken (is_meta t.kind) decls env t × AreSoundTokens decls env tokens

abbrev pub AreSoundGaps : List (List ℕ) → Type 0
AreSoundGaps [] = Unit {0}
AreSoundGaps (gap ∷ gaps) = AreSpaces gap × AreSoundGaps gaps

abbrev pub AreSoundLines : List VarDecl → Environment → List PlusLine → Type 0
AreSoundLines decls env [] = Unit {0}
AreSoundLines decls env (line ∷ lines) = (AreSoundGaps line.gaps × AreSoundTokens decls env line.tokens) × AreSoundLines decls env lines

-- one or more spaces
abbrev pub IsJoint : List ℕ → Type 0
IsJoint [] = ⊥
IsJoint (b ∷ bs) = AreSpaces (b ∷ bs)
