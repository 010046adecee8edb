-- What the class of a token says of its kind.
use Rattle.std.proofs.Common.{◌≡◌, List, ◌∷◌, refl, sym, ap, ◌∙◌}
use Rattle.std.specs.Prelude.{Bool, true, false, not, ◌||◌, IsTrue}
use Rattle.c_terms.specs.declared.token.Token.{Token}
use Rattle.c_terms.specs.declared.token.TokenKind.{TokenKind}
use Rattle.c_terms.specs.declared.token.TokenKind.TheVariants as token
use Rattle.c_terms.specs.declared.token.MetaKind.TheVariants as meta
use Rattle.c_rows.specs.declared.class.Class.{Class}
use Rattle.c_rows.specs.declared.class.Class.TheVariants as class
use Rattle.c_rows.specs.declared.word.Word.TheVariants as word
use Rattle.c_rows.specs.declared.kind.Family.TheVariants as family
use Rattle.c_rows.specs.Words.{same_class, fits, begins_tag}
use Rattle.c_rows.specs.Kinds.{has_leaf}
use Rattle.c_rows.specs.Look.{Names, look}
use Rattle.c_rows.specs.Choice.{implies, begins_declarator}
use Rattle.c_rows.proofs.FirstChecks.{modus, Passes}
use Rattle.c_rows.proofs.OriginLemmas.{kind_test, token_tells}
use Rattle.smpl_lexer.specs.declared.token.PatchToken.{PatchToken}
use Rattle.smpl_lexer.specs.Tokens.{is_name, is_name_kind}
use Rattle.smpl_meta.specs.Forms.{is_keyword_kind, is_keyword}
use Rattle.read_laws.specs.TypedOnce.{is_metavariable}

-- the token, as one of a patch
abbrev pub wrap : Token → PatchToken
wrap t = record { token = t; at = 0 }

-- ---- tests of kinds and classes

abbrev keyword_at : TokenKind → Class → Bool
keyword_at k c = implies (fits word.BasicOrModifier c || begins_tag c) (is_keyword_kind k)

keyword_test : (k : TokenKind) → Passes (kind_test keyword_at k)
keyword_test (token.Meta meta.Expr) = refl
keyword_test (token.Meta meta.Ident) = refl
keyword_test (token.Meta meta.Constant) = refl
keyword_test (token.Meta meta.Typ) = refl
keyword_test (token.Meta meta.Stmt) = refl
keyword_test (token.Meta meta.ExprList) = refl
keyword_test (token.Meta meta.Params) = refl
keyword_test _ = refl

abbrev name_at : TokenKind → Class → Bool
name_at k c = implies (fits word.Name c) (is_metavariable k || is_name_kind k)

name_test : (k : TokenKind) → Passes (kind_test name_at k)
name_test (token.Meta meta.Expr) = refl
name_test (token.Meta meta.Ident) = refl
name_test (token.Meta meta.Constant) = refl
name_test (token.Meta meta.Typ) = refl
name_test (token.Meta meta.Stmt) = refl
name_test (token.Meta meta.ExprList) = refl
name_test (token.Meta meta.Params) = refl
name_test _ = refl

abbrev type_at : TokenKind → Class → Bool
type_at k c = implies (has_leaf family.Specs c) (is_metavariable k)

type_test : (k : TokenKind) → Passes (kind_test type_at k)
type_test (token.Meta meta.Expr) = refl
type_test (token.Meta meta.Ident) = refl
type_test (token.Meta meta.Constant) = refl
type_test (token.Meta meta.Typ) = refl
type_test (token.Meta meta.Stmt) = refl
type_test (token.Meta meta.ExprList) = refl
type_test (token.Meta meta.Params) = refl
type_test _ = refl

abbrev declarator_at : TokenKind → Class → Bool
declarator_at k c = implies (begins_declarator c) (not (is_keyword_kind k))

declarator_test : (k : TokenKind) → Passes (kind_test declarator_at k)
declarator_test (token.Meta meta.Expr) = refl
declarator_test (token.Meta meta.Ident) = refl
declarator_test (token.Meta meta.Constant) = refl
declarator_test (token.Meta meta.Typ) = refl
declarator_test (token.Meta meta.Stmt) = refl
declarator_test (token.Meta meta.ExprList) = refl
declarator_test (token.Meta meta.Params) = refl
declarator_test _ = refl

abbrev brace_at : TokenKind → Class → Bool
brace_at k c = implies (same_class class.LeftBrace c) (not (is_keyword_kind k || is_name_kind k))

brace_test : (k : TokenKind) → Passes (kind_test brace_at k)
brace_test (token.Meta meta.Expr) = refl
brace_test (token.Meta meta.Ident) = refl
brace_test (token.Meta meta.Constant) = refl
brace_test (token.Meta meta.Typ) = refl
brace_test (token.Meta meta.Stmt) = refl
brace_test (token.Meta meta.ExprList) = refl
brace_test (token.Meta meta.Params) = refl
brace_test _ = refl

-- ---- tokens

module _ (names : Names) (t : Token) (ts : List Token) where
  pub is-keyword : IsTrue (fits word.BasicOrModifier (look names (t ∷ ts)) || begins_tag (look names (t ∷ ts))) → is_keyword (wrap t) ≡ true
  is-keyword h = modus _ _ (token_tells keyword_at keyword_test names t ts) h

  pub is-name : is_metavariable t.kind ≡ false → IsTrue (fits word.Name (look names (t ∷ ts))) → is_name (wrap t) ≡ true
  is-name m h = ap (λ b. b || is_name_kind t.kind) (sym m) ∙ modus _ _ (token_tells name_at name_test names t ts) h

  pub is-type : IsTrue (has_leaf family.Specs (look names (t ∷ ts))) → is_metavariable t.kind ≡ true
  is-type h = modus _ _ (token_tells type_at type_test names t ts) h

  pub begins-no-keyword : IsTrue (begins_declarator (look names (t ∷ ts))) → IsTrue (not (is_keyword (wrap t)))
  begins-no-keyword h = modus _ _ (token_tells declarator_at declarator_test names t ts) h

  pub no-brace : IsTrue (same_class class.LeftBrace (look names (t ∷ ts))) → IsTrue (not (is_keyword_kind t.kind || is_name_kind t.kind))
  no-brace h = modus _ _ (token_tells brace_at brace_test names t ts) h
