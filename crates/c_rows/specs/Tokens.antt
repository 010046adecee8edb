-- What a single token is.
use Rattle.std.specs.Prelude.{ℕ, ◌==◌, Bool, true, false, ◌&&◌, ◌||◌, List, [], ◌∷◌, codes}
use Rattle.std.specs.List.{starts_with}
use Rattle.std.specs.Str.{bytes_eq}
use Rattle.c_terms.specs.declared.token.Token.{Token}
use Rattle.c_terms.specs.declared.token.TokenKind.{TokenKind}
use Rattle.c_terms.specs.declared.token.TokenKind.TheVariants as token
use Rattle.c_terms.specs.declared.token.MetaKind.TheVariants as meta
use Rattle.c_rows.specs.declared.class.Class.{Class}
use Rattle.c_rows.specs.declared.class.Class.TheVariants as class
use Rattle.c_rows.specs.Texts.{keywords, class_in}

-- a name, or a metavariable for one
abbrev pub named_kind : TokenKind → Bool
named_kind token.Name = true
named_kind (token.Meta meta.Ident) = true
named_kind _ = false

abbrev pub is_named : Token → Bool
is_named t = named_kind t.kind

abbrev pub is_string_kind : TokenKind → Bool
is_string_kind token.Str = true
is_string_kind _ = false

abbrev pub is_string : Token → Bool
is_string t = is_string_kind t.kind

abbrev pub is_punct_kind : TokenKind → Bool
is_punct_kind token.Punct = true
is_punct_kind _ = false

-- the punctuator with this text
abbrev pub is_sign : Token → List ℕ → Bool
is_sign t text = is_punct_kind t.kind && bytes_eq t.text text

-- the storage words (C11 6.7.1)
abbrev pub is_storage_class : Class → Bool
is_storage_class class.Storage = true
is_storage_class _ = false

abbrev pub storage_kind : TokenKind → List ℕ → Bool
storage_kind token.Keyword s = is_storage_class (class_in keywords s)
storage_kind _ s = false

abbrev pub is_storage : Token → Bool
is_storage t = storage_kind t.kind t.text

-- a word of a basic type, a qualifier or the keyword of a tag
abbrev pub is_type_class : Class → Bool
is_type_class class.Basic = true
is_type_class class.Qualifier = true
is_type_class class.Struct = true
is_type_class class.Enum = true
is_type_class _ = false

abbrev pub type_word_kind : TokenKind → List ℕ → Bool
type_word_kind token.Keyword s = is_type_class (class_in keywords s)
type_word_kind (token.Meta meta.Typ) s = true
type_word_kind _ s = false

-- a token that begins a type and is not a name: a word of a basic type, a qualifier, the keyword of a tag, or a
-- metavariable for a type
abbrev pub is_type_word : Token → Bool
is_type_word t = type_word_kind t.kind t.text

abbrev pub follows_kind : TokenKind → List ℕ → Bool
follows_kind token.Name s = true
follows_kind token.Number s = true
follows_kind token.Char s = true
follows_kind token.Str s = true
follows_kind (token.Meta meta.Ident) s = true
follows_kind (token.Meta meta.Expr) s = true
follows_kind (token.Meta meta.Constant) s = true
follows_kind token.Keyword s = bytes_eq s (codes "sizeof")
follows_kind token.Punct s = bytes_eq s (codes "~") || bytes_eq s (codes "!") || bytes_eq s (codes "{")
follows_kind _ s = false

abbrev pub word_kind : TokenKind → Bool
word_kind token.Name = true
word_kind token.Keyword = true
word_kind (token.Meta k) = true
word_kind _ = false

-- a name, a keyword or a metavariable
abbrev pub is_word : Token → Bool
is_word t = word_kind t.kind

-- Whether the text contains `for_each`.
abbrev pub holds_for_each : List ℕ → Bool
holds_for_each [] = false
holds_for_each (b ∷ bs) = starts_with ◌==◌ (b ∷ bs) (codes "for_each") || holds_for_each bs

abbrev pub is_pat_kind : TokenKind → Bool
is_pat_kind token.Pat = true
is_pat_kind _ = false

-- the sign of patterns with this text
abbrev pub is_pat : Token → List ℕ → Bool
is_pat t text = is_pat_kind t.kind && bytes_eq t.text text

-- a name, a constant, a string, a metavariable for an expression, `~`, `!`, `sizeof` or `{`
abbrev pub follows_cast : Token → Bool
follows_cast t = follows_kind t.kind t.text
