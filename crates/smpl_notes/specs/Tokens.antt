-- What single tokens are.
use Rattle.std.specs.Prelude.{ℕ, Bool, true, false, ◌&&◌, ◌||◌, nat_le, List, [], ◌∷◌, codes}
use Rattle.c_terms.specs.declared.token.Token.{Token}
use Rattle.c_terms.specs.declared.token.TokenKind.{TokenKind}
use Rattle.c_terms.specs.declared.token.TokenKind.TheVariants as kind
use Rattle.c_terms.specs.declared.token.MetaKind.TheVariants as meta
use Rattle.c_terms.specs.Same.{same_bytes}

abbrev pub is_name : TokenKind → Bool
is_name kind.Name = true
is_name _ = false

abbrev pub is_number : TokenKind → Bool
is_number kind.Number = true
is_number _ = false

abbrev pub is_punct : TokenKind → Bool
is_punct kind.Punct = true
is_punct _ = false

abbrev pub is_dots : TokenKind → Bool
is_dots kind.Dots = true
is_dots _ = false

-- a name, or a metavariable for one
abbrev pub may_be_name : TokenKind → Bool
may_be_name kind.Name = true
may_be_name (kind.Meta meta.Ident) = true
may_be_name _ = false

-- `-`
abbrev pub is_minus : Token → Bool
is_minus t = is_punct t.kind && same_bytes t.text (codes "-")

-- `==` or `!=`
abbrev pub is_equality : Token → Bool
is_equality t = is_punct t.kind && (same_bytes t.text (codes "==") || same_bytes t.text (codes "!="))

-- `NULL` or `0`
abbrev pub is_zero : Token → Bool
is_zero t = is_name t.kind && same_bytes t.text (codes "NULL") || is_number t.kind && same_bytes t.text (codes "0")

-- `A` to `Z`, or `a` to `z`
abbrev pub is_letter : ℕ → Bool
is_letter byte = nat_le 65 byte && nat_le byte 90 || nat_le 97 byte && nat_le byte 122

abbrev pub is_short : List ℕ → Bool
is_short (a ∷ []) = is_letter a
is_short (a ∷ b ∷ []) = is_letter a && is_letter b
is_short _ = false

-- a name of one or two letters that is no metavariable
abbrev pub is_short_name : Token → Bool
is_short_name t = is_name t.kind && is_short t.text
