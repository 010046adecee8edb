-- The tokens of the examples, in which `t` is in the names and `u` is not.
use Rattle.std.specs.Prelude.{ℕ, List, codes}
use Rattle.c_terms.specs.declared.token.Token.{Token}
use Rattle.c_terms.specs.declared.token.TokenKind.TheVariants as token
use Rattle.c_terms.specs.declared.token.MetaKind.{MetaKind}

abbrev pub name : List ℕ → Token
name s = record { kind = token.Name; text = s; id = 0 }

abbrev pub punct_of : List ℕ → Token
punct_of s = record { kind = token.Punct; text = s; id = 0 }

abbrev pub word_of : List ℕ → Token
word_of s = record { kind = token.Keyword; text = s; id = 0 }

abbrev pub pat_of : List ℕ → Token
pat_of s = record { kind = token.Pat; text = s; id = 0 }

abbrev pub meta_of : MetaKind → Token
meta_of k = record { kind = token.Meta k; text = codes "m"; id = 0 }

abbrev pub u : Token
u = name (codes "u")

abbrev pub t : Token
t = name (codes "t")

abbrev pub x : Token
x = name (codes "x")

abbrev pub each : Token
each = name (codes "my_for_each_x")

abbrev pub number : Token
number = record { kind = token.Number; text = codes "1"; id = 0 }

abbrev pub character : Token
character = record { kind = token.Char; text = codes "'a'"; id = 0 }

abbrev pub string : Token
string = record { kind = token.Str; text = codes "s"; id = 0 }

abbrev pub left : Token
left = punct_of (codes "(")

abbrev pub right : Token
right = punct_of (codes ")")
