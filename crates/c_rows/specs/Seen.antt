-- Tokens as a reader sees them: each with the class of the list that it begins.
use Rattle.std.specs.Prelude.{Bool, false, List, [], ◌∷◌, map}
use Rattle.c_terms.specs.declared.token.Token.{Token}
use Rattle.c_rows.specs.declared.class.Class.{Class}
use Rattle.c_rows.specs.declared.class.Class.TheVariants as class

-- `typed` says that no expression can be a member of an argument list here.
pub record Seen : Type 0 where
  pub token : Token
  pub class : Class
  pub typed : Bool

-- the class of the first token
abbrev pub front : List Seen → Class
front [] = class.End
front (s ∷ ss) = s.class

abbrev pub front_typed : List Seen → Bool
front_typed [] = false
front_typed (s ∷ ss) = s.typed

abbrev pub tokens_of : List Seen → List Token
tokens_of = map (λ s. s.token)
