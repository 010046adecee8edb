-- Bodies whose tokens are numbered, and patterns that contain their sure variables.
use Rattle.std.specs.Prelude.{◌≡◌, ℕ, suc, true, List, [], ◌∷◌, map}
use Rattle.c_terms.specs.declared.token.Token.{Token}
use Rattle.smpl_terms.specs.declared.var.Var.{Var as Variable}
use Rattle.smpl_patch.specs.declared.pattern.VarDecl.{VarDecl}
use Rattle.smpl_patch.specs.declared.pattern.PatToken.{PatToken}
use Rattle.smpl_patch.specs.declared.pattern.Pattern.{Pattern}
use Rattle.smpl_patch.specs.Patterns.{sure, stands}
use Rattle.smpl_meta.specs.declared.patterns.Placed.{Placed}

abbrev pub tokens_of : List Placed → List Token
tokens_of ps = map (λ (p : Placed). p.token) ps

-- the tokens have consecutive numbers from the given one
abbrev pub CountFrom : ℕ → List Placed → Type 0
CountFrom n [] = Unit {0}
CountFrom n (p ∷ ps) = (p.token.id ≡ n) × CountFrom (suc n) ps

-- each of the patterns contains its sure variables
abbrev pub AllStand : List VarDecl → List PatToken → List Pattern → Type 0
AllStand decls tokens [] = Unit {0}
AllStand decls tokens (p ∷ ps) = ((x : Variable) → sure decls tokens p x ≡ true → stands decls tokens p x ≡ true) × AllStand decls tokens ps
