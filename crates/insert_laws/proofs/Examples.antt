-- Which plus code is instantiated: a block whose metavariable has a term; none whose metavariable has no value or a place.
use Rattle.std.specs.Prelude.{◌≡◌, false, List, [], ◌∷◌, Option, None, Some, refl, codes}
use Rattle.c_terms.specs.declared.token.Token.{Token}
use Rattle.c_terms.specs.declared.token.TokenKind.TheVariants as kind
use Rattle.c_terms.specs.declared.token.MetaKind.TheVariants as meta
use Rattle.c_terms.specs.declared.tree.Tree.{Tree}
use Rattle.c_terms.specs.declared.tree.Tree.TheVariants.{Leaf}
use Rattle.smpl_terms.specs.declared.var.Var.{Var}
use Rattle.smpl_terms.specs.declared.value.Value.TheVariants.{Term, Place}
use Rattle.smpl_patch.specs.declared.pattern.VarDecl.{VarDecl}
use Rattle.smpl_patch.specs.declared.pattern.VarKind.TheVariants as var_kind
use Rattle.smpl_patch.specs.declared.pattern.PlusBlock.{PlusBlock}
use Rattle.smpl_patch.specs.Wants.{anything}
use Rattle.insert_laws.specs.Instantiated.{IsInstantiatedBlock}

abbrev x : Var
x = record { rule = 0; name = codes "x" }

abbrev declared : List VarDecl
declared = record { var = x; kind = var_kind.Meta meta.Expr; inherited = false; not_names = []; not_places = []; wanted = anything } ∷ []

-- `x`, in plus code
abbrev shown : Token
shown = record { kind = kind.Meta meta.Expr; text = codes "x"; id = 0 }

-- `+ f x`
abbrev block : Option PlusBlock
block = Some (record {
  many = false;
  lines = record {
    lead = 0;
    tokens = record { kind = kind.Name; text = codes "f"; id = 0 } ∷ shown ∷ [];
    gaps = [] ∷ [] ∷ [];
  } ∷ [];
})

-- `1`
abbrev one : Tree
one = Leaf (record { kind = kind.Number; text = codes "1"; id = 7 })

has_a_term : IsInstantiatedBlock declared ((x, Term one) ∷ []) block
has_a_term = ((tt, ((one, refl), tt)), tt)

has_no_value : IsInstantiatedBlock declared [] block → ⊥
has_no_value h = let e : None ≡ Some h.0.1.0.0 = h.0.1.0.1 in absurd cc

has_a_place : IsInstantiatedBlock declared ((x, Place 7) ∷ []) block → ⊥
has_a_place h = let e : None ≡ Some h.0.1.0.0 = h.0.1.0.1 in absurd cc

-- a metavariable that is not declared has no value
is_not_declared : IsInstantiatedBlock [] ((x, Term one) ∷ []) block → ⊥
is_not_declared h = let e : None ≡ Some h.0.1.0.0 = h.0.1.0.1 in absurd cc
