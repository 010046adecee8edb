-- A variable for local names wants a name where the item declares it, and not where it doesn't.
use Rattle.std.proofs.Common.{◌≡◌, Bool, true, false, ◌&&◌, sym, ap, ◌∙◌, true≢false, [], ◌∷◌}
use Rattle.std.specs.Prelude.{codes}
use Rattle.c_terms.specs.declared.token.Token.{Token}
use Rattle.c_terms.specs.declared.token.TokenKind.TheVariants as kind
use Rattle.c_terms.specs.declared.tree.Tree.{Tree}
use Rattle.c_terms.specs.declared.tree.Tree.TheVariants.{Leaf}
use Rattle.c_terms.proofs.SameLemmas.{out-Leaf}
use Rattle.c_types.specs.Tables.{ItemTypes, no_types, is_local, is_local_in}
use Rattle.smpl_patch.specs.declared.wanted.NameWanted.TheVariants as names
use Rattle.smpl_patch.specs.declared.wanted.TypeWanted.TheVariants as types
use Rattle.smpl_patch.specs.declared.wanted.Wanted.{Wanted}
use Rattle.pat_match.specs.Wants.{is_wanted}

abbrev a : Token
a = record { kind = kind.Name; text = codes "a"; id = 0 }

-- the token with this id is a name that the item declares
abbrev declared : ItemTypes
declared = record { trees = []; locals = 0 ∷ [] }

abbrev local : Wanted
local = record { name = names.Local; ty = types.Any }

there : is_local declared (Leaf a) ≡ true
there = ap (is_local_in declared) (out-Leaf a)

missing : is_local no_types (Leaf a) ≡ false
missing = ap (is_local_in no_types) (out-Leaf a)

pub not_for_all : ((known also : ItemTypes) (w : Wanted) (t : Tree) → is_wanted known w t ≡ is_wanted also w t) → ⊥
not_for_all h =
    true≢false (sym (ap (λ (b : Bool). b && true) there) ∙ h declared no_types local (Leaf a) ∙ ap (λ (b : Bool). b && true) missing)
