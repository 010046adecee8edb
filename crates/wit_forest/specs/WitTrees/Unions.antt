-- Unions of forests: the trees of all, in order, each once.
use Rattle.std.specs.Prelude.{List, [], ◌∷◌}
use Rattle.std.specs.declared.cmp.Ordering.{Ordering}
use Rattle.std.specs.declared.cmp.Ordering.TheVariants.{Less, Equal, Greater}
use Rattle.smpl_patch.specs.declared.pattern.VarDecl.{VarDecl}
use Rattle.smpl_patch.specs.declared.witness.Witness.{Witness}
use Rattle.wit_forest.specs.WitOrder.Order.{witness_order}

-- inserts a tree before the first tree that is not less, unless that one is the same
abbrev pub placed : Ordering → Witness → Witness → List Witness → List Witness → List Witness
placed Less w u us more = w ∷ u ∷ us
placed Equal w u us more = u ∷ us
placed Greater w u us more = u ∷ more

module _ (decls : List VarDecl) where
  abbrev pub put : Witness → List Witness → List Witness
  put w [] = w ∷ []
  put w (u ∷ us) = placed (witness_order decls w u) w u us (put w us)

  abbrev pub union : List Witness → List Witness → List Witness
  union [] ws = ws
  union (v ∷ vs) ws = put v (union vs ws)

  abbrev pub union_of : List (List Witness) → List Witness
  union_of [] = []
  union_of (ws ∷ more) = union ws (union_of more)
