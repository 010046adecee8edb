-- Forests: trees of witnesses in order, each once.
use Rattle.std.specs.Prelude.{◌≡◌, Bool, true, not, List, [], ◌∷◌}
use Rattle.std.specs.List.{list_all, list_any}
use Rattle.std.specs.Ordering.{is_lt}
use Rattle.std.specs.declared.cmp.Ordering.TheVariants.{Less}
use Rattle.smpl_patch.specs.declared.pattern.VarDecl.{VarDecl}
use Rattle.smpl_patch.specs.declared.witness.Witness.{Witness}
use Rattle.wit_forest.specs.WitOrder.Same.{same_witness}
use Rattle.wit_forest.specs.WitOrder.Order.{witness_order}

-- one of the trees is the same
abbrev pub has : List Witness → Witness → Bool
has ws w = list_any (λ u. same_witness u w) ws

module _ (decls : List VarDecl) where
  -- w is before the first of them
  abbrev pub BeforeFirst : Witness → List Witness → Type 0
  BeforeFirst w [] = Unit {0}
  BeforeFirst w (u ∷ us) = witness_order decls w u ≡ Less

  -- each tree is before the next
  abbrev pub Rise : List Witness → Type 0
  Rise [] = Unit {0}
  Rise (w ∷ ws) = BeforeFirst w ws × Rise ws

  -- w is before none of them
  abbrev pub NoneAbove : Witness → List Witness → Type 0
  NoneAbove w ws = list_all (λ u. not (is_lt (witness_order decls w u))) ws ≡ true

-- both have the same trees
abbrev pub HaveSame : List Witness → List Witness → Type 0
HaveSame vs ws = (w : Witness) → has vs w ≡ has ws w
