-- Variables that a side contains and a side that may become it does not.
use Rattle.std.specs.Prelude.{ℕ, ◌≡◌, ◌<◌, ◌≤◌, ◌⊎◌, ◌&&◌, not, if◌then◌else◌, Bool, true, false, List, [], ◌∷◌, Option, Some, None, is_some, slice_get}
use Rattle.std.specs.Str.{bytes_eq}
use Rattle.smpl_patch.specs.declared.pattern.VarDecl.{VarDecl}
use Rattle.smpl_lexer.specs.declared.token.PatchToken.{PatchToken}
use Rattle.smpl_lexer.specs.Tokens.{is_name}
use Rattle.smpl_meta.specs.Known.{var_named}

-- a name with this text occurs in the side
abbrev pub stands_in : List PatchToken → List ℕ → Bool
stands_in [] text = false
stands_in (t ∷ ts) text = if is_name t && bytes_eq t.token.text text then true else stands_in ts text

abbrev pub is_variable : List VarDecl → PatchToken → Bool
is_variable vars t = is_name t && is_some (var_named t.token.text vars)

-- the first place in the second side of a variable that the first does not contain
abbrev pub lost_between : List VarDecl → List PatchToken → List PatchToken → Option ℕ
lost_between vars from [] = None
lost_between vars from (t ∷ ts) =
    if is_variable vars t && not (stands_in from t.token.text) then Some t.at else lost_between vars from ts

-- every arrow from the first side to the second goes both ways
abbrev pub BothWays : List Bool → (i j : ℕ) → Type 0
BothWays arrows i j = (k : ℕ) → i ≤ k → k < j → slice_get arrows k ≡ Some true

-- side i may become side j
abbrev pub MayBecome : List Bool → (i j : ℕ) → Type 0
MayBecome arrows i j = (i < j) ⊎ ((j < i) × BothWays arrows j i)

-- side i may become side j, which contains a variable that i does not contain, first at this place
pub record Loses (vars : List VarDecl) (sides : List (List PatchToken)) (arrows : List Bool) (i j : ℕ) (at : ℕ) : Type 0 where
  pub may : MayBecome arrows i j
  pub from : List PatchToken
  pub from_is : slice_get sides i ≡ Some from
  pub to : List PatchToken
  pub to_is : slice_get sides j ≡ Some to
  pub lost : lost_between vars from to ≡ Some at

abbrev pub Before : (i j k l : ℕ) → Type 0
Before i j k l = (i < k) ⊎ ((i ≡ k) × (j < l))

-- the least pair of sides that loses a variable
pub record FirstLost (vars : List VarDecl) (sides : List (List PatchToken)) (arrows : List Bool) (at : ℕ) : Type 0 where
  pub i : ℕ
  pub j : ℕ
  pub loses : Loses vars sides arrows i j at
  pub least : (k l n : ℕ) → Before k l i j → Loses vars sides arrows k l n → ⊥

abbrev pub KeepsAll : List VarDecl → List (List PatchToken) → List Bool → Type 0
KeepsAll vars sides arrows = (i j at : ℕ) → Loses vars sides arrows i j at → ⊥
