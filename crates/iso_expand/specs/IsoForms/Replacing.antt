-- Where a tree may be replaced, and the trees that an isomorphism puts in its place.
use Rattle.std.specs.Prelude.{ℕ, ◌+◌, ◌-◌, Bool, true, false, not, ◌&&◌, ◌||◌, nat_lt, nat_eq, if◌then◌else◌, List, [], ◌∷◌}
use Rattle.std.specs.Prelude.{◌++◌, length, take, drop, Option, Some, None, is_some, slice_get}
use Rattle.std.specs.List.{list_all}
use Rattle.c_terms.specs.declared.token.Token.{Token}
use Rattle.c_terms.specs.declared.tree.Tree.{Tree}
use Rattle.c_terms.specs.Trees.{leaves}
use Rattle.smpl_patch.specs.declared.pattern.Mark.{Mark}
use Rattle.smpl_patch.specs.declared.pattern.Mark.TheVariants as mark
use Rattle.smpl_patch.specs.declared.pattern.PatToken.{PatToken}
use Rattle.smpl_patch.specs.declared.pattern.VarDecl.{VarDecl}
use Rattle.smpl_patch.specs.declared.rule.Iso.{Iso}
use Rattle.iso_expand.specs.declared.iso_forms.matching.Bound.{Bound}
use Rattle.iso_expand.specs.IsoForms.Matching.{matched}
use Rattle.iso_expand.specs.IsoForms.Making.{made, first_id}

-- ---- where

abbrev pub mark_number : Mark → ℕ
mark_number mark.Context = 0
mark_number mark.Minus = 1
mark_number mark.Star = 2

abbrev pub mark_of : Option PatToken → ℕ
mark_of None = 0
mark_of (Some p) = mark_number p.mark

abbrev pub stands_alone : PatToken → Bool
stands_alone p = (nat_eq (length p.positions) 0 && not (is_some p.before)) && not (is_some p.after)

-- the token has neither a position nor plus code
abbrev pub is_plain : Option PatToken → Bool
is_plain None = true
is_plain (Some p) = stands_alone p

-- the token is plain, and of this mark
abbrev pub is_plain_of : List PatToken → ℕ → Token → Bool
is_plain_of tokens m a = is_plain (slice_get tokens a.id) && nat_eq (mark_of (slice_get tokens a.id)) m

abbrev pub are_plain : List PatToken → List Token → Bool
are_plain tokens [] = false
are_plain tokens (a ∷ rest) = list_all (is_plain_of tokens (mark_of (slice_get tokens a.id))) (a ∷ rest)

-- there are tokens, all carry one mark, and none has a position or plus code
abbrev pub is_open : List PatToken → Tree → Bool
is_open tokens t = are_plain tokens (leaves t)

-- ---- by what

-- side i may become side j: it is left of it, or all arrows between them go both ways
abbrev pub may_become : List Bool → (i j : ℕ) → Bool
may_become both i j = nat_lt i j || (nat_lt j i && list_all (λ b. b) (take (i - j) (drop j both)))

-- the trees made by the sides that side i may become; the first of these sides has the number j
abbrev pub targets_from : List Bool → List Bound → (id i j : ℕ) → List Tree → List Tree
targets_from both bound id i j [] = []
targets_from both bound id i j (s ∷ ss) =
    if may_become both i j then made bound id s ∷ targets_from both bound id i (j + 1) ss else targets_from both bound id i (j + 1) ss

-- what the tree becomes by side i, if it may be replaced there
abbrev pub targets : Iso → Tree → ℕ → Option (List Bound) → List Tree
targets iso t i None = []
targets iso t i (Some bound) = targets_from iso.both bound (first_id t) i 0 iso.sides

module _ (tokens : List PatToken) where
  -- what the variables of a side stand for at the tree, if it matches and may be replaced
  abbrev pub replaced : List VarDecl → Tree → Tree → Option (List Bound)
  replaced vars side t = if is_open tokens t then matched vars side t [] else None

  abbrev pub by_sides : Iso → Tree → ℕ → List Tree → List Tree
  by_sides iso t i [] = []
  by_sides iso t i (s ∷ ss) = targets iso t i (replaced iso.vars s t) ++ by_sides iso t (i + 1) ss

  -- what the tree becomes by the isomorphism: for each side that it matches, each side that this one may become
  abbrev pub becomes : Iso → Tree → List Tree
  becomes iso t = by_sides iso t 0 iso.sides
