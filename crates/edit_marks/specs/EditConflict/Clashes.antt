-- When two edits clash, and which clash is first.
use Rattle.std.specs.Prelude.{◌≡◌, ◌<◌, ◌≤◌, ◌⊎◌, ◌==◌, ◌&&◌, ◌||◌, not, ℕ, Bool, true, Some, List, slice_get}
use Rattle.std.specs.List.{list_any}
use Rattle.edit_marks.specs.declared.edit_conflict.edit.Side.{Side}
use Rattle.edit_marks.specs.declared.edit_conflict.edit.Side.TheVariants.{Before, After}
use Rattle.edit_marks.specs.declared.edit_conflict.edit.Edit.{Edit}
use Rattle.edit_marks.specs.declared.edit_conflict.clash.Clash.{Clash}
use Rattle.edit_marks.specs.EditConflict.Same.{side_number}

-- the edit removes the token
abbrev pub removes : ℕ → Edit → Bool
removes token e = list_any (λ n. n == token) e.removed

-- the edit inserts at the token on this side
abbrev pub inserts : Side → ℕ → Edit → Bool
inserts side token e = list_any (λ i. i.token == token && side_number i.side == side_number side) e.inserts

abbrev pub inserts_at : ℕ → Edit → Bool
inserts_at token e = inserts Before token e || inserts After token e

-- the edit inserts there a text that isn't from `++` lines, and so must be alone
abbrev pub inserts_alone : Side → ℕ → Edit → Bool
inserts_alone side token e = list_any (λ i. i.token == token && side_number i.side == side_number side && not i.many) e.inserts

-- both insert on this side of the token, and one of these inserts isn't from `++` lines
abbrev pub meet_on : Side → ℕ → Edit → Edit → Bool
meet_on side token a b = inserts side token a && inserts side token b && (inserts_alone side token a || inserts_alone side token b)

-- both remove the token, or both insert on one side of it and one of these inserts isn't from `++` lines, or one inserts at
-- it and the other removes it
abbrev pub meet_at : ℕ → Edit → Edit → Bool
meet_at token a b =
    removes token a && removes token b
    || (meet_on Before token a b || meet_on After token a b)
    || (inserts_at token a && removes token b || removes token a && inserts_at token b)

-- edits that differ and meet at the token
pub record ClashAt (token : ℕ) (a b : Edit) : Type 0 where
  pub differ : a ≡ b → ⊥
  pub meet : meet_at token a b ≡ true

-- the edits with these numbers clash at this token
pub record IsClash (edits : List Edit) (c : Clash) : Type 0 where
  pub rise : c.first < c.second
  pub first : Edit
  pub second : Edit
  pub first_is : slice_get edits c.first ≡ Some first
  pub second_is : slice_get edits c.second ≡ Some second
  pub clash : ClashAt c.token first second

-- c is not after d: ordered by token, then by the first number, then by the second
abbrev pub NotAfter : Clash → Clash → Type 0
NotAfter c d = (c.token < d.token) ⊎ ((c.token ≡ d.token) × ((c.first < d.first) ⊎ ((c.first ≡ d.first) × (c.second ≤ d.second))))

-- the clash at the least token, with the least pair of numbers
pub record IsFirstClash (edits : List Edit) (c : Clash) : Type 0 where
  pub clash : IsClash edits c
  pub first : (d : Clash) → IsClash edits d → NotAfter c d
