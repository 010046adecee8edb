-- What a text requires of edits.
use Rattle.std.specs.Prelude.{ℕ, ◌≡◌, ◌<◌, false, List, [], ◌∷◌, All}
use Rattle.std.specs.Ordering.{on, then_cmp, nat_cmp, is_lt}
use Rattle.std.specs.declared.cmp.Ordering.{Ordering}
use Rattle.std.specs.List.Sorted.{IsStrictlyIncreasing}
use Rattle.smpl_patch.specs.declared.rule.Rule.{Rule}
use Rattle.edit_marks.specs.declared.edit_conflict.edit.Insert.{Insert}
use Rattle.edit_marks.specs.declared.edit_conflict.edit.Edit.{Edit}
use Rattle.edit_marks.specs.EditConflict.Same.{side_number}
use Rattle.edit_marks.specs.Edits.{HaveSoundBlocks}
use Rattle.edit_marks.specs.EditWalk.Touches.{Touched}

-- by token, with those before a token first
abbrev pub insert_order : Insert → Insert → Ordering
insert_order = then_cmp (on (λ i. i.token) nat_cmp) (on (λ i. side_number i.side) nat_cmp)

-- each insert is no earlier than the inserts before it
abbrev pub AreInOrder : List Insert → Type 0
AreInOrder [] = Unit {0}
AreInOrder (i ∷ inserts) = All (λ j. is_lt (insert_order j i) ≡ false) inserts × AreInOrder inserts

-- the numbers are those of a text with this many tokens, the removed ones are ascending, each once, and the inserts are in
-- order
pub record FitsText (count : ℕ) (edit : Edit) : Type 0 where
  pub rise : IsStrictlyIncreasing edit.removed
  pub removed : All (λ n. n < count) edit.removed
  pub inserts : All (λ i. i.token < count) edit.inserts
  pub in_order : AreInOrder edit.inserts

-- plus code consists of tokens of C, and so do the terms of its metavariables at the touches
abbrev pub HaveSoundTouches : Rule → List Touched → Type 0
HaveSoundTouches rule = All (λ t. HaveSoundBlocks rule.vars rule.tokens t.env)
