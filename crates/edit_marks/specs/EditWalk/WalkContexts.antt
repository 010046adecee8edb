-- The context of the walk, in terms of the definitions.
use Rattle.std.specs.Prelude.{◌≡◌, ◌≤◌, ◌^◌, List, map, length}
use Rattle.smpl_patch.specs.declared.pattern.Pattern.{Pattern}
use Rattle.edit_marks.specs.declared.edit_conflict.edit.Edit.{Edit}
use Rattle.edit_marks.specs.Edits.{HaveEvenBlocks}
use Rattle.edit_marks.specs.declared.edit_walk.context.WalkContext.{WalkContext}
use Rattle.edit_marks.specs.EditWalk.Touches.{Touched}
use Rattle.edit_marks.specs.EditWalk.Edited.{IsEdit}

abbrev pub patterns_at : WalkContext → List Pattern
patterns_at s = map (λ p. p.now) s.patterns.now

-- the atoms are those of the patterns, and the numbers of tokens fit in 32 bits
pub record IsWalkContext (s : WalkContext) : Type 0 where
  pub even : HaveEvenBlocks s.tokens.now
  pub atoms : s.atoms.now ≡ map (λ p. p.atom) (patterns_at s)
  pub few : length s.ids.now ≤ 2 ^ 32

-- the edit of a touch here
abbrev pub IsEditHere : WalkContext → Touched → Edit → Type 0
IsEditHere s = IsEdit (patterns_at s) s.decls.now s.tokens.now s.items.now s.nodes.now s.ids.now s.files.now
