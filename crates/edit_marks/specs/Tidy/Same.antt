-- Tidied edits that are the same: all that the new text depends on.
use Rattle.std.specs.Prelude.{◌≡◌}
use Rattle.edit_marks.specs.declared.tidy.walk.TidiedEdits.{TidiedEdits}

-- the same list, with the same statements and the same outline
pub record AreSame (a b : TidiedEdits) : Type 0 where
  pub list : a.list ≡ b.list
  pub named : a.statements.items ≡ b.statements.items
  pub leaves : a.outline.leaves.items ≡ b.outline.leaves.items
  pub bodies : a.outline.bodies.items ≡ b.outline.bodies.items
  pub statements : a.outline.statements.items ≡ b.outline.statements.items
  pub lists : a.outline.lists.items ≡ b.outline.lists.items
