use Rattle.std.proofs.Common.{Bool, List, subst, ◌∙◌}
use Rattle.edit_bodies.specs.Calm.{AreSetCounts}
use Rattle.edit_bodies.proofs.calm.marks_of.Goals as goal

pub returns : goal.returns
returns c = record {
  closings = c.in_ok-closings.ensures;
  strays = subst (λ (flags : List Bool). AreSetCounts flags c.in_ok-strays.strays.items) (c.as_slice.ensures.value ∙ c.in_ok-behind_strays.ensures)
      c.in_ok-strays.ensures;
  lines = subst (λ (flags : List Bool). AreSetCounts flags c.in_ok-lines.lines.items) (c.as_slice-2.ensures.value ∙ c.in_ok-behind_lines.ensures)
      c.in_ok-lines.ensures;
}
