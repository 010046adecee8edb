use Rattle.std.proofs.Common.{sym, ◌∙◌}
use Rattle.env_sets.specs.Runs.{all_of}
use Rattle.env_sets.proofs.excluded.Values.is_empty.Goals as goal

pub returns-then-are_none : goal.returns-then-are_none
returns-then-are_none c = record {
  none = λ h.
      let first = sym c.as_slice.ensures.items ∙ c.are_none.ensures c.if-are_none.true in
      let rest = sym c.as_slice-then-are_none.ensures.items ∙ c.are_none-then-are_none.ensures h in
      sym c.self.view_is ∙ (λ i. all_of (first i) (rest i));
}
