use Rattle.std.proofs.Common.{ℕ, List, sym, ◌∙◌, subst}
use Rattle.std.specs.Prelude.{Contains, ◌↔◌}
use Rattle.std.specs.List.Sorted.{IsStrictlyIncreasing}
use Rattle.edit_marks.specs.Removals.{minus_tokens}
use Rattle.edit_marks.specs.Edits.{inserts_at}
use Rattle.edit_marks.proofs.alignment_edit.edit_at.Goals as goal

pub returns : goal.returns
returns c = record {
  rise = subst IsStrictlyIncreasing (sym c.from_vec.ensures) c.in_ok-removed.ensures.rise;
  removed = subst (λ (l : List ℕ). (n : ℕ) → Contains l n ↔ Contains (minus_tokens c.args.tokens.now c.args.pairs.now) n)
      (sym c.from_vec.ensures) c.in_ok-removed.ensures.same;
  spots = c.in_ok-spots.spots.items;
  all = c.in_ok-spots.ensures.all;
  sorted = c.in_ok-spots.ensures.sorted;
  inserts = c.from_vec-2.ensures ∙ c.in_ok-inserts.ensures
      ∙ (λ i. inserts_at c.args.decls.now c.args.tokens.now c.args.env.now c.args.files.now
      ((c.deref.ensures.value ∙ sym c.from_vec.ensures) i) (c.deref-2.ensures.value i));
}
