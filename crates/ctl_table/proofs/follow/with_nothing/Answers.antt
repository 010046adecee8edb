use Rattle.std.proofs.Common.{◌≡◌, ◌-◌, ◌∙◌, ◌++◌, ◌∷◌, [], ap, sym, subst, inl, inr, length, List, Some}
use Rattle.std.specs.Prelude.{slice_get}
use Rattle.ctl_table.specs.declared.follow.Continuation.{Continuation}
use Rattle.ctl_table.specs.declared.follow.Continuation.TheVariants as made
use Rattle.ctl_table.proofs.ColumnLemmas.{last-pushed}
use Rattle.ctl_table.proofs.follow.with_nothing.Goals as goal

pub returns-then-ends_with_nothing : goal.returns-then-ends_with_nothing
returns-then-ends_with_nothing c = record {
  kept = inl c.in_ok-all.ensures;
  last = subst (λ (z : List Continuation). slice_get z (length z - 1) ≡ Some made.Nothing) (sym c.in_ok-all.ensures)
      (c.ends_with_nothing.ensures c.if-ends_with_nothing.true);
}

pub returns : goal.returns
returns c =
    let e = c.in_ok-push.ensures.items ∙ ap (λ z. z ++ made.Nothing ∷ []) c.in_ok-all.ensures in
    record {
      kept = inr e;
      last = subst (λ (z : List Continuation). slice_get z (length z - 1) ≡ Some made.Nothing) (sym e) (last-pushed c.args.nexts.now made.Nothing);
    }
