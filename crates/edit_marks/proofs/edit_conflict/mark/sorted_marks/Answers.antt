use Rattle.std.proofs.Common.{◌≡◌, ◌≤◌, ℕ, ◌==◌, not, ◌&&◌, filter, sym, ap, ◌∙◌, arith, rules, false}
use Rattle.std.specs.Ordering.{is_lt, nat_cmp}
use Rattle.std.specs.Cmp.{nat_cmp_total}
use Rattle.std.proofs.lemmas.Bool.Decides.{nat_tests}
use Rattle.std.proofs.lemmas.List.Sorted.{sorted_far, answers_always}
use Rattle.std.proofs.lemmas.List.MinMax.{ranks_by}
use Rattle.edit_marks.specs.declared.edit_conflict.mark.Mark.{Mark}
use Rattle.edit_marks.specs.declared.edit_conflict.mark.Act.TheVariants as act
use Rattle.edit_marks.specs.EditConflict.Marks.{is_at}
use Rattle.edit_marks.proofs.edit_conflict.mark.sorted_marks.Goals as goal

not_less : (a b : ℕ) → is_lt (nat_cmp b a) ≡ false → a ≤ b
not_less a b h = grind (arith, nat_tests)

tied : (t n : ℕ) → (not (is_lt (nat_cmp t n)) && not (is_lt (nat_cmp n t))) ≡ (n == t)
tied t n = grind (arith, nat_tests)

pub returns : goal.returns
returns c =
    let marks = c.sort_by_key.new.self.items in
    let key = λ (m : Mark). m.token in
    let sorted = c.in_ok-sort_by_key.ensures.sorted key (answers_always _ _ _ (λ f a r g h. search rules)) in
    let stable = c.sort_by_key.ensures.stable key (answers_always _ _ _ (λ f a r g h. search rules)) in
    record {
      rise = λ i j d le within. not_less _ _ (sorted_far (λ x y. is_lt (nat_cmp x.token y.token)) (ranks_by nat_cmp_total key) marks sorted i j d le within);
      all = λ token.
          let probe : Mark = record { token = token; edit = 0; act = act.Remove } in
          sym (λ i. filter (λ (m : Mark). tied token m.token i) marks)
          ∙ stable probe
          ∙ (λ i. filter (λ (m : Mark). tied token m.token i) c.in_ok-marks.marks.items)
          ∙ ap (filter (is_at token)) c.in_ok-marks.ensures;
    }
