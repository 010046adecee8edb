use Rattle.std.proofs.Common.{◌≡◌, ◌++◌, ◌∷◌, [], ℕ, List, sym, ap, subst, ◌∙◌}
use Rattle.std.specs.Prelude.{map}
use Rattle.edit_marks.specs.declared.edit_conflict.edit.Edit.{Edit}
use Rattle.edit_marks.specs.EditConflict.Once.{number_in, with_edit}
use Rattle.edit_marks.proofs.EditConflict.Numbers.{AreIn, more_in, more_numbers, once_push}
use Rattle.edit_marks.proofs.edit_conflict.list.numbered_set.Goals as goal

pub loop-edit-preserved : goal.loop-edit-preserved
loop-edit-preserved c =
    let h = c.loop-edit.invariant in
    let before = c.loop-edit.yielded in
    let old = c.loop-edit.set.keys in
    let own = c.in-Some.edit in
    let keys : c.insert_full.new.self.keys ≡ with_edit old own = c.in_ok-number.ensures.keys in
    let number : c.in_ok-number.number ≡ number_in old own = c.in_ok-number.ensures.index in
    record {
      edits = keys ∙ ap (λ (l : List Edit). with_edit l own) h.edits ∙ sym (once_push before own);
      all = subst (λ (l : List Edit). AreIn l (before ++ own ∷ [])) (sym keys) (more_in old before own h.all);
      numbers = c.in_ok-push.ensures.items ∙ ap (λ (n : ℕ). c.loop-edit.numbers.items ++ n ∷ []) number
          ∙ more_numbers old before own c.loop-edit.numbers.items h.all h.numbers
          ∙ ap (λ (l : List Edit). map (number_in l) (before ++ own ∷ [])) (sym keys);
    }
