use Rattle.std.proofs.Common.{◌≡◌, ◌∙◌, [], map, refl, ap}
use Rattle.std.proofs.lemmas.Result.{err_from_is_err_and}
use Rattle.run_acts.proofs.BreaksLemmas.{NoneFell-refl}
use Rattle.run_words.specs.Orders.{is_tidy, unread_of}
use Rattle.run_words.specs.Shown.{shown_target}
use Rattle.run_files.specs.RunStages.Stages.{first_course, going}
use Rattle.run_files.specs.RunStages.Ends.LeadsBy.{unfed, from}
use Rattle.spatch_run.proofs.Treating.{leads_as}
use Rattle.spatch_run.proofs.stages.use_patch.Goals as goal

pub prepared-requires : goal.prepared-requires
prepared-requires g c = record { formulas = c.requires.usable.formulas }

-- what is known of the rules of the patch
pub invariant_of-rules : goal.invariant_of-rules
invariant_of-rules g c = record {
  few = c.requires.usable.few;
  prepared_are = c.in_ok-prepared.ensures;
  may = c.requires.usable.may c.in_ok-prepared.prepared.rules c.in_ok-prepared.ensures;
  words_are = rw c.deref-2.ensures.value c.in_ok-words.ensures.words;
}

pub returns-in_err-prepared-clause-ends : goal.returns-in_err-prepared-clause-ends
returns-in_err-prepared-clause-ends g c =
    let p = err_from_is_err_and c.from_residual.result c.from_residual.ensures.1 in
    rw (p.1, p.2) (unfed (NoneFell-refl _) refl refl)

pub returns-in_err-words-clause-ends : goal.returns-in_err-words-clause-ends
returns-in_err-words-clause-ends g c =
    let p = err_from_is_err_and c.from_residual-in_err-words.result c.from_residual-in_err-words.ensures.1 in
    rw (p.1, p.2) (unfed (NoneFell-refl _) refl refl)

pub returns-in-Files-clause-ends : goal.returns-in-Files-clause-ends
returns-in-Files-clause-ends g c =
    let ends = rw (c.deref.ensures.value, c.deref-in-Files.ensures.value) at c.edit_files.ensures.ends in
    rw c.in-Files.is (from (going [] c.args.patch.now c.args.order.now.defined.items c.in-Files.mode
    (map (λ name. name.now) c.in-Files.names.items) (first_course c.args.notes.now)) refl ends)

pub returns-clause-ends : goal.returns-clause-ends
returns-clause-ends g c =
    let told : c.unread-unread.result ≡ c.in-Text.field-3 = c.unread-unread.ensures.unread ∙ ap (λ t. unread_of (shown_target t)) c.in-Text.is in
    let tidied : c.is_tidy-tidy.result ≡ c.in-Text.field-4 = c.is_tidy-tidy.ensures.tidy ∙ ap (λ t. is_tidy (shown_target t)) c.in-Text.is in
    rw c.in-Text.is (leads_as c.args.patch.now c.args.notes.now c.args.order.now.defined.items c.in-Text.seed c.in-Text.functions c.in-Text.quiet
    c.unread-unread.result c.in-Text.field-3 c.is_tidy-tidy.result c.in-Text.field-4 told tidied
    (rw c.deref.ensures.value at (c.sum_text.ensures.ends c.args.notes.now)))
