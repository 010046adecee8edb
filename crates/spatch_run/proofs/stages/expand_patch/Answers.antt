use Rattle.std.proofs.Common.{inl, inr, refl}
use Rattle.run_acts.proofs.BreaksLemmas.{NoneFell-refl}
use Rattle.run_words.specs.Shown.{shown_target}
use Rattle.run_files.specs.RunLines.Patches.{forms_line}
use Rattle.run_files.specs.RunStages.Stages.{refusing, TargetLeads, IsosLead}
use Rattle.run_files.specs.RunStages.Ends.LeadsBy.{unfed, from}
use Rattle.spatch_run.proofs.Leading.{by_other}
use Rattle.spatch_run.proofs.stages.expand_patch.Goals as goal

pub expand-requires : goal.expand-requires
expand-requires g c = (c.patches_may_be_used.ensures.read c.requires.read.0 c.args.noted.patch c.requires.read.1).few

pub use_patch-requires-clause-few : goal.use_patch-requires-clause-few
use_patch-requires-clause-few g c κs within = c.requires.few

pub use_patch-requires-clause-usable : goal.use_patch-requires-clause-usable
use_patch-requires-clause-usable g c κs within =
    c.patches_may_be_used.ensures.expanded c.requires.read.0 c.args.isos.now c.args.noted.patch c.in-Ok.whole c.requires.read.1 c.in-Ok.ensures.patch

pub returns-in-Ok-clause-ends : goal.returns-in-Ok-clause-ends
returns-in-Ok-clause-ends g c =
    let defined = c.args.order.now.defined.items in
    let target = shown_target c.args.order.now.target in
    let notes = c.args.noted.notes in
    by_other (TargetLeads c.in-Ok.whole notes defined target) (IsosLead c.args.isos.now c.args.noted.patch notes c.args.name.now defined target)
    (λ to leads. inr (c.in-Ok.whole, (c.in-Ok.ensures.patch, leads))) c.use_patch.ensures.ends

pub returns-in-Err-NoMemory-clause-ends : goal.returns-in-Err-NoMemory-clause-ends
returns-in-Err-NoMemory-clause-ends g c =
    unfed (NoneFell-refl _) refl refl

pub returns-clause-ends : goal.returns-clause-ends
returns-clause-ends g c =
    let many = rw c.in-Err-TooManyForms.field-0-is at c.in-Err-TooManyForms.ensures.fault in
    from (refusing (forms_line c.args.name.now c.in-Err-TooManyForms.rule) 3) (inl (c.in-Err-TooManyForms.rule, (many, refl)))
    (c.refuse_forms.ensures.ends _ _ _ _ _)
