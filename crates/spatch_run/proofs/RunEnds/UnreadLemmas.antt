-- The acts of a whole run when other items that can't be read are told of, by its reason.
use Rattle.std.proofs.Common.{◌≡◌, ℕ, Bool, List, [], ◌∷◌, ◌++◌, Option, Some, None, is_some, refl, sym, ap, ◌∙◌}
use Rattle.smpl_patch.specs.declared.rule.Patch.{Patch}
use Rattle.run_choices.specs.declared.unread.Unread.{Unread}
use Rattle.run_choices.specs.declared.unread.Unread.TheVariants as unread
use Rattle.smpl_notes.specs.declared.note.Note.{Note}
use Rattle.sp_gen.specs.Generated.{generated}
use Rattle.run_acts.specs.Acts.{Act, Load, Report, Observed}
use Rattle.run_words.specs.Orders.{Target, OnFiles, OnText, Order, Apply, Generate, Say, order_of, is_quiet, unread_of}
use Rattle.run_words.specs.UnreadLaws.Choices.{mode_telling, order_telling, target_telling}
use Rattle.run_files.specs.declared.run_lines.notes.NoteLines.{NoteLines}
use Rattle.run_files.specs.RunLines.Further.{placed, told_place}
use Rattle.run_files.specs.RunLines.Notes.{note_lines}
use Rattle.run_files.specs.RunLines.Patches.{patch_fault_line, iso_fault_line, iso_byte}
use Rattle.run_files.specs.RunStages.Stages.{patch_limit, generated_name, first_course, end_status}
use Rattle.run_files.specs.RunStages.Reasons.{PatchFound, PatchRead, IsosFound, PatchReady, Reason}
use Rattle.run_files.specs.RunStages.Reasons.PatchReady.{plain, expanded}
use Rattle.run_files.specs.RunStages.Reasons.Reason.{unasked, is_said, is_generated, no_patch, bad_patch, no_isos, bad_isos, many_forms, summed}
use Rattle.run_files.specs.RunStages.Reasons.Reason.{filed}
use Rattle.spatch_run.specs.RunEnds.Unread.{AreButLines, SameButTold}
use Rattle.spatch_run.proofs.RunLaws.Unique.{none_some, same_some}
use Rattle.spatch_run.proofs.RunEnds.UnreadFiles.{but-refl, but-as, but-append, sums-other, files-other}

-- ---- orders

-- the choice that counts is the last
over : (told before : Unread) (order : Order) → order_telling told (order_telling before order) ≡ order_telling told order
over told before (Apply patch isos defined (OnFiles mode names)) = refl
over told before (Apply patch isos defined (OnText seed functions quiet old tidy)) = refl
over told before (Generate seed functions) = refl
over told before (Say saying) = refl

-- which items that can't be read are told of
abbrev told_by : Order → Unread
told_by (Apply patch isos defined target) = unread_of target
told_by (Generate seed functions) = unread.All
told_by (Say saying) = unread.All

tells-all : (order : Order) → told_by (order_telling unread.All order) ≡ unread.All
tells-all (Apply patch isos defined (OnFiles mode names)) = refl
tells-all (Apply patch isos defined (OnText seed functions quiet old tidy)) = refl
tells-all (Generate seed functions) = refl
tells-all (Say saying) = refl

-- ---- lines that don't depend on the choice

same-quiet : (told : Unread) (target : Target) → is_quiet (target_telling told target) ≡ is_quiet target
same-quiet told (OnFiles mode names) = refl
same-quiet told (OnText seed functions quiet old tidy) = refl

same-notes : (told : Unread) (name : List ℕ) (has_isos : Bool) (target : Target) (notes : List Note)
    → note_lines name has_isos (target_telling told target) notes ≡ note_lines name has_isos target notes
same-notes told name has_isos (OnFiles mode names) notes = refl
same-notes told name has_isos (OnText seed functions quiet old tidy) notes = refl

module _ (words others : List (List ℕ)) (same : SameButTold words others) (old : Observed) where
  asks : (order : Order) → order_of words ≡ Some order → order_of others ≡ Some (order_telling same.told order)
  asks order is =
      let all : order_telling unread.All same.order ≡ order = same_some _ order (sym same.all ∙ is) in
      same.other ∙ ap Some (sym (over same.told unread.All same.order) ∙ ap (order_telling same.told) all)

  -- all items that can't be read are told of
  tells : (order : Order) → order_of words ≡ Some order → told_by order ≡ unread.All
  tells order is =
      let all : order_telling unread.All same.order ≡ order = same_some _ order (sym same.all ∙ is) in
      ap told_by (sym all) ∙ tells-all same.order

  -- ---- the patch

  found_other : (name : List ℕ) (under isos : Option (List ℕ)) (defined : List (List ℕ)) (target : Target)
      → PatchFound words old name under isos defined target → PatchFound others old name under isos defined (target_telling same.told target)
  found_other name under isos defined target found = record { order = asks (Apply name isos defined target) found.order; found = found.found }

  read_other : (patch : Patch) (lines : NoteLines) (isos : Option (List ℕ)) (defined : List (List ℕ)) (target : Target) (acts : List Act)
      → PatchRead words old patch lines isos defined target acts → PatchRead others old patch lines isos defined (target_telling same.told target) acts
  read_other patch lines isos defined target acts read = record {
    name = read.name;
    bytes = read.bytes;
    found = found_other read.name (Some read.bytes) isos defined target read.found;
    is = read.is;
    notes = read.notes;
    are_notes = read.are_notes;
    lines_are = read.lines_are ∙ sym (same-notes same.told read.name (is_some isos) target read.notes);
    acts_are = read.acts_are;
  }

  isos_other : (patch : Patch) (lines : NoteLines) (name : List ℕ) (under : Option (List ℕ)) (defined : List (List ℕ)) (target : Target)
      (acts : List Act) → IsosFound words old patch lines name under defined target acts
      → IsosFound others old patch lines name under defined (target_telling same.told target) acts
  isos_other patch lines name under defined target acts found = record {
    before = found.before;
    read = read_other patch lines (Some name) defined target found.before found.read;
    found = found.found;
    acts_are = found.acts_are;
  }

  ready_other : (whole : Patch) (lines : NoteLines) (defined : List (List ℕ)) (target : Target) (acts : List Act)
      → PatchReady words old whole lines defined target acts → PatchReady others old whole lines defined (target_telling same.told target) acts
  ready_other whole lines defined target acts (plain read) = plain (read_other whole lines None defined target acts read)
  ready_other whole lines defined target acts (expanded patch name bytes isos found are is) =
      expanded patch name bytes isos (isos_other patch lines name (Some bytes) defined target acts found) are is

  -- what a ready patch is applied to tells of all
  ready_tells : (whole : Patch) (lines : NoteLines) (defined : List (List ℕ)) (target : Target) (acts : List Act)
      → PatchReady words old whole lines defined target acts → unread_of target ≡ unread.All
  ready_tells whole lines defined target acts (plain read) = tells (Apply read.name None defined target) read.found.order
  ready_tells whole lines defined target acts (expanded patch name bytes isos found are is) =
      tells (Apply found.read.name (Some name) defined target) found.read.found.order

  -- ---- whole runs

  abbrev Told : List Act → ℕ → Type 0
  Told acts status = (left : List Act) × (Reason others old left status × AreButLines acts left)

  pub reason_told : (acts : List Act) (status : ℕ) → Reason words old acts status → Told acts status
  reason_told acts status (unasked nothing is over) = absurd (none_some _ (sym nothing ∙ same.all))
  reason_told acts status (is_said saying order is over) = (acts, (is_said saying (asks (Say saying) order) is over, but-refl acts))
  reason_told acts status (is_generated seed functions order is over) =
      (acts, (is_generated seed functions (asks (Generate seed functions) order) is over, but-refl acts))
  reason_told acts status (no_patch name isos defined target found is over) =
      (acts, (no_patch name isos defined (target_telling same.told target) (found_other name None isos defined target found) is over, but-refl acts))
  reason_told acts status (bad_patch name bytes isos defined target fault at found is_first there is over) =
      let line : (quiet : Bool) → List Act
      = λ quiet. Load name patch_limit ∷ Report (patch_fault_line name (told_place quiet (placed bytes at)) fault) ∷ [] in (
        acts,
        (
          bad_patch name bytes isos defined (target_telling same.told target) fault at (found_other name (Some bytes) isos defined target found) is_first
              there (is ∙ ap line (sym (same-quiet same.told target))) over,
          but-refl acts,
        ),
      )
  reason_told acts status (no_isos patch lines name defined target before found is over) = (
    acts,
    (
      no_isos patch lines name defined (target_telling same.told target) before (isos_other patch lines name None defined target before found) is over,
      but-refl acts,
    ),
  )
  reason_told acts status (bad_isos patch lines name bytes defined target fault before found is_first is over) =
      let line : (quiet : Bool) → List Act
      = λ quiet. before ++ Report (iso_fault_line name (told_place quiet (placed bytes (iso_byte fault))) fault) ∷ [] in (
        acts,
        (
          bad_isos patch lines name bytes defined (target_telling same.told target) fault before
              (isos_other patch lines name (Some bytes) defined target before found) is_first (is ∙ ap line (sym (same-quiet same.told target))) over,
          but-refl acts,
        ),
      )
  reason_told acts status (many_forms patch lines name bytes defined target isos rule before found are many is over) = (
    acts,
    (
      many_forms patch lines name bytes defined (target_telling same.told target) isos rule before
          (isos_other patch lines name (Some bytes) defined target before found) are many is over,
      but-refl acts,
    ),
  )
  reason_told acts status (summed patch lines defined seed functions quiet choice tidy treated before ready sums is over) =
      let target = OnText seed functions quiet choice tidy in
      let it = sums-other same.told patch defined tidy quiet choice generated_name (generated seed functions) treated
      (ready_tells patch lines defined target before ready) sums in
      let other = it.0 in
      let left = before ++ other.acts in (
        left,
        (
          summed patch lines defined seed functions quiet same.told tidy other before (ready_other patch lines defined target before ready) it.1.0 refl
              (over ∙ ap end_status it.1.1.tally),
          but-as acts left _ left is refl (but-append before before treated.acts other.acts (but-refl before) it.1.1.acts),
        ),
      )
  reason_told acts status (filed patch lines defined mode names before rest end ready does is over) =
      let target = OnFiles mode names in
      let it = files-other same.told patch defined mode (ready_tells patch lines defined target before ready) names old old (first_course lines) rest end
      refl does in
      let left = before ++ it.0 in (
        left,
        (
          filed patch lines defined (mode_telling same.told mode) names before it.0 end (ready_other patch lines defined target before ready) it.1.0
              refl over,
          but-as acts left _ left is refl (but-append before before rest it.0 (but-refl before) it.1.1),
        ),
      )
