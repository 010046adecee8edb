-- The notes of a run are its last acts.
use Rattle.std.proofs.Common.{◌≡◌, ◌⊎◌, ◌||◌, ◌&&◌, ℕ, Bool, true, false, cond, List, [], ◌∷◌, ◌++◌, length, map, Option, None, Some, refl, sym, ap}
use Rattle.std.proofs.Common.{◌∙◌, inl, inr, append_assoc}
use Rattle.std.specs.List.{list_any, list_all}
use Rattle.std.proofs.lemmas.List.{append-nil}
use Rattle.std.proofs.lemmas.List.Folds.{list_any-append}
use Rattle.c_terms.specs.Same.{same_bytes}
use Rattle.smpl_patch.specs.declared.rule.Patch.{Patch}
use Rattle.outer_io.specs.Files.{Files}
use Rattle.c_places.specs.declared.places.TextPlaces.{TextPlaces}
use Rattle.rule_chain.specs.declared.rule_run.state.SkipNote.{SkipNote}
use Rattle.rule_chain.specs.Chain.{Outcome, Done, Refused}
use Rattle.rule_chain.specs.RuleRun.States.{Chained, told_notes}
use Rattle.wit_print.specs.Report.{report_of}
use Rattle.run_words.specs.declared.fault.WordFault.{WordFault}
use Rattle.run_choices.specs.declared.unread.Unread.{Unread}
use Rattle.run_words.specs.declared.order.Mode.{Mode}
use Rattle.run_words.specs.Orders.{Target, OnFiles, OnText}
use Rattle.run_words.specs.Faults.{word_fault}
use Rattle.run_acts.specs.Acts.{Act, Load, Report, Observed, after}
use Rattle.run_files.specs.declared.run_lines.notes.NoteLines.{NoteLines}
use Rattle.run_files.specs.RunLines.Words.{refused_words}
use Rattle.run_files.specs.RunLines.Summary.{summary}
use Rattle.run_files.specs.Treatment.{Treated, IsFileTreatmentOf, treated_by, summed_by, told_places, printing, shown, stored_after, note_act}
use Rattle.run_files.specs.Treatment.{skipped_lines, is_hit, file_limit}
use Rattle.run_files.specs.RunStages.Stages.{Course, first_course, after_file, told, generated_name, patch_limit}
use Rattle.run_files.specs.RunStages.Reasons.{IsosFound, PatchReady, FilesEnd, FilesDo, files_status, Reason}
use Rattle.run_files.specs.RunStages.Reasons.PatchReady.{plain, expanded}
use Rattle.run_files.specs.RunStages.Reasons.Reason.{unasked, is_said, is_generated, no_patch, bad_patch, no_isos, bad_isos, many_forms, summed}
use Rattle.run_files.specs.RunStages.Reasons.Reason.{filed}
use Rattle.spatch_run.specs.RunEnds.Quiet.{says_more, is_note, EndsInNotes}
use Rattle.spatch_run.proofs.RunLaws.Checked.{status_by}
use Rattle.spatch_run.proofs.RunEnds.QuietFiles.{AllMore, AllSayMore}
use Rattle.spatch_run.proofs.RunEnds.QuietLemmas.{more-ready}

-- none of the acts is a note
abbrev NoNote : List Act → Type 0
NoNote acts = list_any is_note acts ≡ false

no-append : (xs ys : List Act) → NoNote xs → NoNote ys → NoNote (xs ++ ys)
no-append xs ys e f = list_any-append is_note xs ys ∙ (λ i. e i || f i)

no-cond : (b : Bool) (xs ys : List Act) → NoNote xs → NoNote ys → NoNote (cond b xs ys)
no-cond true xs ys e f = e
no-cond false xs ys e f = f

-- acts without notes
alone : (acts : List Act) (status : ℕ) → NoNote acts → EndsInNotes acts status
alone acts status none = record {
  first = acts;
  notes = [];
  acts_are = sym (append-nil acts);
  before = none;
  are_notes = refl;
  calm = inl refl;
}

-- ---- texts

no-printing : (text : List ℕ) → NoNote (printing text)
no-printing [] = refl
no-printing (byte ∷ text) = refl

no-skipped : (name text : List ℕ) (places : TextPlaces) (notes : List SkipNote) → NoNote (map (note_act name text places) notes)
no-skipped name text places [] = refl
no-skipped name text places (note ∷ notes) = no-skipped name text places notes

no-shown : (mode : Mode) (patch : Patch) (name bytes : List ℕ) (s : Chained) → NoNote (shown mode patch name bytes s)
no-shown mode patch name bytes s =
    no-cond mode.witnesses _ _ (no-printing (report_of patch name s.found))
    (no-cond mode.check _ _ (no-cond (is_hit patch bytes s) _ [] refl refl) (no-cond mode.in_place [] _ refl (no-printing s.page.bytes)))

no-stored : (mode : Mode) (name bytes : List ℕ) (s : Chained) → NoNote (stored_after mode name bytes s)
no-stored mode name bytes s = no-cond mode.in_place _ [] (no-cond (same_bytes bytes s.page.bytes) [] _ refl refl) refl

no-treated : (mode : Mode) (patch : Patch) (name bytes : List ℕ) (places : TextPlaces) (end : Outcome)
    → NoNote (treated_by mode patch name bytes places end).acts
no-treated mode patch name bytes places (Refused fault) = refl
no-treated mode patch name bytes places (Done s) =
    no-append (skipped_lines mode.unread name bytes places s ++ shown mode patch name bytes s) (stored_after mode name bytes s)
    (no-append (skipped_lines mode.unread name bytes places s) (shown mode patch name bytes s)
    (no-skipped name bytes places (told_notes mode.unread s))
    (no-shown mode patch name bytes s))
    (no-stored mode name bytes s)

no-summed : (patch : Patch) (choice : Unread) (name bytes : List ℕ) (places : TextPlaces) (end : Outcome)
    → NoNote (summed_by patch choice name bytes places end).acts
no-summed patch choice name bytes places (Refused fault) = refl
no-summed patch choice name bytes places (Done s) =
    no-append (skipped_lines choice name bytes places s) (printing (summary patch.rules s.found (length s.page.bytes)))
    (no-skipped name bytes places (told_notes choice s)) (no-printing (summary patch.rules s.found (length s.page.bytes)))

as-treated : (treated other : Treated) → treated ≡ other → NoNote other.acts → NoNote treated.acts
as-treated treated other is none = ap (λ (t : Treated). list_any is_note t.acts) is ∙ none

no-file : (holds : Option Files) (mode : Mode) (patch : Patch) (defined : List (List ℕ)) (name bytes : List ℕ) (treated : Treated)
    → IsFileTreatmentOf holds mode patch defined name bytes treated → NoNote treated.acts
no-file holds mode patch defined name bytes treated (inl (inl long)) = as-treated treated _ long.1 refl
no-file holds mode patch defined name bytes treated (inl (inr short)) =
    as-treated treated _ short.1.1.1.1.1 (no-treated mode patch name bytes (told_places mode.quiet short.1.1.1.0) short.1.0)
no-file holds mode patch defined name bytes treated (inr special) = as-treated treated _ special.1 refl

-- ---- files in turn

all-told : (lines : List (List ℕ)) → AllMore lines → list_all is_note (map Report lines) ≡ true
all-told [] more = refl
all-told (line ∷ lines) more = λ i. more.0 i && all-told lines more.1 i

status-calm : (hit : Bool) → (status_by false hit ≡ 0) ⊎ (status_by false hit ≡ 8)
status-calm true = inr refl
status-calm false = inl refl

calm-ends : (hit : Bool) (lines : List (List ℕ)) → AllMore lines → EndsInNotes (map Report lines) (status_by false hit)
calm-ends hit lines more = record {
  first = [];
  notes = map Report lines;
  acts_are = refl;
  before = refl;
  are_notes = all-told lines more;
  calm = inr (status-calm hit);
}

told-ends : (refused hit found : Bool) (notes : NoteLines) → AllSayMore notes
    → EndsInNotes (map Report (cond refused [] (cond found notes.always notes.all))) (status_by refused hit)
told-ends true hit found notes more = alone [] (status_by true hit) refl
told-ends false hit true notes more = calm-ends hit notes.always more.1
told-ends false hit false notes more = calm-ends hit notes.all more.0

ends-as : (acts acts' : List Act) (status status' : ℕ) → acts ≡ acts' → status ≡ status' → EndsInNotes acts' status' → EndsInNotes acts status
ends-as acts acts' status status' e f ends = record {
  first = ends.first;
  notes = ends.notes;
  acts_are = e ∙ ends.acts_are;
  before = ends.before;
  are_notes = ends.are_notes;
  calm = elim ends.calm [
    | inl none ↦ inl none
    | inr (inl zero_is) ↦ inr (inl (f ∙ zero_is))
    | inr (inr eight_is) ↦ inr (inr (f ∙ eight_is))
  ];
}

joined-first : (acts own first notes rest : List Act) → acts ≡ own ++ rest → rest ≡ first ++ notes → acts ≡ own ++ first ++ notes
joined-first acts own first notes rest e f = e ∙ ap (λ (x : List Act). own ++ x) f ∙ sym (append_assoc own first notes)

-- acts without notes before
after-none : (acts own rest : List Act) (status : ℕ) → NoNote own → acts ≡ own ++ rest → EndsInNotes rest status → EndsInNotes acts status
after-none acts own rest status none e ends = record {
  first = own ++ ends.first;
  notes = ends.notes;
  acts_are = joined-first acts own ends.first ends.notes rest e ends.acts_are;
  before = no-append own ends.first none ends.before;
  are_notes = ends.are_notes;
  calm = ends.calm;
}

files-noted : (patch : Patch) (defined : List (List ℕ)) (mode : Mode) (names : List (List ℕ)) (old : Observed) (course : Course)
    (acts : List Act) (end : FilesEnd) → AllSayMore course.notes → FilesDo old patch defined mode names course acts end
    → EndsInNotes acts (files_status end)
files-noted patch defined mode [] old course acts end more does =
    ends-as acts (told course) (files_status end) (status_by course.tally.refused course.tally.hit) does.0 (ap files_status does.1)
    (told-ends course.tally.refused course.tally.hit course.tally.found course.notes more)
files-noted patch defined mode (name ∷ names) old course acts end more (inl gone) =
    alone acts (files_status end) (ap (list_any is_note) gone.1.0)
files-noted patch defined mode (name ∷ names) old course acts end more (inr some) =
    let treated = some.1.1.0 in
    let rest = some.1.1.1.1.0 in
    after-none acts (Load name file_limit ∷ treated.acts) rest (files_status end)
    (no-file old.files mode patch defined name some.0 treated some.1.1.1.0) some.1.1.1.1.1.0
    (files-noted patch defined mode names (after treated.acts old) (after_file course treated.tally) rest end more some.1.1.1.1.1.1)

-- ---- whole runs

module _ (words : List (List ℕ)) (old : Observed) where
  isos-none : (patch : Patch) (lines : NoteLines) (name : List ℕ) (under : Option (List ℕ)) (defined : List (List ℕ)) (target : Target)
      (acts : List Act) → IsosFound words old patch lines name under defined target acts → NoNote acts
  isos-none patch lines name under defined target acts found =
      ap (list_any is_note) (found.acts_are ∙ ap (λ (x : List Act). x ++ Load name patch_limit ∷ []) found.read.acts_are)

  ready-none : (whole : Patch) (lines : NoteLines) (defined : List (List ℕ)) (target : Target) (acts : List Act)
      → PatchReady words old whole lines defined target acts → NoNote acts
  ready-none whole lines defined target acts (plain read) = ap (list_any is_note) read.acts_are
  ready-none whole lines defined target acts (expanded patch name bytes isos found are is) =
      isos-none patch lines name (Some bytes) defined target acts found

  ended : (acts before : List Act) (text : List ℕ) (status : ℕ) → acts ≡ before ++ Report text ∷ [] → NoNote before → says_more text ≡ false
      → EndsInNotes acts status
  ended acts before text status is none plain_text =
      alone acts status (ap (list_any is_note) is ∙ no-append before (Report text ∷ []) none (λ i. plain_text i || false))

  usage-plain : (fault : Option WordFault) → says_more (refused_words fault) ≡ false
  usage-plain None = refl
  usage-plain (Some fault) = refl

  pub reason_notes : (acts : List Act) (status : ℕ) → Reason words old acts status → EndsInNotes acts status
  reason_notes acts status (unasked none is over) = ended acts [] (refused_words (word_fault words)) status is refl (usage-plain (word_fault words))
  reason_notes acts status (is_said saying order is over) = alone acts status (ap (list_any is_note) is)
  reason_notes acts status (is_generated seed functions order is over) = alone acts status (ap (list_any is_note) is)
  reason_notes acts status (no_patch name isos defined target found is over) = alone acts status (ap (list_any is_note) is)
  reason_notes acts status (bad_patch name bytes isos defined target fault at found first there is over) =
      alone acts status (ap (list_any is_note) is)
  reason_notes acts status (no_isos patch lines name defined target before found is over) =
      ended acts before _ status is (isos-none patch lines name None defined target before found) refl
  reason_notes acts status (bad_isos patch lines name bytes defined target fault before found first is over) =
      ended acts before _ status is (isos-none patch lines name (Some bytes) defined target before found) refl
  reason_notes acts status (many_forms patch lines name bytes defined target isos rule before found are many is over) =
      ended acts before _ status is (isos-none patch lines name (Some bytes) defined target before found) refl
  reason_notes acts status (summed patch lines defined seed functions quiet unread tidy treated before ready sums is over) =
      alone acts status (ap (list_any is_note) is
      ∙ no-append before treated.acts (ready-none patch lines defined (OnText seed functions quiet unread tidy) before ready)
      (as-treated treated _ sums.1.1.1.1.1 (no-summed patch unread generated_name _ (told_places quiet sums.1.1.1.0) sums.1.0)))
  reason_notes acts status (filed patch lines defined mode names before rest end ready does is over) =
      after-none acts before rest status (ready-none patch lines defined (OnFiles mode names) before ready) is
      (ends-as rest rest status (files_status end) refl over (files-noted patch defined mode names old (first_course lines) rest end
      (more-ready words old patch lines defined (OnFiles mode names) before ready) does))
