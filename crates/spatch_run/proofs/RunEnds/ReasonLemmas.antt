-- Words have acts with a reason.
use Rattle.std.proofs.Common.{◌≡◌, ◌∙◌, ◌≤◌, ◌⊎◌, ℕ, Bool, false, Option, Some, None, is_some, List, [], ◌∷◌, ◌++◌, inl, inr, refl, ap, sym, subst}
use Rattle.smpl_patch.specs.declared.rule.Iso.{Iso}
use Rattle.smpl_patch.specs.declared.rule.Rule.{Rule}
use Rattle.smpl_patch.specs.declared.rule.Patch.{Patch}
use Rattle.smpl_patch.specs.declared.fault.PatchFault.{PatchFault}
use Rattle.smpl_file.specs.Patches.{IsPatchOf, IsFirstFault, IsSpelled}
use Rattle.iso_file.specs.declared.fault.IsoFault.{IsoFault}
use Rattle.iso_file.specs.Isos.{AreIsosOf, IsFileFault}
use Rattle.iso_expand.specs.Patches.{IsExpanded, IsFirstMany}
use Rattle.sp_gen.specs.Generated.{generated}
use Rattle.sp_gen.proofs.Lengths.{short_enough}
use Rattle.run_choices.specs.declared.unread.Unread.{Unread}
use Rattle.rule_chain.specs.Chain.{Chain, Outcome}
use Rattle.run_acts.specs.Acts.{Act, Load, Print, Report, Observed}
use Rattle.run_acts.specs.Lines.{cannot_read}
use Rattle.run_acts.specs.Loaded.{Found}
use Rattle.run_files.specs.declared.run_lines.notes.NoteLines.{NoteLines}
use Rattle.run_files.specs.RunLines.Words.{refused_words, said}
use Rattle.run_files.specs.RunLines.Patches.{patch_fault_line, iso_fault_line, forms_line, iso_byte}
use Rattle.std.specs.Option.{option_map_or}
use Rattle.run_words.specs.Orders.{Target, OnFiles, OnText, Order, Apply, Generate, Say, asks_tidy, is_quiet, is_tidied, is_tidy, order_of}
use Rattle.run_words.specs.Faults.{word_fault}
use Rattle.smpl_places.specs.FaultPlaces.{FaultAt}
use Rattle.smpl_notes.specs.declared.note.Note.{Note}
use Rattle.smpl_notes.specs.Notes.{AreNotes}
use Rattle.run_files.specs.RunLines.Further.{placed, told_place}
use Rattle.run_files.specs.RunLines.Notes.{note_lines}
use Rattle.run_files.specs.Treatment.{Treated, summed_by, told_places}
use Rattle.run_files.specs.RunStages.Stages.{patch_limit, generated_name, first_course, end_status}
use Rattle.run_files.proofs.TreatLemmas.{text_places}
use Rattle.run_files.specs.RunStages.Reasons.{PatchFound, PatchRead, IsosFound, PatchReady, Reason, files_status}
use Rattle.run_files.specs.RunStages.Reasons.PatchReady.{plain, expanded}
use Rattle.run_files.specs.RunStages.Reasons.Reason.{unasked, is_said, is_generated, no_patch, bad_patch, no_isos, bad_isos, many_forms, summed}
use Rattle.run_files.specs.RunStages.Reasons.Reason.{filed}
use Rattle.text_laws.specs.ChainTotal.Weakly.{Weakly}
use Rattle.spatch_run.proofs.Few.{few_text}
use Rattle.spatch_run.proofs.RunEnds.FileLemmas.{HaveEnds, chain_ends, found_some, files_do}

abbrev pub PatchLaw : Type 0
PatchLaw = (bytes : List ℕ) → ((patch : Patch) → IsPatchOf bytes patch → ⊥) → ((fault : PatchFault) → IsFirstFault bytes fault → ⊥) → ⊥

abbrev pub PlaceLaw : Type 0
PlaceLaw = (bytes : List ℕ) (fault : PatchFault) → ((at : Option ℕ) → FaultAt bytes fault at → ⊥) → ⊥

abbrev pub NotesLaw : Type 0
NotesLaw = (bytes : List ℕ) (patch : Patch) → IsPatchOf bytes patch → (notes : List Note) × AreNotes bytes patch notes

abbrev pub IsosLaw : Type 0
IsosLaw = (bytes : List ℕ) → ((isos : List Iso) → AreIsosOf bytes isos → ⊥) → ((fault : IsoFault) → IsFileFault bytes fault → ⊥) → ⊥

abbrev pub FormsLaw : Type 0
FormsLaw = (isos : List Iso) (patch : Patch) → ((whole : Patch) × IsExpanded isos patch whole) ⊎ ((rule : ℕ) × IsFirstMany isos patch.rules rule)

abbrev pub ReadLaw : Type 0
ReadLaw = (bytes : List ℕ) (patch : Patch) (defined : List (List ℕ)) (text : List ℕ) → IsSpelled bytes patch
    → Weakly ((end : Outcome) × Chain false patch.rules defined text end)

abbrev pub ExpandedLaw : Type 0
ExpandedLaw = (bytes : List ℕ) (isos : List Iso) (patch whole : Patch) (defined : List (List ℕ)) (text : List ℕ) → IsSpelled bytes patch
    → IsExpanded isos patch whole → Weakly ((end : Outcome) × Chain false whole.rules defined text end)

untidy_asked : (words : List (List ℕ)) (order : Order) → asks_tidy words ≡ false → order_of words ≡ Some order → is_tidied order ≡ false
untidy_asked words order untidy is = ap (λ (o : Option Order). option_map_or is_tidied o false) (sym is) ∙ untidy

ends_as : (tidy : Bool) (rules : List Rule) (defined : List (List ℕ)) → tidy ≡ false → HaveEnds false rules defined → HaveEnds tidy rules defined
ends_as tidy rules defined is ends = subst (λ (b : Bool). HaveEnds b rules defined) (sym is) ends

-- the rules of a patch that is ready have an outcome over each text
pub ready_ends : ReadLaw → ExpandedLaw → (words : List (List ℕ)) → asks_tidy words ≡ false → (old : Observed) (patch : Patch) (lines : NoteLines)
    (defined : List (List ℕ)) (target : Target) (acts : List Act) → PatchReady words old patch lines defined target acts
    → HaveEnds (is_tidy target) patch.rules defined
ready_ends read forms words untidy old patch lines defined target acts (plain r) =
    ends_as (is_tidy target) patch.rules defined (untidy_asked words (Apply r.name None defined target) untidy r.found.order)
    (λ text. read r.bytes patch defined text r.is.spelled)
ready_ends read forms words untidy old patch lines defined target acts (expanded first name bytes isos found are is) =
    ends_as (is_tidy target) patch.rules defined
    (untidy_asked words (Apply found.read.name (Some name) defined target) untidy found.read.found.order)
    (λ text. forms found.read.bytes isos first patch defined text found.read.is.spelled is)

-- a generated text that the patch is ready for has at most so many functions
ready_few : (words : List (List ℕ)) (old : Observed) (patch : Patch) (lines : NoteLines) (defined : List (List ℕ)) (seed functions : ℕ) (quiet : Bool)
    (unread : Unread) (tidy : Bool) (acts : List Act) → PatchReady words old patch lines defined (OnText seed functions quiet unread tidy) acts
    → functions ≤ 100000
ready_few words old patch lines defined seed functions quiet unread tidy acts (plain read) =
    few_text words read.name None defined seed functions quiet unread tidy read.found.order
ready_few words old patch lines defined seed functions quiet unread tidy acts (expanded first name bytes isos found are is) =
    few_text words found.read.name (Some name) defined seed functions quiet unread tidy found.read.found.order

module _ (patch_law : PatchLaw) (place_law : PlaceLaw) (notes_law : NotesLaw) (isos_law : IsosLaw) (forms_law : FormsLaw) (read_law : ReadLaw)
    (expanded_law : ExpandedLaw) (words : List (List ℕ)) (untidy : asks_tidy words ≡ false)
    (old : Observed) (absent : ((acts : List Act) × ((status : ℕ) × Reason words old acts status)) → ⊥) where
  -- the patch has all its forms
  target_by : (patch : Patch) (lines : NoteLines) (defined : List (List ℕ)) (target : Target) (before : List Act)
      → PatchReady words old patch lines defined target before → ⊥
  target_by patch lines defined (OnFiles mode names) before ready =
      files_do patch defined mode (ready_ends read_law expanded_law words untidy old patch lines defined
      (OnFiles mode names) before ready) old names (first_course lines)
      (λ rest. absent (before ++ rest.0, (files_status rest.1.0, filed patch lines defined mode names before rest.0 rest.1.0 ready rest.1.1 refl refl)))
  target_by patch lines defined (OnText seed functions quiet unread tidy) before ready =
      ready_ends read_law expanded_law words untidy old patch lines defined (OnText seed functions quiet unread tidy) before ready
      (generated seed functions)
      (λ e.
      let text = generated seed functions in
      let places = text_places text in
      let treated : Treated = summed_by patch unread generated_name text (told_places quiet places.0) e.0 in
      let ends = chain_ends tidy unread patch.rules defined text e.0 e.1 in
      let short = short_enough seed functions (ready_few words old patch lines defined seed functions quiet unread tidy before ready) in
      absent (
        before ++ treated.acts,
        (
          end_status treated.tally,
          summed patch lines defined seed functions quiet unread tidy treated before ready (short, (e.0, (ends, (places.0, (places.1, refl))))) refl refl,
        ),
      ))

  isos_by : (patch : Patch) (lines : NoteLines) (name : List ℕ) (defined : List (List ℕ)) (target : Target) (before : List Act)
      → PatchRead words old patch lines (Some name) defined target before → (under : Option (List ℕ)) → Found old.files name under → ⊥
  isos_by patch lines name defined target before read None found =
      let loaded : List Act = before ++ Load name patch_limit ∷ [] in
      absent (
        loaded ++ Report (cannot_read name) ∷ [],
        (5, no_isos patch lines name defined target loaded (record { before = before; read = read; found = found; acts_are = refl }) refl refl),
      )
  isos_by patch lines name defined target before read (Some bytes) found =
      let loaded : List Act = before ++ Load name patch_limit ∷ [] in
      let is : IsosFound words old patch lines name (Some bytes) defined target loaded =
      record { before = before; read = read; found = found; acts_are = refl } in
      isos_law bytes
      (λ isos are. elim (forms_law isos patch) [
        | inl whole ↦ target_by whole.0 lines defined target loaded (expanded patch name bytes isos is are whole.1)
        | inr many ↦
            absent (
              loaded ++ Report (forms_line name many.0) ∷ [],
              (3, many_forms patch lines name bytes defined target isos many.0 loaded is are many.1 refl refl),
            )
      ])
      (λ fault wrong.
      absent (
        loaded ++ Report (iso_fault_line name (told_place (is_quiet target) (placed bytes (iso_byte fault))) fault) ∷ [],
        (3, bad_isos patch lines name bytes defined target fault loaded is wrong refl refl),
      ))

  read_by : (patch : Patch) (lines : NoteLines) (isos : Option (List ℕ)) (defined : List (List ℕ)) (target : Target) (before : List Act)
      → PatchRead words old patch lines isos defined target before → ⊥
  read_by patch lines None defined target before read = target_by patch lines defined target before (plain read)
  read_by patch lines (Some name) defined target before read =
      let found = found_some old.files name in isos_by patch lines name defined target before read found.0 found.1

  patch_by : (name : List ℕ) (isos : Option (List ℕ)) (defined : List (List ℕ)) (target : Target)
      → order_of words ≡ Some (Apply name isos defined target) → (under : Option (List ℕ)) → Found old.files name under → ⊥
  patch_by name isos defined target e None found =
      absent (
        Load name patch_limit ∷ Report (cannot_read name) ∷ [],
        (5, no_patch name isos defined target (record { order = e; found = found }) refl refl),
      )
  patch_by name isos defined target e (Some bytes) found =
      let is : PatchFound words old name (Some bytes) isos defined target = record { order = e; found = found } in
      patch_law bytes
      (λ patch read.
      let noted = notes_law bytes patch read in
      let lines : NoteLines = note_lines name (is_some isos) target noted.0 in
      read_by patch lines isos defined target (Load name patch_limit ∷ []) (record {
        name = name;
        bytes = bytes;
        found = is;
        is = read;
        notes = noted.0;
        are_notes = noted.1;
        lines_are = refl;
        acts_are = refl;
      }))
      (λ fault wrong. place_law bytes fault (λ at there.
      absent (
        Load name patch_limit ∷ Report (patch_fault_line name (told_place (is_quiet target) (placed bytes at)) fault) ∷ [],
        (2, bad_patch name bytes isos defined target fault at is wrong there refl refl),
      )))

  order_by : (o : Option Order) → order_of words ≡ o → ⊥
  order_by None e = absent (Report (refused_words (word_fault words)) ∷ [], (1, unasked e refl refl))
  order_by (Some (Say saying)) e = absent (Print (said saying) ∷ [], (0, is_said saying e refl refl))
  order_by (Some (Generate seed functions)) e =
      absent (Print (generated seed functions) ∷ [], (0, is_generated seed functions e refl refl))
  order_by (Some (Apply name isos defined target)) e =
      let found = found_some old.files name in patch_by name isos defined target e found.0 found.1

  pub reason_some : ⊥
  reason_some = order_by (order_of words) refl
