-- Why a whole run has these acts and this status, in terms of the acts, file by file. Stages don't occur here.
use Rattle.std.specs.Prelude.{ℕ, ◌≡◌, ◌⊎◌, Bool, List, [], ◌∷◌, ◌++◌, Option, Some, None, is_some}
use Rattle.run_acts.specs.Acts.{Act, Load, Print, Report, Observed, after}
use Rattle.run_acts.specs.Lines.{cannot_read}
use Rattle.run_acts.specs.Loaded.{Found}
use Rattle.smpl_patch.specs.declared.rule.Iso.{Iso}
use Rattle.smpl_patch.specs.declared.rule.Patch.{Patch}
use Rattle.smpl_patch.specs.declared.fault.PatchFault.{PatchFault}
use Rattle.smpl_file.specs.Patches.{IsPatchOf, IsFirstFault}
use Rattle.iso_file.specs.declared.fault.IsoFault.{IsoFault}
use Rattle.iso_file.specs.Isos.{AreIsosOf, IsFileFault}
use Rattle.iso_expand.specs.Patches.{IsExpanded, IsFirstMany}
use Rattle.sp_gen.specs.Generated.{generated}
use Rattle.run_choices.specs.declared.unread.Unread.{Unread}
use Rattle.run_words.specs.declared.order.Mode.{Mode}
use Rattle.run_words.specs.declared.order.Saying.{Saying}
use Rattle.run_words.specs.Orders.{Target, OnFiles, OnText, Apply, Generate, Say, order_of, is_quiet}
use Rattle.run_words.specs.Faults.{word_fault}
use Rattle.run_files.specs.RunLines.Words.{refused_words, said}
use Rattle.run_files.specs.RunLines.Patches.{patch_fault_line, iso_fault_line, forms_line, iso_byte}
use Rattle.smpl_places.specs.FaultPlaces.{FaultAt}
use Rattle.run_files.specs.RunLines.Further.{placed, told_place}
use Rattle.run_files.specs.RunLines.Notes.{note_lines}
use Rattle.smpl_notes.specs.declared.note.Note.{Note}
use Rattle.smpl_notes.specs.Notes.{AreNotes}
use Rattle.run_files.specs.declared.tally.Tally.{Tally}
use Rattle.run_files.specs.declared.run_lines.notes.NoteLines.{NoteLines}
use Rattle.run_files.specs.Treatment.{Treated, file_limit, IsFileTreatmentOf, Sums}
use Rattle.run_files.specs.RunStages.Stages.{patch_limit, generated_name, end_status, Course, first_course, after_file, told}

-- ---- the patch

-- the words ask for this patch, and these are its bytes, or nothing is stored under its name
pub record PatchFound (words : List (List ℕ)) (old : Observed) (name : List ℕ) (under : Option (List ℕ)) (isos : Option (List ℕ))
    (defined : List (List ℕ)) (target : Target) : Type 0 where
  pub order : order_of words ≡ Some (Apply name isos defined target)
  pub found : Found old.files name under

-- the words ask for this patch, which was read, these are the lines of the notes on it, and these acts load it
pub record PatchRead (words : List (List ℕ)) (old : Observed) (patch : Patch) (lines : NoteLines) (isos : Option (List ℕ))
    (defined : List (List ℕ)) (target : Target) (acts : List Act) : Type 0 where
  pub name : List ℕ
  pub bytes : List ℕ
  pub found : PatchFound words old name (Some bytes) isos defined target
  pub is : IsPatchOf bytes patch
  pub notes : List Note
  pub are_notes : AreNotes bytes patch notes
  pub lines_are : lines ≡ note_lines name (is_some isos) target notes
  pub acts_are : acts ≡ Load name patch_limit ∷ []

-- the patch was read, and isomorphisms of this name are asked for, under which these bytes are stored, or nothing
pub record IsosFound (words : List (List ℕ)) (old : Observed) (patch : Patch) (lines : NoteLines) (name : List ℕ) (under : Option (List ℕ))
    (defined : List (List ℕ)) (target : Target) (acts : List Act) : Type 0 where
  pub before : List Act
  pub read : PatchRead words old patch lines (Some name) defined target before
  pub found : Found old.files name under
  pub acts_are : acts ≡ before ++ Load name patch_limit ∷ []

-- the patch that the words ask for, with all its forms, the lines of the notes on it, and the acts that load it and its isomorphisms
pub data PatchReady (words : List (List ℕ)) (old : Observed) (whole : Patch) (lines : NoteLines) (defined : List (List ℕ)) (target : Target)
    (acts : List Act) : Type 0 where
  plain : PatchRead words old whole lines None defined target acts → PatchReady words old whole lines defined target acts
  expanded : (patch : Patch) (name bytes : List ℕ) (isos : List Iso) → IsosFound words old patch lines name (Some bytes) defined target acts
      → AreIsosOf bytes isos → IsExpanded isos patch whole → PatchReady words old whole lines defined target acts

-- ---- the files

-- how the files end: all of them are processed, with this tally; or the run ends at a name under which nothing is stored
pub data FilesEnd : Type 0 where
  AllDone : (tally : Tally) → FilesEnd
  Missing : (name : List ℕ) → FilesEnd

-- the status after the files
abbrev pub files_status : FilesEnd → ℕ
files_status (AllDone tally) = end_status tally
files_status (Missing name) = 5

-- The files in turn: each is loaded, as observed at that time, and leads to its acts. After the last one, notes are told
-- if nothing was refused.
abbrev pub FilesDo : Observed → Patch → List (List ℕ) → Mode → List (List ℕ) → Course → List Act → FilesEnd → Type 0
FilesDo old patch defined mode [] course acts end = (acts ≡ told course) × (end ≡ AllDone course.tally)
FilesDo old patch defined mode (name ∷ names) course acts end =
    (Found old.files name None × ((acts ≡ Load name file_limit ∷ Report (cannot_read name) ∷ []) × (end ≡ Missing name)))
    ⊎ ((bytes : List ℕ) × (Found old.files name (Some bytes) × ((treated : Treated)
    × (IsFileTreatmentOf old.files mode patch defined name bytes treated × ((rest : List Act)
    × ((acts ≡ Load name file_limit ∷ treated.acts ++ rest)
    × FilesDo (after treated.acts old) patch defined mode names (after_file course treated.tally) rest end))))))

-- ---- whole runs

pub data Reason (words : List (List ℕ)) (old : Observed) (acts : List Act) (status : ℕ) : Type 0 where
  -- 1: the words are no command, and this is why
  unasked : order_of words ≡ None → acts ≡ Report (refused_words (word_fault words)) ∷ [] → status ≡ 1 → Reason words old acts status
  -- 0: a text about the program is asked for
  is_said : (saying : Saying) → order_of words ≡ Some (Say saying) → acts ≡ Print (said saying) ∷ [] → status ≡ 0 → Reason words old acts status
  -- 0: a text is generated
  is_generated : (seed functions : ℕ) → order_of words ≡ Some (Generate seed functions) → acts ≡ Print (generated seed functions) ∷ []
      → status ≡ 0 → Reason words old acts status
  -- 5: nothing is stored under the patch's name
  no_patch : (name : List ℕ) (isos : Option (List ℕ)) (defined : List (List ℕ)) (target : Target)
      → PatchFound words old name None isos defined target → acts ≡ Load name patch_limit ∷ Report (cannot_read name) ∷ []
      → status ≡ 5 → Reason words old acts status
  -- 2: the patch has a fault, and this is the first
  bad_patch : (name bytes : List ℕ) (isos : Option (List ℕ)) (defined : List (List ℕ)) (target : Target) (fault : PatchFault) (at : Option ℕ)
      → PatchFound words old name (Some bytes) isos defined target → IsFirstFault bytes fault → FaultAt bytes fault at
      → acts ≡ Load name patch_limit ∷ Report (patch_fault_line name (told_place (is_quiet target) (placed bytes at)) fault) ∷ []
      → status ≡ 2 → Reason words old acts status
  -- 5: nothing is stored under the isomorphisms' name
  no_isos : (patch : Patch) (lines : NoteLines) (name : List ℕ) (defined : List (List ℕ)) (target : Target) (before : List Act)
      → IsosFound words old patch lines name None defined target before → acts ≡ before ++ Report (cannot_read name) ∷ []
      → status ≡ 5 → Reason words old acts status
  -- 3: the isomorphisms have a fault, and this is the first
  bad_isos : (patch : Patch) (lines : NoteLines) (name bytes : List ℕ) (defined : List (List ℕ)) (target : Target) (fault : IsoFault)
      (before : List Act) → IsosFound words old patch lines name (Some bytes) defined target before → IsFileFault bytes fault
      → acts ≡ before ++ Report (iso_fault_line name (told_place (is_quiet target) (placed bytes (iso_byte fault))) fault) ∷ []
      → status ≡ 3 → Reason words old acts status
  -- 3: some rule has too many forms under the isomorphisms, and this is the first
  many_forms : (patch : Patch) (lines : NoteLines) (name bytes : List ℕ) (defined : List (List ℕ)) (target : Target) (isos : List Iso) (rule : ℕ)
      (before : List Act) → IsosFound words old patch lines name (Some bytes) defined target before → AreIsosOf bytes isos → IsFirstMany isos patch.rules rule
      → acts ≡ before ++ Report (forms_line name rule) ∷ [] → status ≡ 3 → Reason words old acts status
  -- 0 or 4: a patch is applied to a generated text
  summed : (patch : Patch) (lines : NoteLines) (defined : List (List ℕ)) (seed functions : ℕ) (quiet : Bool) (unread : Unread)
      (tidy : Bool) (treated : Treated) (before : List Act) → PatchReady words old patch lines defined (OnText seed functions quiet unread tidy) before
      → Sums tidy patch defined quiet unread generated_name (generated seed functions) treated
      → acts ≡ before ++ treated.acts → status ≡ end_status treated.tally → Reason words old acts status
  -- 0, 4, 5 or 8: the files are processed
  filed : (patch : Patch) (lines : NoteLines) (defined : List (List ℕ)) (mode : Mode) (names : List (List ℕ)) (before rest : List Act)
      (end : FilesEnd) → PatchReady words old patch lines defined (OnFiles mode names) before
      → FilesDo old patch defined mode names (first_course lines) rest end
      → acts ≡ before ++ rest → status ≡ files_status end → Reason words old acts status
