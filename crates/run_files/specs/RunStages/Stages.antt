-- How far a run has come, and what it does next.
use Rattle.std.specs.Prelude.{ℕ, ◌≡◌, ◌⊎◌, false, ◌||◌, cond, List, [], ◌∷◌, ◌++◌, map, Option, Some, None, is_some, codes}
use Rattle.outer_io.specs.Files.{Files}
use Rattle.run_acts.specs.Acts.{Act, Load, Print, Report}
use Rattle.run_acts.specs.Lines.{cannot_read}
use Rattle.run_acts.specs.Loaded.{Found}
use Rattle.smpl_patch.specs.declared.rule.Iso.{Iso}
use Rattle.smpl_patch.specs.declared.rule.Patch.{Patch}
use Rattle.smpl_patch.specs.declared.fault.PatchFault.{PatchFault}
use Rattle.smpl_file.specs.Patches.{IsPatchOf, IsFirstFault}
use Rattle.iso_file.specs.declared.fault.IsoFault.{IsoFault}
use Rattle.iso_file.specs.Isos.{AreIsosOf, IsFileFault}
use Rattle.iso_expand.specs.Patches.{IsExpanded, IsFirstMany}
use Rattle.sp_gen.specs.Generated.{generated}
use Rattle.run_words.specs.declared.order.Mode.{Mode}
use Rattle.run_words.specs.declared.fault.WordFault.{WordFault}
use Rattle.run_words.specs.Orders.{Target, OnFiles, OnText, Order, Apply, Generate, Say, order_of, is_quiet}
use Rattle.run_words.specs.Faults.{word_fault}
use Rattle.run_files.specs.RunLines.Words.{refused_words, said}
use Rattle.run_files.specs.RunLines.Patches.{patch_fault_line, iso_fault_line, forms_line, iso_byte}
use Rattle.smpl_places.specs.FaultPlaces.{FaultAt}
use Rattle.run_files.specs.RunLines.Further.{placed, told_place}
use Rattle.run_files.specs.RunLines.Notes.{note_lines}
use Rattle.smpl_notes.specs.declared.note.Note.{Note}
use Rattle.smpl_notes.specs.Notes.{AreNotes}
use Rattle.run_files.specs.declared.tally.Tally.{Tally}
use Rattle.run_files.specs.declared.run_lines.notes.NoteLines.{NoteLines}
use Rattle.run_files.specs.Treatment.{Treated, file_limit, IsFileTreatmentOf, Sums}

-- the maximum number of bytes of a patch, and of isomorphisms
abbrev pub patch_limit : ℕ
patch_limit = 1048576

-- the name of a generated text
abbrev pub generated_name : List ℕ
generated_name = codes "generated"

-- ---- the files so far

-- the tally of the files that were processed, and the lines of the notes on the patch
pub record Course : Type 0 where
  pub tally : Tally
  pub notes : NoteLines

-- the tally of no text
abbrev pub no_tally : Tally
no_tally = record { refused = false; hit = false; found = false }

-- before the first file
abbrev pub first_course : NoteLines → Course
first_course notes = record { tally = no_tally; notes = notes }

abbrev pub joined : Tally → Tally → Tally
joined one other = record { refused = one.refused || other.refused; hit = one.hit || other.hit; found = one.found || other.found }

abbrev pub after_file : Course → Tally → Course
after_file course tally = record { tally = joined course.tally tally; notes = course.notes }

-- After the last file, if nothing was refused, the notes are told: all if nothing was found, or else those that are always told.
abbrev pub told_lines : Tally → NoteLines → List (List ℕ)
told_lines tally notes = cond tally.refused [] (cond tally.found notes.always notes.all)

abbrev pub told : Course → List Act
told course = map Report (told_lines course.tally course.notes)

-- ---- stages

-- what is left to do after the acts at hand
pub data Work : Type 0 where
  -- the patch of this name is to be loaded and read
  ReadPatch : (name : List ℕ) (isos : Option (List ℕ)) (defined : List (List ℕ)) (target : Target) → Work
  -- the isomorphisms of this name are to be loaded and read, and the patch, on which there are these notes, gets its forms
  ReadIsos : (patch : Patch) (notes : NoteLines) (name : List ℕ) (defined : List (List ℕ)) (target : Target) → Work
  -- this file is to be loaded and edited, and then these
  EditFiles : (patch : Patch) (defined : List (List ℕ)) (mode : Mode) (name : List ℕ) (names : List (List ℕ)) (course : Course) → Work

pub data Stage : Type 0 where
  -- the run does these acts, and then this work
  Doing : (acts : List Act) (work : Work) → Stage
  -- the run does these acts, and ends with this status
  Ending : (acts : List Act) (status : ℕ) → Stage

-- the run reports this line, and ends with this status
abbrev pub refusing : List ℕ → ℕ → Stage
refusing line status = Ending (Report line ∷ []) status

-- the status at the end: 4 if something was refused, or else 8 if something is hit
abbrev pub end_status : Tally → ℕ
end_status tally = cond tally.refused 4 (cond tally.hit 8 0)

-- after these acts the remaining files are edited, or the run ends
abbrev pub going : List Act → Patch → List (List ℕ) → Mode → List (List ℕ) → Course → Stage
going acts patch defined mode [] course = Ending (acts ++ told course) (end_status course.tally)
going acts patch defined mode (name ∷ names) course = Doing acts (EditFiles patch defined mode name names course)

-- ---- what leads from one to the next

-- the stage at which a run begins, by what is wrong with its words and what they ask for
abbrev pub begun : Option WordFault → Option Order → Stage
begun fault None = refusing (refused_words fault) 1
begun fault (Some (Apply patch isos defined target)) = Doing [] (ReadPatch patch isos defined target)
begun fault (Some (Generate seed functions)) = Ending (Print (generated seed functions) ∷ []) 0
begun fault (Some (Say saying)) = Ending (Print (said saying) ∷ []) 0

abbrev pub begun_by : List (List ℕ) → Stage
begun_by words = begun (word_fault words) (order_of words)

-- what a patch with all its forms leads to
abbrev pub TargetLeads : Patch → NoteLines → List (List ℕ) → Target → Stage → Type 0
TargetLeads patch notes defined (OnFiles mode names) to = to ≡ going [] patch defined mode names (first_course notes)
TargetLeads patch notes defined (OnText seed functions quiet unread tidy) to =
    (treated : Treated) × (Sums tidy patch defined quiet unread generated_name (generated seed functions) treated
    × (to ≡ Ending treated.acts (end_status treated.tally)))

-- what a patch that was read leads to: it gets its forms if isomorphisms are named
abbrev pub ReadLeads : Patch → NoteLines → Option (List ℕ) → List (List ℕ) → Target → Stage → Type 0
ReadLeads patch notes None defined target to = TargetLeads patch notes defined target to
ReadLeads patch notes (Some name) defined target to = to ≡ Doing [] (ReadIsos patch notes name defined target)

-- what a patch that was read from these bytes leads to: there are notes on it
abbrev pub NotedLeads : List ℕ → Patch → List ℕ → Option (List ℕ) → List (List ℕ) → Target → Stage → Type 0
NotedLeads bytes patch name isos defined target to =
    (notes : List Note) × (AreNotes bytes patch notes × ReadLeads patch (note_lines name (is_some isos) target notes) isos defined target to)

-- what the content stored under the patch's name leads to
abbrev pub PatchLeads : Option (List ℕ) → List ℕ → Option (List ℕ) → List (List ℕ) → Target → Stage → Type 0
PatchLeads None name isos defined target to = to ≡ refusing (cannot_read name) 5
PatchLeads (Some bytes) name isos defined target to =
    ((fault : PatchFault) × (IsFirstFault bytes fault × ((at : Option ℕ) × (FaultAt bytes fault at
    × (to ≡ refusing (patch_fault_line name (told_place (is_quiet target) (placed bytes at)) fault) 2)))))
    ⊎ ((patch : Patch) × (IsPatchOf bytes patch × NotedLeads bytes patch name isos defined target to))

-- what isomorphisms lead to: a rule has too many forms under them, or the patch gets its forms
abbrev pub IsosLead : List Iso → Patch → NoteLines → List ℕ → List (List ℕ) → Target → Stage → Type 0
IsosLead isos patch notes name defined target to =
    ((rule : ℕ) × (IsFirstMany isos patch.rules rule × (to ≡ refusing (forms_line name rule) 3)))
    ⊎ ((whole : Patch) × (IsExpanded isos patch whole × TargetLeads whole notes defined target to))

-- what the content stored under the isomorphisms' name leads to
abbrev pub IsosFileLeads : Option (List ℕ) → Patch → NoteLines → List ℕ → List (List ℕ) → Target → Stage → Type 0
IsosFileLeads None patch notes name defined target to = to ≡ refusing (cannot_read name) 5
IsosFileLeads (Some bytes) patch notes name defined target to =
    ((fault : IsoFault) × (IsFileFault bytes fault
    × (to ≡ refusing (iso_fault_line name (told_place (is_quiet target) (placed bytes (iso_byte fault))) fault) 3)))
    ⊎ ((isos : List Iso) × (AreIsosOf bytes isos × IsosLead isos patch notes name defined target to))

-- what a file leads to: the acts that result from it, and then the remaining files
abbrev pub FileLeads : Option Files → Option (List ℕ) → Patch → List (List ℕ) → Mode → List ℕ → List (List ℕ) → Course → Stage → Type 0
FileLeads holds None patch defined mode name names course to = to ≡ refusing (cannot_read name) 5
FileLeads holds (Some bytes) patch defined mode name names course to =
    (treated : Treated) × (IsFileTreatmentOf holds mode patch defined name bytes treated
    × (to ≡ going treated.acts patch defined mode names (after_file course treated.tally)))

-- ---- acts

-- the load that a work begins with
abbrev pub first_load : Work → Act
first_load (ReadPatch name isos defined target) = Load name patch_limit
first_load (ReadIsos patch notes name defined target) = Load name patch_limit
first_load (EditFiles patch defined mode name names course) = Load name file_limit

-- the next act
abbrev pub next_act : Stage → Option Act
next_act (Doing (act ∷ acts) work) = Some act
next_act (Doing [] work) = Some (first_load work)
next_act (Ending (act ∷ acts) status) = Some act
next_act (Ending [] status) = None

-- the status of a run that has ended
abbrev pub status_at : Stage → Option ℕ
status_at (Doing acts work) = None
status_at (Ending (act ∷ acts) status) = None
status_at (Ending [] status) = Some status

-- what the load of a work leads to, given the files at that time
abbrev pub WorkLeads : Option Files → Work → Stage → Type 0
WorkLeads holds (ReadPatch name isos defined target) to =
    (under : Option (List ℕ)) × (Found holds name under × PatchLeads under name isos defined target to)
WorkLeads holds (ReadIsos patch notes name defined target) to =
    (under : Option (List ℕ)) × (Found holds name under × IsosFileLeads under patch notes name defined target to)
WorkLeads holds (EditFiles patch defined mode name names course) to =
    (under : Option (List ℕ)) × (Found holds name under × FileLeads holds under patch defined mode name names course to)

-- the stage after the next act
abbrev pub Leads : Option Files → Stage → Stage → Type 0
Leads holds (Doing (act ∷ acts) work) to = to ≡ Doing acts work
Leads holds (Doing [] work) to = WorkLeads holds work to
Leads holds (Ending (act ∷ acts) status) to = to ≡ Ending acts status
Leads holds (Ending [] status) to = ⊥
