-- What a load leads to, by what it returned, and how the run ends from there.
use Rattle.std.proofs.Common.{◌≡◌, ◌⊎◌, Bool, true, false, ℕ, ◌<◌, List, [], Option, Some, None, length, refl, sym, inl, inr, ◌∙◌}
use Rattle.std.proofs.lemmas.Bool.{false≢true}
use Rattle.std.specs.Prelude.{◌↔◌, IsTrue, IsSomeAnd}
use Rattle.outer_io.specs.Files.{Files}
use Rattle.run_acts.specs.Acts.{Observed, observed, after_act}
use Rattle.run_acts.specs.Breaks.{Counts, NoneFell}
use Rattle.run_acts.specs.Lines.{cannot_read}
use Rattle.run_acts.proofs.BreaksLemmas.{NoneFell-then}
use Rattle.smpl_patch.specs.declared.rule.Iso.{Iso}
use Rattle.smpl_patch.specs.declared.rule.Patch.{Patch}
use Rattle.smpl_patch.specs.declared.fault.PatchFault.{PatchFault}
use Rattle.smpl_patch.specs.declared.fault.PatchFault.TheVariants as patch_fault
use Rattle.smpl_lexer.specs.Texts.IsTextFault.{too_long as text_too_long}
use Rattle.smpl_file.specs.Patches.{IsPatchOf, IsFirstFault}
use Rattle.smpl_file.specs.Patches.IsFirstFault.{spelling}
use Rattle.smpl_file.specs.Patches.IsSpellingFault.{in_text}
use Rattle.iso_file.specs.declared.fault.IsoFault.{IsoFault}
use Rattle.iso_file.specs.declared.fault.IsoFault.TheVariants as iso_fault
use Rattle.iso_file.specs.Isos.{AreIsosOf, IsFileFault}
use Rattle.iso_file.specs.Isos.IsFileFault.{too_long}
use Rattle.run_words.specs.Orders.{Target, is_quiet}
use Rattle.smpl_places.specs.FaultPlaces.{FaultAt}
use Rattle.run_files.specs.declared.run_lines.notes.NoteLines.{NoteLines}
use Rattle.run_files.specs.RunLines.Further.{placed, told_place}
use Rattle.run_files.specs.RunLines.Patches.{patch_fault_line, iso_fault_line, iso_byte}
use Rattle.run_files.specs.RunStages.Stages.{Stage, Work, ReadPatch, ReadIsos, EditFiles, Doing, refusing, first_load}
use Rattle.run_files.specs.RunStages.Stages.{WorkLeads, PatchLeads, IsosFileLeads, NotedLeads, IsosLead}
use Rattle.run_files.specs.RunStages.Ends.{Ends, LeadsBy}
use Rattle.run_files.specs.RunStages.Ends.LeadsBy.{unfed, from}
use Rattle.spatch_run.proofs.Chain.{Goes-act, Goes-ends, broken}

-- what was observed before a load is observed after it
pub no_trace : {holds holds' : Option Files} {stores stores' : ℕ} {out err err' : Option (List ℕ)} → holds' ≡ holds
    → stores' ≡ stores → err' ≡ err → observed holds' stores' out err' ≡ observed holds stores out err
no_trace same same_stores same_err = rw (same, same_stores, same_err) refl

load_done : (work : Work) (old : Observed) → after_act (first_load work) old ≡ old
load_done (ReadPatch name isos defined target) old = refl
load_done (ReadIsos patch notes name defined target) old = refl
load_done (EditFiles patch defined mode name names course) old = refl

-- a load was done, and the run ended from there
pub loaded : (work : Work) (to : Stage) {first before now : Counts} {old here new : Observed} {status : ℕ}
    → WorkLeads old.files work to → here ≡ old → NoneFell first before → Ends to before now here new status → Ends (Doing [] work) first now old new status
loaded work to {old = old} {here = here} leads same fell rest =
    Goes-ends (Goes-act (Doing [] work) (first_load work) to old here refl leads (same ∙ sym (load_done work old))) fell rest

-- a load was done, and memory ran out
pub loaded_unfed : (work : Work) {first before now : Counts} {old here new : Observed} {status : ℕ} → here ≡ old
    → NoneFell first before → NoneFell before now → status ≡ 7 → new ≡ here → Ends (Doing [] work) first now old new status
loaded_unfed work {first = first} {before = before} {now = now} same fell more seven none =
    broken (Doing [] work) (first_load work) refl (NoneFell-then first before now fell more) (inl (seven, none ∙ same))

-- a load was done, and the run ended from some stage that the load leads to
pub loaded_by : (work : Work) (To : Stage → Type 0) {first before now : Counts} {old here new : Observed} {status : ℕ}
    → ((to : Stage) → To to → WorkLeads old.files work to) → here ≡ old → NoneFell first before
    → LeadsBy To before now here new status → Ends (Doing [] work) first now old new status
loaded_by work To leads same fell (unfed more seven none) = loaded_unfed work same fell more seven none
loaded_by work To leads same fell (from stage to ends) = loaded work stage (leads stage to) same fell ends

-- a weaker condition on the next stage holds too
pub by_other : (To Other : Stage → Type 0) {before now : Counts} {old new : Observed} {status : ℕ}
    → ((to : Stage) → To to → Other to) → LeadsBy To before now old new status → LeadsBy Other before now old new status
by_other To Other other (unfed fell seven none) = unfed fell seven none
by_other To Other other (from stage to ends) = from stage (other stage to) ends

-- memory didn't run out, so the other alternative holds
pub not_memory : {A B : Type 0} (b : Bool) → b ≡ false → (IsTrue b ↔ A) → A ⊎ B → B
not_memory b isnt wanting (inl a) = absurd (false≢true (sym isnt ∙ wanting.1 a))
not_memory b isnt wanting (inr other) = other

-- without a place, none is told
told_none : (quiet : Bool) → told_place quiet None ≡ None
told_none true = refl
told_none false = refl

-- ---- the patch

module _ (name : List ℕ) (isos : Option (List ℕ)) (defined : List (List ℕ)) (target : Target) where
  pub patch_absent : (under : Option (List ℕ)) → under ≡ None → PatchLeads under name isos defined target (refusing (cannot_read name) 5)
  patch_absent under none = rw none refl

  pub patch_long : (under : Option (List ℕ)) → IsSomeAnd under (λ bytes. 1048576 < length bytes)
      → PatchLeads under name isos defined target (refusing (patch_fault_line name None patch_fault.PatchTooLong) 2)
  patch_long None long = absurd long
  patch_long (Some bytes) long =
      inl (patch_fault.PatchTooLong, (spelling (in_text (text_too_long long)), (None, (refl, rw (told_none (is_quiet target)) refl))))

  pub patch_bad : (under : Option (List ℕ)) (bytes : List ℕ) (fault : PatchFault) (at : Option ℕ) → under ≡ Some bytes → IsFirstFault bytes fault
      → FaultAt bytes fault at
      → PatchLeads under name isos defined target (refusing (patch_fault_line name (told_place (is_quiet target) (placed bytes at)) fault) 2)
  patch_bad under bytes fault at is bad there = rw is (inl (fault, (bad, (at, (there, refl)))))

  pub patch_read : (under : Option (List ℕ)) (bytes : List ℕ) (patch : Patch) → under ≡ Some bytes → IsPatchOf bytes patch
      → (to : Stage) → NotedLeads bytes patch name isos defined target to → PatchLeads under name isos defined target to
  patch_read under bytes patch is read to leads = rw is (inr (patch, (read, leads)))

-- ---- the isomorphisms

module _ (patch : Patch) (notes : NoteLines) (name : List ℕ) (defined : List (List ℕ)) (target : Target) where
  pub isos_absent : (under : Option (List ℕ)) → under ≡ None → IsosFileLeads under patch notes name defined target (refusing (cannot_read name) 5)
  isos_absent under none = rw none refl

  pub isos_long : (under : Option (List ℕ)) → IsSomeAnd under (λ bytes. 1048576 < length bytes)
      → IsosFileLeads under patch notes name defined target (refusing (iso_fault_line name None iso_fault.TooLong) 3)
  isos_long None long = absurd long
  isos_long (Some bytes) long = inl (iso_fault.TooLong, (too_long long, rw (told_none (is_quiet target)) refl))

  pub isos_bad : (under : Option (List ℕ)) (bytes : List ℕ) (fault : IsoFault) → under ≡ Some bytes → IsFileFault bytes fault
      → IsosFileLeads under patch notes name defined target
      (refusing (iso_fault_line name (told_place (is_quiet target) (placed bytes (iso_byte fault))) fault) 3)
  isos_bad under bytes fault is bad = rw is (inl (fault, (bad, refl)))

  pub isos_read : (under : Option (List ℕ)) (bytes : List ℕ) (isos : List Iso) → under ≡ Some bytes → AreIsosOf bytes isos
      → (to : Stage) → IsosLead isos patch notes name defined target to → IsosFileLeads under patch notes name defined target to
  isos_read under bytes isos is read to leads = rw is (inr (isos, (read, leads)))
