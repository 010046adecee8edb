-- If the shelf reveals its files, a stage leads to only one stage.
use Rattle.std.proofs.Common.{◌≡◌, ◌&&◌, ◌++◌, false, true, Bool, ◌<◌, ◌≤◌, ℕ, List, [], ◌∷◌, Option, Some, None, is_some, sym, ap, ◌∙◌, subst, inl, inr}
use Rattle.std.proofs.Common.{length, map, arith}
use Rattle.std.specs.Prelude.{IsSome, nat_le}
use Rattle.outer_io.specs.Files.{Files}
use Rattle.run_acts.specs.Loaded.{Found}
use Rattle.smpl_patch.specs.declared.rule.Iso.{Iso}
use Rattle.smpl_patch.specs.declared.rule.Rule.{Rule}
use Rattle.smpl_patch.specs.declared.rule.Patch.{Patch}
use Rattle.smpl_patch.specs.declared.fault.PatchFault.{PatchFault}
use Rattle.smpl_file.specs.Patches.{IsPatchOf, IsFirstFault}
use Rattle.iso_file.specs.declared.fault.IsoFault.{IsoFault}
use Rattle.iso_file.specs.Isos.{AreIsosOf, IsFileFault}
use Rattle.iso_expand.specs.Patches.{IsExpanded, IsFirstMany}
use Rattle.smpl_patch.specs.declared.witness.RuleWitness.{RuleWitness}
use Rattle.rule_chain.specs.declared.rule_run.state.SkipNote.{SkipNote}
use Rattle.rule_chain.specs.RuleRun.States.{Chained}
use Rattle.rule_chain.specs.Chain.{Outcome, Done, Refused}
use Rattle.rule_chain.specs.Passed.{EndsBy, AreAlike, AreToldAlike}
use Rattle.sp_gen.specs.Generated.{generated}
use Rattle.run_choices.specs.declared.unread.Unread.{Unread}
use Rattle.run_words.specs.declared.order.Mode.{Mode}
use Rattle.run_words.specs.Orders.{Target, OnFiles, OnText, is_quiet}
use Rattle.run_files.specs.declared.run_lines.notes.NoteLines.{NoteLines}
use Rattle.run_files.specs.RunLines.Patches.{patch_fault_line, iso_fault_line, forms_line, iso_byte}
use Rattle.c_places.specs.declared.places.TextPlaces.{TextPlaces}
use Rattle.c_places.specs.Starts.{ArePlaces}
use Rattle.smpl_places.specs.FaultPlaces.{FaultAt}
use Rattle.smpl_notes.specs.declared.note.Note.{Note}
use Rattle.smpl_notes.specs.Notes.{AreNotes}
use Rattle.run_files.specs.RunLines.Further.{placed, told_place}
use Rattle.run_files.specs.RunLines.Notes.{note_lines}
use Rattle.run_files.specs.RunLines.Summary.{summary}
use Rattle.run_files.specs.Treatment.{Treated, file_limit, IsTreatmentOf, IsFileTreatmentOf, Sums, treated_by, summed_by, told_places, effects}
use Rattle.run_files.specs.Treatment.{faulted, note_act, shown, stored_after, is_hit, printing}
use Rattle.run_files.specs.RunStages.Stages.{Stage, Doing, Ending, ReadPatch, ReadIsos, EditFiles, Course, generated_name, refusing, after_file}
use Rattle.run_files.specs.RunStages.Stages.{going, end_status, TargetLeads, ReadLeads, NotedLeads, PatchLeads, IsosLead, IsosFileLeads, FileLeads}
use Rattle.run_files.specs.RunStages.Stages.{Leads}

pub none_some : {A : Type 0} (a : A) → None ≡ Some a → ⊥
none_some a e = cc

pub same_some : {A : Type 0} (a b : A) → Some a ≡ Some b → a ≡ b
same_some a b e = cc

-- Reading has only one result, a fault one place, a patch one list of notes, a text its tokens and items at one list of places;
-- a patch gets its forms in only one way, and the rules over a text have only one outcome, as far as it is told.
pub record ReadOnce : Type 0 where
  pub patch : (bytes : List ℕ) (one other : Patch) → IsPatchOf bytes one → IsPatchOf bytes other → one ≡ other
  pub patch_fault : (bytes : List ℕ) (one other : PatchFault) → IsFirstFault bytes one → IsFirstFault bytes other → one ≡ other
  pub patch_apart : (bytes : List ℕ) (patch : Patch) (fault : PatchFault) → IsPatchOf bytes patch → IsFirstFault bytes fault → ⊥
  pub notes : (bytes : List ℕ) (patch : Patch) (one other : List Note) → AreNotes bytes patch one → AreNotes bytes patch other → one ≡ other
  pub isos : (bytes : List ℕ) (one other : List Iso) → AreIsosOf bytes one → AreIsosOf bytes other → one ≡ other
  pub isos_fault : (bytes : List ℕ) (one other : IsoFault) → IsFileFault bytes one → IsFileFault bytes other → one ≡ other
  pub isos_apart : (bytes : List ℕ) (isos : List Iso) (fault : IsoFault) → AreIsosOf bytes isos → IsFileFault bytes fault → ⊥
  pub whole : (isos : List Iso) (patch one other : Patch) → IsExpanded isos patch one → IsExpanded isos patch other → one ≡ other
  pub rule : (isos : List Iso) (rules : List Rule) (one other : ℕ) → IsFirstMany isos rules one → IsFirstMany isos rules other → one ≡ other
  pub whole_apart : (isos : List Iso) (patch whole : Patch) (rule : ℕ) → IsExpanded isos patch whole → IsFirstMany isos patch.rules rule → ⊥
  pub patch_place : (bytes : List ℕ) (fault : PatchFault) (one other : Option ℕ) → FaultAt bytes fault one → FaultAt bytes fault other → one ≡ other
  pub places : (bytes : List ℕ) (one other : TextPlaces) → ArePlaces bytes one → ArePlaces bytes other → one ≡ other
  pub alike : (tidy : Bool) (choice : Unread) (rules : List Rule) (defined : List (List ℕ)) (bytes : List ℕ) (end other : Outcome)
      → length bytes ≤ file_limit → EndsBy tidy choice rules defined bytes end → EndsBy tidy choice rules defined bytes other
      → AreAlike end other × AreToldAlike choice end other

pub Found-one : (holds : Option Files) (name : List ℕ) (a b : Option (List ℕ)) → IsSome holds → Found holds name a → Found holds name b → a ≡ b
Found-one None name a b some one two = let e : false ≡ true = some in absurd (cc)
Found-one (Some files) name a b some one two = one ∙ sym two

not-both : (n : ℕ) → file_limit < n → n ≤ file_limit → ⊥
not-both n long short = omega (arith, long, short)

-- a shelf that reveals its files doesn't reveal none
pub not-untold : (holds : Option Files) → IsSome holds → holds ≡ None → ⊥
not-untold None some none = let e : false ≡ true = some in absurd (cc)
not-untold (Some files) some none = absurd (cc)

-- ---- outcomes that are alike

-- the state with this text and these witnesses
abbrev with_found : Chained → List ℕ → List RuleWitness → Chained
with_found s text found = record s { page = record s.page { bytes = text }; found = found }

-- what results from a file whose rules end with this state, where these notes are told
abbrev treated_with : Mode → Patch → List ℕ → List ℕ → TextPlaces → List SkipNote → Chained → Treated
treated_with mode patch name bytes places notes s =
    effects (map (note_act name bytes places) notes ++ shown mode patch name bytes s ++ stored_after mode name bytes s)
    (mode.check && is_hit patch bytes s) (nat_le 1 (length s.found))

treated_alike : (mode : Mode) (patch : Patch) (name bytes : List ℕ) (places : TextPlaces) (end other : Outcome) → AreAlike end other
    → AreToldAlike mode.unread end other → treated_by mode patch name bytes places end ≡ treated_by mode patch name bytes places other
treated_alike mode patch name bytes places (Done s) (Done t) alike told =
    λ i. treated_with mode patch name bytes places (told i) (with_found s (alike.0 i) (alike.1 i))
treated_alike mode patch name bytes places (Done s) (Refused g) alike told = absurd alike
treated_alike mode patch name bytes places (Refused f) (Done t) alike told = absurd alike
treated_alike mode patch name bytes places (Refused f) (Refused g) alike told = ap (faulted name bytes places) alike

-- the same of a generated text
abbrev summed_with : Patch → List ℕ → List ℕ → TextPlaces → List SkipNote → List ℕ → List RuleWitness → Treated
summed_with patch name bytes places notes text found =
    effects (map (note_act name bytes places) notes ++ printing (summary patch.rules found (length text))) false (nat_le 1 (length found))

summed_alike : (patch : Patch) (choice : Unread) (name bytes : List ℕ) (places : TextPlaces) (end other : Outcome) → AreAlike end other
    → AreToldAlike choice end other → summed_by patch choice name bytes places end ≡ summed_by patch choice name bytes places other
summed_alike patch choice name bytes places (Done s) (Done t) alike told =
    λ i. summed_with patch name bytes places (told i) (alike.0 i) (alike.1 i)
summed_alike patch choice name bytes places (Done s) (Refused g) alike told = absurd alike
summed_alike patch choice name bytes places (Refused f) (Done t) alike told = absurd alike
summed_alike patch choice name bytes places (Refused f) (Refused g) alike told = ap (faulted name bytes places) alike

module _ (laws : ReadOnce) where
  pub IsTreatmentOf-one : (mode : Mode) (patch : Patch) (defined : List (List ℕ)) (name bytes : List ℕ) (a b : Treated)
      → IsTreatmentOf mode patch defined name bytes a → IsTreatmentOf mode patch defined name bytes b → a ≡ b
  IsTreatmentOf-one mode patch defined name bytes a b (inl one) (inl two) = one.1 ∙ sym two.1
  IsTreatmentOf-one mode patch defined name bytes a b (inl one) (inr two) = absurd (not-both (length bytes) one.0 two.0)
  IsTreatmentOf-one mode patch defined name bytes a b (inr one) (inl two) = absurd (not-both (length bytes) two.0 one.0)
  IsTreatmentOf-one mode patch defined name bytes a b (inr one) (inr two) =
      let alike = laws.alike mode.tidy mode.unread patch.rules defined bytes one.1.0 two.1.0 one.0 one.1.1.0 two.1.1.0 in
      let places = laws.places bytes one.1.1.1.0 two.1.1.1.0 one.1.1.1.1.0 two.1.1.1.1.0 in
      one.1.1.1.1.1 ∙ ap (λ (p : TextPlaces). treated_by mode patch name bytes (told_places mode.quiet p) one.1.0) places
      ∙ treated_alike mode patch name bytes (told_places mode.quiet two.1.1.1.0) one.1.0 two.1.0 alike.0 alike.1 ∙ sym two.1.1.1.1.1

  IsFileTreatmentOf-one : (holds : Option Files) → IsSome holds → (mode : Mode) (patch : Patch) (defined : List (List ℕ))
      (name bytes : List ℕ) (a b : Treated)
      → IsFileTreatmentOf holds mode patch defined name bytes a → IsFileTreatmentOf holds mode patch defined name bytes b → a ≡ b
  IsFileTreatmentOf-one holds some mode patch defined name bytes a b (inl one) (inl two) =
      IsTreatmentOf-one mode patch defined name bytes a b one two
  IsFileTreatmentOf-one holds some mode patch defined name bytes a b (inl one) (inr two) = absurd (not-untold holds some two.0)
  IsFileTreatmentOf-one holds some mode patch defined name bytes a b (inr one) two = absurd (not-untold holds some one.0)

  Sums-one : (tidy : Bool) (patch : Patch) (defined : List (List ℕ)) (quiet : Bool) (choice : Unread) (name bytes : List ℕ)
      (a b : Treated) → Sums tidy patch defined quiet choice name bytes a → Sums tidy patch defined quiet choice name bytes b → a ≡ b
  Sums-one tidy patch defined quiet choice name bytes a b one two =
      let it = one.1 in
      let at = two.1 in
      let alike = laws.alike tidy choice patch.rules defined bytes it.0 at.0 one.0 it.1.0 at.1.0 in
      let places = laws.places bytes it.1.1.0 at.1.1.0 it.1.1.1.0 at.1.1.1.0 in
      it.1.1.1.1 ∙ ap (λ (p : TextPlaces). summed_by patch choice name bytes (told_places quiet p) it.0) places
      ∙ summed_alike patch choice name bytes (told_places quiet at.1.1.0) it.0 at.0 alike.0 alike.1 ∙ sym at.1.1.1.1

  TargetLeads-one : (patch : Patch) (lines : NoteLines) (defined : List (List ℕ)) (target : Target) (a b : Stage)
      → TargetLeads patch lines defined target a → TargetLeads patch lines defined target b → a ≡ b
  TargetLeads-one patch lines defined (OnFiles mode names) a b one two = one ∙ sym two
  TargetLeads-one patch lines defined (OnText seed functions quiet unread tidy) a b one two =
      one.1.1 ∙ ap (λ (t : Treated). Ending t.acts (end_status t.tally))
      (Sums-one tidy patch defined quiet unread generated_name (generated seed functions) one.0 two.0 one.1.0 two.1.0) ∙ sym two.1.1

  ReadLeads-one : (patch : Patch) (lines : NoteLines) (isos : Option (List ℕ)) (defined : List (List ℕ)) (target : Target) (a b : Stage)
      → ReadLeads patch lines isos defined target a → ReadLeads patch lines isos defined target b → a ≡ b
  ReadLeads-one patch lines None defined target a b one two = TargetLeads-one patch lines defined target a b one two
  ReadLeads-one patch lines (Some name) defined target a b one two = one ∙ sym two

  NotedLeads-one : (bytes : List ℕ) (patch : Patch) (name : List ℕ) (isos : Option (List ℕ)) (defined : List (List ℕ)) (target : Target) (a b : Stage)
      → NotedLeads bytes patch name isos defined target a → NotedLeads bytes patch name isos defined target b → a ≡ b
  NotedLeads-one bytes patch name isos defined target a b one two =
      let same = laws.notes bytes patch one.0 two.0 one.1.0 two.1.0 in
      ReadLeads-one patch (note_lines name (is_some isos) target two.0) isos defined target a b
      (subst (λ (n : List Note). ReadLeads patch (note_lines name (is_some isos) target n) isos defined target a) same one.1.1) two.1.1

  PatchLeads-one : (under : Option (List ℕ)) (name : List ℕ) (isos : Option (List ℕ)) (defined : List (List ℕ)) (target : Target) (a b : Stage)
      → PatchLeads under name isos defined target a → PatchLeads under name isos defined target b → a ≡ b
  PatchLeads-one None name isos defined target a b one two = one ∙ sym two
  PatchLeads-one (Some bytes) name isos defined target a b (inl one) (inl two) =
      let fault = laws.patch_fault bytes one.0 two.0 one.1.0 two.1.0 in
      let there = subst (λ (f : PatchFault). FaultAt bytes f one.1.1.0) fault one.1.1.1.0 in
      let at = laws.patch_place bytes two.0 one.1.1.0 two.1.1.0 there two.1.1.1.0 in
      one.1.1.1.1 ∙ (λ i. refusing (patch_fault_line name (told_place (is_quiet target) (placed bytes (at i))) (fault i)) 2) ∙ sym two.1.1.1.1
  PatchLeads-one (Some bytes) name isos defined target a b (inl one) (inr two) = absurd (laws.patch_apart bytes two.0 one.0 two.1.0 one.1.0)
  PatchLeads-one (Some bytes) name isos defined target a b (inr one) (inl two) = absurd (laws.patch_apart bytes one.0 two.0 one.1.0 two.1.0)
  PatchLeads-one (Some bytes) name isos defined target a b (inr one) (inr two) =
      let same = laws.patch bytes one.0 two.0 one.1.0 two.1.0 in
      NotedLeads-one bytes two.0 name isos defined target a b (subst (λ (p : Patch). NotedLeads bytes p name isos defined target a) same one.1.1) two.1.1

  IsosLead-one : (isos : List Iso) (patch : Patch) (lines : NoteLines) (name : List ℕ) (defined : List (List ℕ)) (target : Target) (a b : Stage)
      → IsosLead isos patch lines name defined target a → IsosLead isos patch lines name defined target b → a ≡ b
  IsosLead-one isos patch lines name defined target a b (inl one) (inl two) =
      one.1.1 ∙ ap (λ (n : ℕ). refusing (forms_line name n) 3) (laws.rule isos patch.rules one.0 two.0 one.1.0 two.1.0) ∙ sym two.1.1
  IsosLead-one isos patch lines name defined target a b (inl one) (inr two) = absurd (laws.whole_apart isos patch two.0 one.0 two.1.0 one.1.0)
  IsosLead-one isos patch lines name defined target a b (inr one) (inl two) = absurd (laws.whole_apart isos patch one.0 two.0 one.1.0 two.1.0)
  IsosLead-one isos patch lines name defined target a b (inr one) (inr two) =
      let same = laws.whole isos patch one.0 two.0 one.1.0 two.1.0 in
      TargetLeads-one two.0 lines defined target a b (subst (λ (p : Patch). TargetLeads p lines defined target a) same one.1.1) two.1.1

  IsosFileLeads-one : (under : Option (List ℕ)) (patch : Patch) (lines : NoteLines) (name : List ℕ)
      (defined : List (List ℕ)) (target : Target) (a b : Stage)
      → IsosFileLeads under patch lines name defined target a → IsosFileLeads under patch lines name defined target b → a ≡ b
  IsosFileLeads-one None patch lines name defined target a b one two = one ∙ sym two
  IsosFileLeads-one (Some bytes) patch lines name defined target a b (inl one) (inl two) =
      one.1.1 ∙ ap (λ (f : IsoFault). refusing (iso_fault_line name (told_place (is_quiet target) (placed bytes (iso_byte f))) f) 3)
      (laws.isos_fault bytes one.0 two.0 one.1.0 two.1.0) ∙ sym two.1.1
  IsosFileLeads-one (Some bytes) patch lines name defined target a b (inl one) (inr two) = absurd (laws.isos_apart bytes two.0 one.0 two.1.0 one.1.0)
  IsosFileLeads-one (Some bytes) patch lines name defined target a b (inr one) (inl two) = absurd (laws.isos_apart bytes one.0 two.0 one.1.0 two.1.0)
  IsosFileLeads-one (Some bytes) patch lines name defined target a b (inr one) (inr two) =
      let same = laws.isos bytes one.0 two.0 one.1.0 two.1.0 in
      IsosLead-one two.0 patch lines name defined target a b
      (subst (λ (is : List Iso). IsosLead is patch lines name defined target a) same one.1.1) two.1.1

  FileLeads-one : (holds : Option Files) → IsSome holds → (under : Option (List ℕ)) (patch : Patch) (defined : List (List ℕ)) (mode : Mode) (name : List ℕ)
      (names : List (List ℕ)) (course : Course) (a b : Stage) → FileLeads holds under patch defined mode name names course a
      → FileLeads holds under patch defined mode name names course b → a ≡ b
  FileLeads-one holds some None patch defined mode name names course a b one two = one ∙ sym two
  FileLeads-one holds some (Some bytes) patch defined mode name names course a b one two =
      one.1.1 ∙ ap (λ (t : Treated). going t.acts patch defined mode names (after_file course t.tally))
      (IsFileTreatmentOf-one holds some mode patch defined name bytes one.0 two.0 one.1.0 two.1.0) ∙ sym two.1.1

  pub Leads-one : (holds : Option Files) → IsSome holds → (from a b : Stage) → Leads holds from a → Leads holds from b → a ≡ b
  Leads-one holds some (Doing (act ∷ acts) work) a b one two = one ∙ sym two
  Leads-one holds some (Doing [] (ReadPatch name isos defined target)) a b one two =
      let under = Found-one holds name one.0 two.0 some one.1.0 two.1.0 in
      PatchLeads-one two.0 name isos defined target a b (subst (λ (o : Option (List ℕ)). PatchLeads o name isos defined target a) under one.1.1) two.1.1
  Leads-one holds some (Doing [] (ReadIsos patch lines name defined target)) a b one two =
      let under = Found-one holds name one.0 two.0 some one.1.0 two.1.0 in
      IsosFileLeads-one two.0 patch lines name defined target a b
      (subst (λ (o : Option (List ℕ)). IsosFileLeads o patch lines name defined target a) under one.1.1) two.1.1
  Leads-one holds some (Doing [] (EditFiles patch defined mode name names course)) a b one two =
      let under = Found-one holds name one.0 two.0 some one.1.0 two.1.0 in
      FileLeads-one holds some two.0 patch defined mode name names course a b
      (subst (λ (o : Option (List ℕ)). FileLeads holds o patch defined mode name names course a) under one.1.1) two.1.1
  Leads-one holds some (Ending (act ∷ acts) status) a b one two = one ∙ sym two
  Leads-one holds some (Ending [] status) a b one two = absurd one
