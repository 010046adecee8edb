-- Each whole run has one of the reasons.
use Rattle.std.proofs.Common.{◌≡◌, ℕ, List, [], ◌∷◌, ◌++◌, Option, Some, None, is_some, refl, sym, ap, ◌∙◌, inl, inr, subst, append_assoc}
use Rattle.run_acts.specs.Acts.{Act, Load, Print, Report, Observed, after_act}
use Rattle.run_acts.specs.Lines.{cannot_read}
use Rattle.smpl_patch.specs.declared.rule.Iso.{Iso}
use Rattle.smpl_patch.specs.declared.rule.Patch.{Patch}
use Rattle.iso_file.specs.Isos.{AreIsosOf}
use Rattle.sp_gen.specs.Generated.{generated}
use Rattle.run_words.specs.Orders.{Target, OnFiles, OnText, Order, Apply, Generate, Say, order_of, is_quiet}
use Rattle.run_words.specs.Faults.{word_fault}
use Rattle.run_files.specs.declared.run_lines.notes.NoteLines.{NoteLines}
use Rattle.run_files.specs.RunLines.Words.{refused_words, said}
use Rattle.run_files.specs.RunLines.Patches.{patch_fault_line, iso_fault_line, forms_line, iso_byte}
use Rattle.run_files.specs.RunLines.Further.{placed, told_place}
use Rattle.run_files.specs.RunLines.Notes.{note_lines}
use Rattle.run_files.specs.Treatment.{Treated}
use Rattle.run_files.specs.RunStages.Stages.{Stage, Doing, ReadIsos, patch_limit, first_course, end_status, begun, TargetLeads, ReadLeads, PatchLeads}
use Rattle.run_files.specs.RunStages.Stages.{IsosLead, IsosFileLeads, status_at}
use Rattle.run_files.specs.RunStages.Paths.{Path, AreActs}
use Rattle.run_files.specs.RunStages.Reasons.{PatchFound, PatchRead, IsosFound, PatchReady, Reason}
use Rattle.run_files.specs.RunStages.Reasons.PatchReady.{plain, expanded}
use Rattle.run_files.specs.RunStages.Reasons.Reason.{unasked, is_said, is_generated, no_patch, bad_patch, no_isos, bad_isos, many_forms, summed}
use Rattle.run_files.specs.RunStages.Reasons.Reason.{filed}
use Rattle.spatch_run.proofs.RunLaws.Unique.{none_some, same_some}
use Rattle.spatch_run.proofs.RunLaws.FilesWhy.{ending, ending-at, files_went}

module _ (words : List (List ℕ)) (old : Observed) where
  -- the patch has all its forms
  ready_why : (patch : Patch) (lines : NoteLines) (defined : List (List ℕ)) (target : Target) (before : List Act) (mid : Stage)
      (acts : List Act) (last : Stage) (status : ℕ) → PatchReady words old patch lines defined target before → TargetLeads patch lines defined target mid
      → Path old mid acts last → status_at last ≡ Some status
      → Reason words old (before ++ acts) status
  ready_why patch lines defined (OnFiles mode names) before mid acts last status ready leads path over =
      let there = subst (λ (m : Stage). Path old m acts last) leads path in
      let went = files_went patch defined mode names last status over old (first_course lines) [] acts there in
      filed patch lines defined mode names before went.rest went.end ready went.went (ap (λ (x : List Act). before ++ x) went.acts_are) went.status_is
  ready_why patch lines defined (OnText seed functions quiet unread tidy) before mid acts last status ready leads path over =
      let treated : Treated = leads.0 in
      let end_of = ending-at old mid treated.acts (end_status treated.tally) acts last status leads.1.1 path over in
      summed patch lines defined seed functions quiet unread tidy treated before ready leads.1.0 (ap (λ (x : List Act). before ++ x) end_of.0) end_of.1

  -- the isomorphisms are read
  forms_why : (patch : Patch) (lines : NoteLines) (name bytes : List ℕ) (defined : List (List ℕ)) (target : Target)
      (isos : List Iso) (before : List Act) (mid : Stage)
      (acts : List Act) (last : Stage) (status : ℕ) → IsosFound words old patch lines name (Some bytes) defined target before → AreIsosOf bytes isos
      → IsosLead isos patch lines name defined target mid → Path old mid acts last → status_at last ≡ Some status → Reason words old (before ++ acts) status
  forms_why patch lines name bytes defined target isos before mid acts last status found are (inl many) path over =
      let end_of = ending-at old mid (Report (forms_line name many.0) ∷ []) 3 acts last status many.1.1 path over in
      many_forms patch lines name bytes defined target isos many.0 before found are many.1.0 (ap (λ (x : List Act). before ++ x) end_of.0) end_of.1
  forms_why patch lines name bytes defined target isos before mid acts last status found are (inr gives) path over =
      ready_why gives.0 lines defined target before mid acts last status (expanded patch name bytes isos found are gives.1.0) gives.1.1 path over

  -- the isomorphisms are loaded
  isos_why : (patch : Patch) (lines : NoteLines) (name : List ℕ) (under : Option (List ℕ)) (defined : List (List ℕ))
      (target : Target) (before : List Act) (mid : Stage)
      (acts : List Act)
      (last : Stage) (status : ℕ) → IsosFound words old patch lines name under defined target before → IsosFileLeads under patch lines name defined target mid
      → Path old mid acts last → status_at last ≡ Some status → Reason words old (before ++ acts) status
  isos_why patch lines name None defined target before mid acts last status found leads path over =
      let end_of = ending-at old mid (Report (cannot_read name) ∷ []) 5 acts last status leads path over in
      no_isos patch lines name defined target before found (ap (λ (x : List Act). before ++ x) end_of.0) end_of.1
  isos_why patch lines name (Some bytes) defined target before mid acts last status found (inl bad) path over =
      let end_of = ending-at old mid (Report (iso_fault_line name
      (told_place (is_quiet target) (placed bytes (iso_byte bad.0))) bad.0) ∷ []) 3 acts last status bad.1.1 path over in
      bad_isos patch lines name bytes defined target bad.0 before found bad.1.0 (ap (λ (x : List Act). before ++ x) end_of.0) end_of.1
  isos_why patch lines name (Some bytes) defined target before mid acts last status found (inr gives) path over =
      forms_why patch lines name bytes defined target gives.0 before mid acts last status found gives.1.0 gives.1.1 path over

  -- the isomorphisms are to be loaded
  forms_first : (patch : Patch) (lines : NoteLines) (name : List ℕ) (defined : List (List ℕ)) (target : Target)
      (before acts : List Act) (last : Stage) (status : ℕ)
      → PatchRead words old patch lines (Some name) defined target before → Path old (Doing [] (ReadIsos patch lines name defined target)) acts last
      → status_at last ≡ Some status → Reason words old (before ++ acts) status
  forms_first patch lines name defined target before [] last status read path over = absurd (none_some status (ap status_at (sym path) ∙ over))
  forms_first patch lines name defined target before (act ∷ acts) last status read path over =
      let load : act ≡ Load name patch_limit = sym (same_some (Load name patch_limit) act path.0) in
      let there = subst (λ (x : Act). Path (after_act x old) path.1.0 acts last) load path.1.1.1 in
      let found : IsosFound words old patch lines name path.1.1.0.0 defined target (before ++ Load name patch_limit ∷ []) =
      record { before = before; read = read; found = path.1.1.0.1.0; acts_are = refl } in
      let why = isos_why patch lines name path.1.1.0.0 defined target
      (before ++ Load name patch_limit ∷ []) path.1.0 acts last status found path.1.1.0.1.1 there over in
      let whole = subst (λ (x : List Act). Reason words old x status) (append_assoc before (Load name patch_limit ∷ []) acts) why in
      subst (λ (x : Act). Reason words old (before ++ x ∷ acts) status) (sym load) whole

  -- the patch is read
  read_why : (patch : Patch) (lines : NoteLines) (isos : Option (List ℕ)) (defined : List (List ℕ)) (target : Target)
      (before : List Act) (mid : Stage) (acts : List Act)
      (last : Stage) (status : ℕ)
      → PatchRead words old patch lines isos defined target before → ReadLeads patch lines isos defined target mid
      → Path old mid acts last → status_at last ≡ Some status
      → Reason words old (before ++ acts) status
  read_why patch lines None defined target before mid acts last status read leads path over =
      ready_why patch lines defined target before mid acts last status (plain read) leads path over
  read_why patch lines (Some name) defined target before mid acts last status read leads path over =
      forms_first patch lines name defined target before acts last status read (subst (λ (m : Stage). Path old m acts last) leads path) over

  -- the patch is loaded
  patch_why : (name : List ℕ) (isos : Option (List ℕ)) (defined : List (List ℕ)) (target : Target) (under : Option (List ℕ)) (mid : Stage) (acts : List Act)
      (last : Stage) (status : ℕ) → PatchFound words old name under isos defined target → PatchLeads under name isos defined target mid
      → Path old mid acts last → status_at last ≡ Some status → Reason words old (Load name patch_limit ∷ acts) status
  patch_why name isos defined target None mid acts last status found leads path over =
      let end_of = ending-at old mid (Report (cannot_read name) ∷ []) 5 acts last status leads path over in
      no_patch name isos defined target found (ap (λ (x : List Act). Load name patch_limit ∷ x) end_of.0) end_of.1
  patch_why name isos defined target (Some bytes) mid acts last status found (inl bad) path over =
      let end_of = ending-at old mid (Report (patch_fault_line name
      (told_place (is_quiet target) (placed bytes bad.1.1.0)) bad.0) ∷ []) 2 acts last status bad.1.1.1.1 path over in
      bad_patch name bytes isos defined target bad.0 bad.1.1.0 found bad.1.0 bad.1.1.1.0 (ap (λ (x : List Act). Load name patch_limit ∷ x) end_of.0) end_of.1
  patch_why name isos defined target (Some bytes) mid acts last status found (inr gives) path over =
      let notes = gives.1.1.0 in
      let lines : NoteLines = note_lines name (is_some isos) target notes in
      let read : PatchRead words old gives.0 lines isos defined target (Load name patch_limit ∷ []) =
      record {
        name = name;
        bytes = bytes;
        found = found;
        is = gives.1.0;
        notes = notes;
        are_notes = gives.1.1.1.0;
        lines_are = refl;
        acts_are = refl;
      } in
      read_why gives.0 lines isos defined target (Load name patch_limit ∷ []) mid acts last status read gives.1.1.1.1 path over

  order_why : (order : Option Order) (acts : List Act) (last : Stage) (status : ℕ) → order_of words ≡ order
      → Path old (begun (word_fault words) order) acts last
      → status_at last ≡ Some status → Reason words old acts status
  order_why None acts last status is path over =
      let end_of = ending old (Report (refused_words (word_fault words)) ∷ []) 1 acts last status path over in
      unasked is end_of.0 end_of.1
  order_why (Some (Say saying)) acts last status is path over =
      let end_of = ending old (Print (said saying) ∷ []) 0 acts last status path over in
      is_said saying is end_of.0 end_of.1
  order_why (Some (Generate seed functions)) acts last status is path over =
      let end_of = ending old (Print (generated seed functions) ∷ []) 0 acts last status path over in
      is_generated seed functions is end_of.0 end_of.1
  order_why (Some (Apply name isos defined target)) [] last status is path over = absurd (none_some status (ap status_at (sym path) ∙ over))
  order_why (Some (Apply name isos defined target)) (act ∷ acts) last status is path over =
      let load : act ≡ Load name patch_limit = sym (same_some (Load name patch_limit) act path.0) in
      let there = subst (λ (x : Act). Path (after_act x old) path.1.0 acts last) load path.1.1.1 in
      let found : PatchFound words old name path.1.1.0.0 isos defined target = record { order = is; found = path.1.1.0.1.0 } in
      let why = patch_why name isos defined target path.1.1.0.0 path.1.0 acts last status found path.1.1.0.1.1 there over in
      subst (λ (x : Act). Reason words old (x ∷ acts) status) (sym load) why

pub acts_why : (words : List (List ℕ)) (old : Observed) (acts : List Act) (status : ℕ) → AreActs words old acts status → Reason words old acts status
acts_why words old acts status are = order_why words old (order_of words) acts are.last status refl are.path are.over
