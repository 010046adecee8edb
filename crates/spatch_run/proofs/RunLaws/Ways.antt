-- Each way of a run is a path of stages.
use Rattle.std.proofs.Common.{◌≡◌, ℕ, List, [], ◌∷◌, ◌++◌, Option, Some, None, refl, sym, ap, ◌∙◌, inl, inr, subst, append_assoc}
use Rattle.run_acts.specs.Acts.{Act, Load, Print, Report, Observed, after_act, after}
use Rattle.run_acts.specs.Lines.{cannot_read}
use Rattle.smpl_patch.specs.declared.rule.Patch.{Patch}
use Rattle.sp_gen.specs.Generated.{generated}
use Rattle.run_words.specs.declared.order.Mode.{Mode}
use Rattle.run_words.specs.Orders.{Target, OnFiles, OnText, Order, Apply, Generate, Say, order_of, is_quiet}
use Rattle.run_words.specs.Faults.{word_fault}
use Rattle.run_files.specs.declared.run_lines.notes.NoteLines.{NoteLines}
use Rattle.run_files.specs.RunLines.Words.{refused_words, said}
use Rattle.run_files.specs.RunLines.Patches.{patch_fault_line, iso_fault_line, forms_line, iso_byte}
use Rattle.run_files.specs.RunLines.Further.{placed, told_place}
use Rattle.run_files.specs.Treatment.{file_limit}
use Rattle.run_files.specs.RunStages.Stages.{Stage, Doing, Ending, ReadIsos, EditFiles, Work, Course, patch_limit, refusing, going, first_course}
use Rattle.run_files.specs.RunStages.Stages.{after_file, told, end_status, begun, begun_by, TargetLeads, ReadLeads, IsosFileLeads}
use Rattle.run_files.specs.RunStages.Paths.{Path, AreActs}
use Rattle.run_files.specs.RunStages.Reasons.{PatchRead, IsosFound, PatchReady, FilesEnd, FilesDo, files_status, Reason}
use Rattle.run_files.specs.RunStages.Reasons.PatchReady.{plain, expanded}
use Rattle.run_files.specs.RunStages.Reasons.Reason.{unasked, is_said, is_generated, no_patch, bad_patch, no_isos, bad_isos, many_forms, summed}
use Rattle.run_files.specs.RunStages.Reasons.Reason.{filed}

ends_path : (old : Observed) (pending : List Act) (s : ℕ) → Path old (Ending pending s) pending (Ending [] s)
ends_path old [] s = refl
ends_path old (p ∷ pending) s = (refl, (Ending pending s, (refl, ends_path (after_act p old) pending s)))

pass : (old : Observed) (pending : List Act) (work : Work) (rest : List Act) (last : Stage) → Path (after pending old) (Doing [] work) rest last
    → Path old (Doing pending work) (pending ++ rest) last
pass old [] work rest last path = path
pass old (p ∷ pending) work rest last path = (refl, (Doing pending work, (refl, pass (after_act p old) pending work rest last path)))

module _ (patch : Patch) (defined : List (List ℕ)) (mode : Mode) where
  files_path : (names : List (List ℕ)) (old : Observed) (course : Course) (pending acts : List Act) (end : FilesEnd)
      → FilesDo (after pending old) patch defined mode names course acts end
      → Path old (going pending patch defined mode names course) (pending ++ acts) (Ending [] (files_status end))
  files_path [] old course pending acts end does =
      let last : List Act = pending ++ told course in
      let is : acts ≡ told course = does.0 in
      let same : last ≡ pending ++ acts = ap (λ (x : List Act). pending ++ x) (sym is) in
      let over : end_status course.tally ≡ files_status end = ap files_status (sym does.1) in
      subst (λ (n : ℕ). Path old (Ending last (end_status course.tally)) (pending ++ acts) (Ending [] n)) over
      (subst (λ (x : List Act). Path old (Ending last (end_status course.tally)) x (Ending [] (end_status course.tally))) same
      (ends_path old last (end_status course.tally)))
  files_path (name ∷ names) old course pending acts end (inl missing) =
      let line = Report (cannot_read name) ∷ [] in
      let path : Path (after pending old) (Doing [] (EditFiles patch defined mode name names course)) (Load name file_limit ∷ line) (Ending [] 5) =
      (refl, (refusing (cannot_read name) 5, ((None, (missing.0, refl)), ends_path (after pending old) line 5))) in
      let is : acts ≡ Load name file_limit ∷ line = missing.1.0 in
      let over : 5 ≡ files_status end = ap files_status (sym missing.1.1) in
      pass old pending (EditFiles patch defined mode name names course) acts (Ending [] (files_status end))
      (subst (λ (n : ℕ). Path (after pending old) (Doing [] (EditFiles patch defined mode name names course)) acts (Ending [] n)) over
      (subst (λ (x : List Act). Path (after pending old) (Doing [] (EditFiles patch defined mode name names course)) x (Ending [] 5)) (sym is) path))
  files_path (name ∷ names) old course pending acts end (inr done_with) =
      let bytes = done_with.0 in
      let treated = done_with.1.1.0 in
      let treats = done_with.1.1.1.0 in
      let rest = done_with.1.1.1.1.0 in
      let is : acts ≡ Load name file_limit ∷ treated.acts ++ rest = done_with.1.1.1.1.1.0 in
      let next = going treated.acts patch defined mode names (after_file course treated.tally) in
      let more = files_path names (after pending old) (after_file course treated.tally) treated.acts rest end done_with.1.1.1.1.1.1 in
      let path : Path (after pending old) (Doing [] (EditFiles patch defined mode name names course)) (Load name file_limit ∷ treated.acts ++ rest)
      (Ending [] (files_status end)) = (refl, (next, ((Some bytes, (done_with.1.0, (treated, (treats, refl)))), more))) in
      pass old pending (EditFiles patch defined mode name names course) acts (Ending [] (files_status end))
      (subst (λ (x : List Act). Path (after pending old) (Doing [] (EditFiles patch defined mode name names course)) x (Ending [] (files_status end)))
      (sym is) path)

module _ (words : List (List ℕ)) (old : Observed) where
  -- some acts lead from the beginning to this status
  abbrev Leading : List Act → ℕ → Type 0
  Leading acts s = Path old (begun_by words) acts (Ending [] s)

  from_order : (order : Option Order) (acts rest : List Act) (s : ℕ) → order_of words ≡ order
      → Path old (begun (word_fault words) order) rest (Ending [] s) → acts ≡ rest
      → Leading acts s
  from_order order acts rest s is path same =
      subst (λ (o : Option Order). Path old (begun (word_fault words) o) acts (Ending [] s)) (sym is)
      (subst (λ (x : List Act). Path old (begun (word_fault words) order) x (Ending [] s)) (sym same) path)

  -- a patch was read
  read_path : (patch : Patch) (lines : NoteLines) (isos : Option (List ℕ)) (defined : List (List ℕ)) (target : Target)
      (before : List Act) (mid : Stage) (rest : List Act) (s : ℕ)
      → PatchRead words old patch lines isos defined target before → ReadLeads patch lines isos defined target mid → Path old mid rest (Ending [] s)
      → Leading (before ++ rest) s
  read_path patch lines isos defined target before mid rest s read leads path =
      let noted = subst (λ (x : NoteLines). ReadLeads patch x isos defined target mid) read.lines_are leads in
      from_order (Some (Apply read.name isos defined target)) (before ++ rest) (Load read.name patch_limit ∷ rest) s read.found.order (
        refl,
        (
          mid,
          (
            (Some read.bytes, (read.found.found, inr (patch, (read.is, (read.notes, (read.are_notes, noted)))))),
            path,
          ),
        ),
      ) (ap (λ (x : List Act). x ++ rest) read.acts_are)

  -- isomorphisms were loaded
  isos_path : (patch : Patch) (lines : NoteLines) (name : List ℕ) (under : Option (List ℕ)) (defined : List (List ℕ))
      (target : Target) (before : List Act) (mid : Stage)
      (rest : List Act) (s : ℕ)
      → IsosFound words old patch lines name under defined target before
      → IsosFileLeads under patch lines name defined target mid → Path old mid rest (Ending [] s)
      → Leading (before ++ rest) s
  isos_path patch lines name under defined target before mid rest s found leads path =
      let work = Doing [] (ReadIsos patch lines name defined target) in
      let load : Path old work (Load name patch_limit ∷ rest) (Ending [] s) = (refl, (mid, ((under, (found.found, leads)), path))) in
      let whole = read_path patch lines (Some name) defined target found.before work (Load name patch_limit ∷ rest) s found.read refl load in
      let same : before ++ rest ≡ found.before ++ Load name patch_limit ∷ rest =
      ap (λ (x : List Act). x ++ rest) found.acts_are ∙ append_assoc found.before (Load name patch_limit ∷ []) rest in
      subst (λ (x : List Act). Leading x s) (sym same) whole

  -- a patch has all its forms
  ready_path : (patch : Patch) (lines : NoteLines) (defined : List (List ℕ)) (target : Target) (before : List Act) (mid : Stage) (rest : List Act) (s : ℕ)
      → PatchReady words old patch lines defined target before → TargetLeads patch lines defined target mid
      → Path old mid rest (Ending [] s) → Leading (before ++ rest) s
  ready_path whole lines defined target before mid rest s (plain read) leads path = read_path whole lines None defined target before mid rest s read leads path
  ready_path whole lines defined target before mid rest s (expanded patch name bytes isos found are is) leads path =
      isos_path patch lines name (Some bytes) defined target before mid rest s found (inr (isos, (are, inr (whole, (is, leads))))) path

  whole_run : (acts rest : List Act) (s status : ℕ) → Leading rest s → acts ≡ rest → status ≡ s → AreActs words old acts status
  whole_run acts rest s status path same over =
      record { last = Ending [] s; path = subst (λ (x : List Act). Leading x s) (sym same) path; over = ap (λ (n : ℕ). Some n) (sym over) }

  pub ways_are_acts : (acts : List Act) (status : ℕ) → Reason words old acts status → AreActs words old acts status
  ways_are_acts acts status (unasked none is over) =
      let pending = Report (refused_words (word_fault words)) ∷ [] in
      whole_run acts pending 1 status (from_order None pending pending 1 none (ends_path old pending 1) refl) is over
  ways_are_acts acts status (is_said saying order is over) =
      let pending = Print (said saying) ∷ [] in
      whole_run acts pending 0 status (from_order (Some (Say saying)) pending pending 0 order (ends_path old pending 0) refl) is over
  ways_are_acts acts status (is_generated seed functions order is over) =
      let pending = Print (generated seed functions) ∷ [] in
      whole_run acts pending 0 status (from_order (Some (Generate seed functions)) pending pending 0 order (ends_path old pending 0) refl) is over
  ways_are_acts acts status (no_patch name isos defined target found is over) =
      let pending = Report (cannot_read name) ∷ [] in
      let all = Load name patch_limit ∷ pending in
      let path = from_order (Some (Apply name isos defined target)) all all 5 found.order
      (refl, (refusing (cannot_read name) 5, ((None, (found.found, refl)), ends_path old pending 5))) refl in
      whole_run acts all 5 status path is over
  ways_are_acts acts status (bad_patch name bytes isos defined target fault at found first there is over) =
      let line = patch_fault_line name (told_place (is_quiet target) (placed bytes at)) fault in
      let pending = Report line ∷ [] in
      let all = Load name patch_limit ∷ pending in
      let path = from_order (Some (Apply name isos defined target)) all all 2 found.order
      (refl, (refusing line 2, ((Some bytes, (found.found, inl (fault, (first, (at, (there, refl)))))), ends_path old pending 2))) refl in
      whole_run acts all 2 status path is over
  ways_are_acts acts status (no_isos patch lines name defined target before found is over) =
      let pending = Report (cannot_read name) ∷ [] in
      let path = isos_path patch lines name None defined target before (refusing (cannot_read name) 5) pending 5 found refl (ends_path old pending 5) in
      whole_run acts (before ++ pending) 5 status path is over
  ways_are_acts acts status (bad_isos patch lines name bytes defined target fault before found first is over) =
      let line = iso_fault_line name (told_place (is_quiet target) (placed bytes (iso_byte fault))) fault in
      let pending = Report line ∷ [] in
      let path = isos_path patch lines name (Some bytes) defined target before (refusing line 3) pending 3 found (inl (fault, (first, refl)))
      (ends_path old pending 3) in
      whole_run acts (before ++ pending) 3 status path is over
  ways_are_acts acts status (many_forms patch lines name bytes defined target isos rule before found are many is over) =
      let pending = Report (forms_line name rule) ∷ [] in
      let path = isos_path patch lines name (Some bytes) defined target before (refusing (forms_line name rule) 3) pending 3 found
      (inr (isos, (are, inl (rule, (many, refl))))) (ends_path old pending 3) in
      whole_run acts (before ++ pending) 3 status path is over
  ways_are_acts acts status (summed patch lines defined seed functions quiet unread tidy treated before ready sums is over) =
      let s = end_status treated.tally in
      let path = ready_path patch lines defined (OnText seed functions quiet unread tidy) before
      (Ending treated.acts s) treated.acts s ready (treated, (sums, refl))
      (ends_path old treated.acts s) in
      whole_run acts (before ++ treated.acts) s status path is over
  ways_are_acts acts status (filed patch lines defined mode names before rest end ready does is over) =
      let path = ready_path patch lines defined (OnFiles mode names) before
      (going [] patch defined mode names (first_course lines)) rest (files_status end) ready refl
      (files_path patch defined mode names old (first_course lines) [] rest end does) in
      whole_run acts (before ++ rest) (files_status end) status path is over
