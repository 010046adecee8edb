-- What is left of the acts of a whole run under `--quiet`, by its reason.
use Rattle.std.proofs.Common.{◌≡◌, ℕ, Bool, true, false, cond, List, [], ◌∷◌, ◌++◌, map, Option, Some, None, is_some, codes, refl, sym, ap, ◌∙◌}
use Rattle.std.proofs.Common.{subst, inl, inr, arith}
use Rattle.std.specs.Prelude.{◌≢◌, ◌⊎◌}
use Rattle.std.specs.Fmt.{decimal}
use Rattle.std.proofs.lemmas.List.{append-nil}
use Rattle.smpl_patch.specs.declared.rule.Patch.{Patch}
use Rattle.smpl_patch.specs.Faults.{number_of}
use Rattle.iso_file.specs.declared.fault.IsoFault.{IsoFault}
use Rattle.text_places.specs.declared.place.Place.{Place}
use Rattle.smpl_notes.specs.declared.note.Note.{Note}
use Rattle.smpl_notes.specs.declared.note.Note.TheVariants.{NoSign, InRule}
use Rattle.sp_gen.specs.Generated.{generated}
use Rattle.run_acts.specs.Acts.{Act, Load, Report, Observed}
use Rattle.run_acts.specs.Lines.{cannot_read}
use Rattle.run_words.specs.Orders.{Target, OnFiles, OnText, Order, Apply, Generate, Say, order_of, is_quiet}
use Rattle.run_files.specs.declared.run_lines.notes.NoteLines.{NoteLines}
use Rattle.run_files.specs.RunLines.Further.{further_at, placed, told_place}
use Rattle.run_files.specs.RunLines.Notes.{note_line, note_lines, no_lines}
use Rattle.run_files.specs.RunLines.Patches.{begun, fault_place_text, fault_sentence, patch_fault_line, iso_fault_line, iso_fault_text, iso_sentence}
use Rattle.run_files.specs.RunLines.Patches.{forms_line, iso_byte}
use Rattle.run_files.specs.RunStages.Stages.{patch_limit, generated_name, first_course}
use Rattle.run_files.specs.RunStages.Reasons.{PatchFound, PatchRead, IsosFound, PatchReady, AllDone, Missing, Reason}
use Rattle.run_files.specs.RunStages.Reasons.PatchReady.{plain, expanded}
use Rattle.run_files.specs.RunStages.Reasons.Reason.{unasked, is_said, is_generated, no_patch, bad_patch, no_isos, bad_isos, many_forms, summed}
use Rattle.run_files.specs.RunStages.Reasons.Reason.{filed}
use Rattle.spatch_run.specs.RunEnds.Quiet.{says_more, kept, quieted, quiet_mode, quiet_target, quiet_order, KeepsLine, SameButQuiet}
use Rattle.spatch_run.proofs.RunLaws.Unique.{none_some, same_some}
use Rattle.spatch_run.proofs.RunLaws.Checked.{status_by}
use Rattle.spatch_run.proofs.RunEnds.QuietLines.{kept-alone, kept-read, plain-decimal, plain-iso}
use Rattle.spatch_run.proofs.RunEnds.QuietFiles.{quieted-append, kept-line, hushed, hushed-sums, AllMore, AllSayMore, files-quiet}

-- ---- notes

all-noted : (name : List ℕ) (notes : List Note) → AllMore (map (note_line name) notes)
all-noted name [] = tt
all-noted name (NoSign ∷ notes) = (refl, all-noted name notes)
all-noted name (InRule rule None slip ∷ notes) = (refl, all-noted name notes)
all-noted name (InRule rule (Some place) slip ∷ notes) = (refl, all-noted name notes)

unless_quiet : (quiet : Bool) (lines : NoteLines) → AllSayMore lines → AllSayMore (cond quiet no_lines lines)
unless_quiet true lines all = (tt, tt)
unless_quiet false lines all = all

all-more : (name : List ℕ) (has_isos : Bool) (target : Target) (notes : List Note) → AllSayMore (note_lines name has_isos target notes)
all-more name has_isos (OnFiles mode names) notes = unless_quiet mode.quiet _ (all-noted name _, all-noted name _)
all-more name has_isos (OnText seed functions quiet unread tidy) notes = (tt, tt)

-- the lines of the notes on a patch that is ready say more
pub more-ready : (words : List (List ℕ)) (old : Observed) (whole : Patch) (lines : NoteLines) (defined : List (List ℕ)) (target : Target) (acts : List Act)
    → PatchReady words old whole lines defined target acts → AllSayMore lines
more-ready words old whole lines defined target acts (plain read) = subst AllSayMore (sym read.lines_are) (all-more read.name false target read.notes)
more-ready words old whole lines defined target acts (expanded patch name bytes isos found are is) =
    subst AllSayMore (sym found.read.lines_are) (all-more found.read.name true target found.read.notes)

no-notes : (name : List ℕ) (has_isos : Bool) (target : Target) (notes : List Note) → note_lines name has_isos (quiet_target target) notes ≡ no_lines
no-notes name has_isos (OnFiles mode names) notes = refl
no-notes name has_isos (OnText seed functions quiet unread tidy) notes = refl

hushes : (target : Target) → is_quiet (quiet_target target) ≡ true
hushes (OnFiles mode names) = refl
hushes (OnText seed functions quiet unread tidy) = refl

-- ---- the acts at the end

left : (before : List Act) (act other : Act) (acts : List Act) → quieted before ≡ before → kept act ≡ other ∷ [] → acts ≡ before ++ act ∷ []
    → quieted acts ≡ before ++ other ∷ []
left before act other acts same one is =
    ap quieted is ∙ quieted-append before (act ∷ []) ∙ (λ i. same i ++ (one i ++ []))

iso_line : (name : List ℕ) (target : Target) (place : Option Place) (fault : IsoFault)
    → kept (Report (iso_fault_line name (told_place (is_quiet target) place) fault))
    ≡ Report (iso_fault_line name (told_place (is_quiet (quiet_target target)) place) fault) ∷ []
iso_line name target place fault =
    kept-line name (codes "isomorphism fault " ++ iso_fault_text fault)
    (further_at name (told_place (is_quiet target) place) (iso_sentence fault)) (plain-iso fault)
    ∙ ap (λ (q : Bool). Report (iso_fault_line name (told_place q place) fault) ∷ []) (sym (hushes target))

further_more : (name : List ℕ) (place : Option Place) (what : List ℕ) → (further_at name place what ≡ []) ⊎ (says_more (further_at name place what) ≡ true)
further_more name None what = inl refl
further_more name (Some place) what = inr refl

not_two : (refused hit : Bool) → status_by refused hit ≡ 2 → ⊥
not_two true hit e = omega (arith, e)
not_two false true e = omega (arith, e)
not_two false false e = omega (arith, e)

module _ (words others : List (List ℕ)) (same : SameButQuiet words others) (old : Observed) where
  asks : (order : Order) → order_of words ≡ Some order → order_of others ≡ Some (quiet_order order)
  asks order is = same.quiet ∙ ap (λ (o : Order). Some (quiet_order o)) (same_some same.order order (sym same.asked ∙ is))

  -- ---- the patch

  found_quiet : (name : List ℕ) (under isos : Option (List ℕ)) (defined : List (List ℕ)) (target : Target)
      → PatchFound words old name under isos defined target → PatchFound others old name under isos defined (quiet_target target)
  found_quiet name under isos defined target found = record { order = asks (Apply name isos defined target) found.order; found = found.found }

  read_quiet : (patch : Patch) (lines : NoteLines) (isos : Option (List ℕ)) (defined : List (List ℕ)) (target : Target) (acts : List Act)
      → PatchRead words old patch lines isos defined target acts → PatchRead others old patch no_lines isos defined (quiet_target target) acts
  read_quiet patch lines isos defined target acts read = record {
    name = read.name;
    bytes = read.bytes;
    found = found_quiet read.name (Some read.bytes) isos defined target read.found;
    is = read.is;
    notes = read.notes;
    are_notes = read.are_notes;
    lines_are = sym (no-notes read.name (is_some isos) target read.notes);
    acts_are = read.acts_are;
  }

  isos_quiet : (patch : Patch) (lines : NoteLines) (name : List ℕ) (under : Option (List ℕ)) (defined : List (List ℕ)) (target : Target)
      (acts : List Act) → IsosFound words old patch lines name under defined target acts
      → IsosFound others old patch no_lines name under defined (quiet_target target) acts
  isos_quiet patch lines name under defined target acts found = record {
    before = found.before;
    read = read_quiet patch lines (Some name) defined target found.before found.read;
    found = found.found;
    acts_are = found.acts_are;
  }

  ready_quiet : (whole : Patch) (lines : NoteLines) (defined : List (List ℕ)) (target : Target) (acts : List Act)
      → PatchReady words old whole lines defined target acts → PatchReady others old whole no_lines defined (quiet_target target) acts
  ready_quiet whole lines defined target acts (plain read) = plain (read_quiet whole lines None defined target acts read)
  ready_quiet whole lines defined target acts (expanded patch name bytes isos found are is) =
      expanded patch name bytes isos (isos_quiet patch lines name (Some bytes) defined target acts found) are is

  -- ---- the acts before the files

  isos_left : (patch : Patch) (lines : NoteLines) (name : List ℕ) (under : Option (List ℕ)) (defined : List (List ℕ)) (target : Target)
      (acts : List Act) → IsosFound words old patch lines name under defined target acts → quieted acts ≡ acts
  isos_left patch lines name under defined target acts found =
      let is : acts ≡ Load found.read.name patch_limit ∷ Load name patch_limit ∷ []
      = found.acts_are ∙ ap (λ (x : List Act). x ++ Load name patch_limit ∷ []) found.read.acts_are in
      ap quieted is ∙ sym is

  ready_left : (whole : Patch) (lines : NoteLines) (defined : List (List ℕ)) (target : Target) (acts : List Act)
      → PatchReady words old whole lines defined target acts → quieted acts ≡ acts
  ready_left whole lines defined target acts (plain read) = ap quieted read.acts_are ∙ sym read.acts_are
  ready_left whole lines defined target acts (expanded patch name bytes isos found are is) =
      isos_left patch lines name (Some bytes) defined target acts found

  -- ---- whole runs

  pub reason_quiet : (acts : List Act) (status : ℕ) → Reason words old acts status → status ≢ 2 → Reason others old (quieted acts) status
  reason_quiet acts status (unasked none is over) not = absurd (none_some same.order (sym none ∙ same.asked))
  reason_quiet acts status (is_said saying order is over) not = is_said saying (asks (Say saying) order) (ap quieted is) over
  reason_quiet acts status (is_generated seed functions order is over) not =
      is_generated seed functions (asks (Generate seed functions) order) (ap quieted is) over
  reason_quiet acts status (no_patch name isos defined target found is over) not =
      no_patch name isos defined (quiet_target target) (found_quiet name None isos defined target found)
      (left (Load name patch_limit ∷ []) (Report (cannot_read name)) (Report (cannot_read name)) acts refl (kept-read name) is) over
  reason_quiet acts status (bad_patch name bytes isos defined target fault at found first there is over) not = absurd (not over)
  reason_quiet acts status (no_isos patch lines name defined target before found is over) not =
      no_isos patch no_lines name defined (quiet_target target) before (isos_quiet patch lines name None defined target before found)
      (left before (Report (cannot_read name)) (Report (cannot_read name)) acts (isos_left patch lines name None defined target before found)
      (kept-read name) is) over
  reason_quiet acts status (bad_isos patch lines name bytes defined target fault before found first is over) not =
      bad_isos patch no_lines name bytes defined (quiet_target target) fault before (isos_quiet patch lines name (Some bytes) defined target before found) first
      (left before _ _ acts (isos_left patch lines name (Some bytes) defined target before found)
      (iso_line name target (placed bytes (iso_byte fault)) fault) is) over
  reason_quiet acts status (many_forms patch lines name bytes defined target isos rule before found are many is over) not =
      many_forms patch no_lines name bytes defined (quiet_target target) isos rule before (isos_quiet patch lines name (Some bytes) defined target before found)
      are many (left before (Report (forms_line name rule)) (Report (forms_line name rule)) acts
      (isos_left patch lines name (Some bytes) defined target before found)
      (kept-alone name (codes "too many forms in rule " ++ decimal rule) (plain-decimal rule)) is) over
  reason_quiet acts status (summed patch lines defined seed functions quiet unread tidy treated before ready sums is over) not =
      summed patch no_lines defined seed functions true unread tidy (hushed treated) before
      (ready_quiet patch lines defined (OnText seed functions quiet unread tidy) before ready)
      (hushed-sums tidy patch defined quiet unread generated_name (generated seed functions) treated sums)
      (ap quieted is ∙ quieted-append before treated.acts
      ∙ ap (λ (x : List Act). x ++ quieted treated.acts) (ready_left patch lines defined (OnText seed functions quiet unread tidy) before ready)) over
  reason_quiet acts status (filed patch lines defined mode names before rest end ready does is over) not =
      filed patch no_lines defined (quiet_mode mode) names before (quieted rest) end (ready_quiet patch lines defined (OnFiles mode names) before ready)
      (files-quiet patch defined mode names old old (first_course lines) rest end refl
      (more-ready words old patch lines defined (OnFiles mode names) before ready) does)
      (ap quieted is ∙ quieted-append before rest
      ∙ ap (λ (x : List Act). x ++ quieted rest) (ready_left patch lines defined (OnFiles mode names) before ready)) over

  pub fault_quiet : (acts : List Act) (status : ℕ) → Reason words old acts status → status ≡ 2
      → (fewer : List Act) × (Reason others old fewer status × KeepsLine acts fewer)
  fault_quiet acts status (unasked none is over) two = absurd (omega (arith, over, two))
  fault_quiet acts status (is_said saying order is over) two = absurd (omega (arith, over, two))
  fault_quiet acts status (is_generated seed functions order is over) two = absurd (omega (arith, over, two))
  fault_quiet acts status (no_patch name isos defined target found is over) two = absurd (omega (arith, over, two))
  fault_quiet acts status (bad_patch name bytes isos defined target fault at found first there is over) two =
      let load = Load name patch_limit in
      let text : List ℕ = begun name ++ (codes "patch fault " ++ decimal (number_of fault) ++ fault_place_text fault) in
      let told = told_place (is_quiet target) (placed bytes at) in (
        load ∷ Report (text ++ codes "\n") ∷ [],
        (
          bad_patch name bytes isos defined (quiet_target target) fault at (found_quiet name (Some bytes) isos defined target found) first there
              (ap (λ (x : List ℕ). load ∷ Report x ∷ []) (sym (ap (λ (q : Bool). patch_fault_line name (told_place q (placed bytes at)) fault) (hushes target)
              ∙ append-nil (text ++ codes "\n")))) over,
          record {
            load = load;
            line = text;
            more = further_at name told (fault_sentence fault);
            acts_are = is;
            others_are = refl;
            rest = further_more name told (fault_sentence fault);
          },
        ),
      )
  fault_quiet acts status (no_isos patch lines name defined target before found is over) two = absurd (omega (arith, over, two))
  fault_quiet acts status (bad_isos patch lines name bytes defined target fault before found first is over) two = absurd (omega (arith, over, two))
  fault_quiet acts status (many_forms patch lines name bytes defined target isos rule before found are many is over) two =
      absurd (omega (arith, over, two))
  fault_quiet acts status (summed patch lines defined seed functions quiet unread tidy treated before ready sums is over) two =
      absurd (not_two treated.tally.refused treated.tally.hit (sym over ∙ two))
  fault_quiet acts status (filed patch lines defined mode names before rest (AllDone tally) ready does is over) two =
      absurd (not_two tally.refused tally.hit (sym over ∙ two))
  fault_quiet acts status (filed patch lines defined mode names before rest (Missing name) ready does is over) two = absurd (omega (arith, over, two))
