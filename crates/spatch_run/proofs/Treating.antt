-- Acts at hand, and the treatment of a text, in stages.
use Rattle.std.proofs.Common.{◌≡◌, ◌<◌, Bool, ℕ, List, [], ◌∷◌, ◌++◌, Option, Some, None, length, refl, sym, ap, ◌∙◌, inl, inr, subst}
use Rattle.std.specs.Prelude.{IsSomeAnd}
use Rattle.outer_io.specs.Files.{Files}
use Rattle.run_acts.specs.Acts.{Act, Load, Report, Observed, after_act, after}
use Rattle.run_acts.specs.Breaks.{Counts, NoneFell}
use Rattle.run_acts.specs.Lines.{cannot_read}
use Rattle.run_acts.specs.Loaded.{Found}
use Rattle.run_acts.proofs.BreaksLemmas.{NoneFell-refl, NoneFell-then}
use Rattle.smpl_patch.specs.declared.rule.Patch.{Patch}
use Rattle.run_choices.specs.declared.unread.Unread.{Unread}
use Rattle.run_words.specs.declared.order.Mode.{Mode}
use Rattle.run_files.specs.declared.run_lines.notes.NoteLines.{NoteLines}
use Rattle.run_files.specs.RunLines.Files.{too_long_line, special_line}
use Rattle.run_files.specs.declared.tally.Tally.{Tally}
use Rattle.run_files.specs.Treatment.{Treated, file_limit, refused_tally, refuses, IsTreatmentOf, IsFileTreatmentOf, Sums}
use Rattle.run_files.specs.Does.{Does, Stops}
use Rattle.run_files.specs.Cuts.{TreatsAll, TreatsPart}
use Rattle.run_files.specs.Cuts.TreatsPart.{earlier, later}
use Rattle.run_words.specs.Orders.{OnText}
use Rattle.sp_gen.specs.Generated.{generated}
use Rattle.run_files.specs.RunStages.Stages.{Course, Stage, Doing, Ending, EditFiles, after_file, going, told, end_status, refusing}
use Rattle.run_files.specs.RunStages.Stages.{next_act, Leads, TargetLeads, generated_name}
use Rattle.run_files.specs.RunStages.Paths.{Path}
use Rattle.run_files.specs.RunStages.Ends.{Goes, Ends, LeadsBy}
use Rattle.run_files.specs.RunStages.Ends.LeadsBy.{unfed, from}
use Rattle.spatch_run.specs.declared.files.Turn.TheVariants as turn
use Rattle.spatch_run.specs.Turns.{TurnsTo}
use Rattle.spatch_run.proofs.Chain.{Goes-act, Goes-then, Goes-ends, broken, over}

abbrev pub course_of : Tally → NoteLines → Course
course_of tally notes = record { tally = tally; notes = notes }

-- ---- acts at hand

-- stages that have acts at hand, and do them in order
module _ (holding : List Act → Stage) (next : (act : Act) (acts : List Act) → next_act (holding (act ∷ acts)) ≡ Some act)
    (leads : (holds : Option Files) (act : Act) (acts : List Act) → Leads holds (holding (act ∷ acts)) (holding acts)) where
  acts_path : (old : Observed) (acts : List Act) → Path old (holding acts) acts (holding [])
  acts_path old [] = refl
  acts_path old (act ∷ acts) = (next act acts, (holding acts, (leads old.files act acts, acts_path (after_act act old) acts)))

  part_path : (old : Observed) (part more : List Act) → Path old (holding (part ++ more)) part (holding more)
  part_path old [] more = refl
  part_path old (act ∷ part) more = (
    next act (part ++ more),
    (holding (part ++ more), (leads old.files act (part ++ more), part_path (after_act act old) part more)),
  )

  pub does_goes : (acts : List Act) {old new : Observed} → Does acts old new → Goes (holding acts) old (holding []) new
  does_goes acts {old = old} does = record { acts = acts; path = acts_path old acts; observed = does.observed }

  pub stops_ends : (acts : List Act) {before now : Counts} {old new : Observed} {status : ℕ} → NoneFell before now
      → Stops acts before now old new status → Ends (holding acts) before now old new status
  stops_ends acts {old = old} fell stops = record {
    stage = holding (stops.act ∷ stops.rest);
    mid = after stops.part old;
    goes = record {
      acts = stops.part;
      path = subst (λ (x : List Act). Path old (holding x) stops.part (holding (stops.act ∷ stops.rest))) (sym stops.is)
          (part_path old stops.part (stops.act ∷ stops.rest));
      observed = refl;
    };
    fell = fell;
    end = inr (stops.act, (next stops.act stops.rest, stops.breaks));
  }

-- ---- a file

-- if a shelf reports nothing, any bytes may be stored under a name
found_any : (holds : Option Files) (name : List ℕ) → holds ≡ None → Found holds name (Some [])
found_any None name none = refl
found_any (Some files) name none = absurd (cc)

module _ (patch : Patch) (defined : List (List ℕ)) (mode : Mode) where
  going_next : (names : List (List ℕ)) (course : Course) (act : Act) (acts : List Act)
      → next_act (going (act ∷ acts) patch defined mode names course) ≡ Some act
  going_next [] course act acts = refl
  going_next (name ∷ names) course act acts = refl

  going_leads : (names : List (List ℕ)) (course : Course) (holds : Option Files) (act : Act) (acts : List Act)
      → Leads holds (going (act ∷ acts) patch defined mode names course) (going acts patch defined mode names course)
  going_leads [] course holds act acts = refl
  going_leads (name ∷ names) course holds act acts = refl

  -- a file was loaded, which leaves no trace
  file_loaded : (name : List ℕ) (names : List (List ℕ)) (course : Course) (bytes : List ℕ) (treated : Treated) {old here : Observed}
      → Found old.files name (Some bytes) → here ≡ old → IsFileTreatmentOf old.files mode patch defined name bytes treated
      → Goes (Doing [] (EditFiles patch defined mode name names course)) old
      (going treated.acts patch defined mode names (after_file course treated.tally)) here
  file_loaded name names course bytes treated {old = old} {here = here} found same treats =
      Goes-act (Doing [] (EditFiles patch defined mode name names course)) (Load name file_limit)
      (going treated.acts patch defined mode names (after_file course treated.tally)) old here refl (Some bytes, (found, (treated, (treats, refl)))) same

  -- a file was loaded and treated
  file_goes : (name : List ℕ) (names : List (List ℕ)) (course : Course) (tally : Tally) (bytes : List ℕ) {old here new : Observed}
      → Found old.files name (Some bytes) → here ≡ old
      → TreatsAll (IsFileTreatmentOf old.files mode patch defined name bytes) tally here new
      → Goes (Doing [] (EditFiles patch defined mode name names course)) old (going [] patch defined mode names (after_file course tally)) new
  file_goes name names course tally bytes {old = old} {here = here} {new = new} found same all =
      let treated = all.treated in
      let after_this = after_file course treated.tally in
      let goes = Goes-then (file_loaded name names course bytes treated found same all.treats)
      (does_goes (λ (acts : List Act). going acts patch defined mode names after_this) (going_next names after_this)
      (going_leads names after_this) treated.acts all.does) in
      subst (λ (t : Tally). Goes (Doing [] (EditFiles patch defined mode name names course)) old
      (going [] patch defined mode names (after_file course t)) new) all.tally_is goes

  -- a file was loaded, and its treatment was cut off
  pub file_cut : (name : List ℕ) (names : List (List ℕ)) (course : Course)
      (bytes : List ℕ) {first before now : Counts} {old here new : Observed} {status : ℕ} → Found old.files name (Some bytes)
      → here ≡ old → NoneFell first before → NoneFell before now
      → TreatsPart (IsTreatmentOf mode patch defined name bytes) before now here new status
      → Ends (Doing [] (EditFiles patch defined mode name names course)) first now old new status
  file_cut name names course bytes {first = first} {before = before} {now = now} found same fell more (earlier seven none) =
      broken (Doing [] (EditFiles patch defined mode name names course)) (Load name file_limit) refl
      (NoneFell-then first before now fell more) (inl (seven, none ∙ same))
  file_cut name names course bytes found same fell more (later treated treats stops) =
      let after_this = after_file course treated.tally in
      Goes-ends (file_loaded name names course bytes treated found same (inl treats)) fell
      (stops_ends (λ (acts : List Act). going acts patch defined mode names after_this) (going_next names after_this)
      (going_leads names after_this) treated.acts more stops)

  -- a file that is over its limit
  pub long_cut : (name : List ℕ) (names : List (List ℕ)) (course : Course)
      (under : Option (List ℕ)) {first before now : Counts} {old here new : Observed} {status : ℕ} → Found old.files name under
      → IsSomeAnd under (λ bytes. 16777216 < length bytes) → here ≡ old → NoneFell first before → NoneFell before now
      → Stops (Report (too_long_line name) ∷ []) before now here new status
      → Ends (Doing [] (EditFiles patch defined mode name names course)) first now old new status
  long_cut name names course None found long same fell more stops = absurd long
  long_cut name names course (Some bytes) found long same fell more stops =
      file_cut name names course bytes found same fell more (later (refuses (too_long_line name)) (inl (long, refl)) stops)

  pub turns_long : (name : List ℕ) (under : Option (List ℕ)) {old here new : Observed} → Found old.files name under
      → IsSomeAnd under (λ bytes. 16777216 < length bytes) → here ≡ old → Does (Report (too_long_line name) ∷ []) here new
      → TurnsTo (turn.Processed refused_tally) patch defined mode name old new
  turns_long name None found long same does = absurd long
  turns_long name (Some bytes) {new = new} found long same does = (
    bytes,
    (
      found,
      record {
        treated = refuses (too_long_line name);
        treats = inl (inl (long, refl));
        tally_is = refl;
        does = subst (λ (t : Observed). Does (Report (too_long_line name) ∷ []) t new) same does;
      },
    ),
  )

  pub turns_treated : (name bytes : List ℕ) (under : Option (List ℕ)) (tally : Tally) {old here new : Observed}
      → Found old.files name under → under ≡ Some bytes → here ≡ old
      → TreatsAll (IsTreatmentOf mode patch defined name bytes) tally here new → TurnsTo (turn.Processed tally) patch defined mode name old new
  turns_treated name bytes under tally {old = old} {new = new} found is same all = (
    bytes,
    (
      subst (λ (u : Option (List ℕ)). Found old.files name u) is found,
      record {
        treated = all.treated;
        treats = inl all.treats;
        tally_is = all.tally_is;
        does =
            subst (λ (t : Observed). Does all.treated.acts t new) same all.does;
      },
    ),
  )

  -- a pipe, a device or a socket
  pub special_cut : (name : List ℕ) (names : List (List ℕ)) (course : Course) {before now : Counts} {old new : Observed} {status : ℕ}
      → old.files ≡ None → NoneFell before now → Stops (Report (special_line name) ∷ []) before now old new status
      → Ends (Doing [] (EditFiles patch defined mode name names course)) before now old new status
  special_cut name names course {before = before} {old = old} none fell stops =
      let treated = refuses (special_line name) in
      let after_this = after_file course treated.tally in
      Goes-ends (file_loaded name names course [] treated (found_any old.files name none) refl (inr (none, refl)))
      (NoneFell-refl before) (stops_ends (λ (acts : List Act). going acts patch defined mode names after_this) (going_next names after_this)
      (going_leads names after_this) treated.acts fell stops)

  pub turns_special : (name : List ℕ) {old new : Observed} → old.files ≡ None → Does (Report (special_line name) ∷ []) old new
      → TurnsTo (turn.Processed refused_tally) patch defined mode name old new
  turns_special name {old = old} none does =
      ([], (found_any old.files name none, record { treated = refuses (special_line name); treats = inr (none, refl); tally_is = refl; does = does }))

  pub turns_absent : (name : List ℕ) (under : Option (List ℕ)) {old new : Observed} → Found old.files name under → under ≡ None
      → new ≡ old → TurnsTo turn.Absent patch defined mode name old new
  turns_absent name under {old = old} found is same = (subst (λ (u : Option (List ℕ)). Found old.files name u) is found, same)

  -- a file was treated in its turn
  pub turn_goes : (name : List ℕ) (names : List (List ℕ)) (course : Course) (tally : Tally) {old new : Observed}
      → TurnsTo (turn.Processed tally) patch defined mode name old new
      → Goes (Doing [] (EditFiles patch defined mode name names course)) old (going [] patch defined mode names (after_file course tally)) new
  turn_goes name names course tally turned = file_goes name names course tally turned.0 turned.1.0 refl turned.1.1

  -- nothing is stored under its name
  pub turn_absent : (name : List ℕ) (names : List (List ℕ)) (course : Course) {old new : Observed}
      → TurnsTo turn.Absent patch defined mode name old new
      → Goes (Doing [] (EditFiles patch defined mode name names course)) old (refusing (cannot_read name) 5) new
  turn_absent name names course {old = old} {new = new} turned =
      Goes-act (Doing [] (EditFiles patch defined mode name names course)) (Load name file_limit)
      (refusing (cannot_read name) 5) old new refl (None, (turned.0, refl)) turned.1

-- ---- after the last file

-- the notes are told, or one of them breaks
module _ (patch : Patch) (defined : List (List ℕ)) (mode : Mode) (course : Course) where
  pub told_ends : {before now : Counts} {old new : Observed} → NoneFell before now → Does (told course) old new
      → Ends (going [] patch defined mode [] course) before now old new (end_status course.tally)
  told_ends {now = now} {new = new} fell does =
      let s = end_status course.tally in
      Goes-ends (does_goes (λ (acts : List Act). Ending acts s) (λ act acts. refl)
      (λ holds act acts. refl) (told course) does) fell (over (Ending [] s) now new s refl)

  pub told_cut : {before now : Counts} {old new : Observed} {status : ℕ} → NoneFell before now
      → Stops (told course) before now old new status → Ends (going [] patch defined mode [] course) before now old new status
  told_cut fell stops =
      let s = end_status course.tally in
      stops_ends (λ (acts : List Act). Ending acts s) (λ act acts. refl) (λ holds act acts. refl) (told course) fell stops

-- ---- a generated text

-- the same items that can't be read are told of, and the text is tidied in both or in neither
pub leads_as : (patch : Patch) (notes : NoteLines) (defined : List (List ℕ)) (seed functions : ℕ) (quiet : Bool) (one two : Unread)
    (tidy left : Bool) {before now : Counts} {old new : Observed} {status : ℕ} → one ≡ two → tidy ≡ left
    → LeadsBy (TargetLeads patch notes defined (OnText seed functions quiet one tidy)) before now old new status
    → LeadsBy (TargetLeads patch notes defined (OnText seed functions quiet two left)) before now old new status
leads_as patch notes defined seed functions quiet one two tidy left {before = before} {now = now} {old = old} {new = new} {status = status} same alike
    leads =
    subst (λ (b : Bool). LeadsBy (TargetLeads patch notes defined (OnText seed functions quiet two b)) before now old new status) alike
    (subst (λ (u : Unread). LeadsBy (TargetLeads patch notes defined (OnText seed functions quiet u tidy)) before now old new status) same leads)

module _ (patch : Patch) (notes : NoteLines) (defined : List (List ℕ)) (seed functions : ℕ) (quiet : Bool) (unread : Unread) (tidy : Bool) where
  pub sum_done : (tally : Tally) {before now : Counts} {old new : Observed} {status : ℕ} → NoneFell before now
      → status ≡ end_status tally → TreatsAll (Sums tidy patch defined quiet unread generated_name (generated seed functions)) tally old new
      → LeadsBy (TargetLeads patch notes defined (OnText seed functions quiet unread tidy)) before now old new status
  sum_done tally {before = before} {now = now} {old = old} {new = new} {status = status} fell is all =
      let treated = all.treated in
      let s = end_status treated.tally in
      let ends = Goes-ends (does_goes (λ (acts : List Act). Ending acts s) (λ act acts. refl)
      (λ holds act acts. refl) treated.acts all.does) fell (over (Ending [] s) now new s refl) in
      from (Ending treated.acts s) (treated, (all.treats, refl))
      (subst (λ (n : ℕ). Ends (Ending treated.acts s) before now old new n) (ap end_status all.tally_is ∙ sym is) ends)

  pub sum_cut : {before now : Counts} {old new : Observed} {status : ℕ} → NoneFell before now
      → TreatsPart (Sums tidy patch defined quiet unread generated_name (generated seed functions)) before now old new status
      → LeadsBy (TargetLeads patch notes defined (OnText seed functions quiet unread tidy)) before now old new status
  sum_cut fell (earlier seven none) = unfed fell seven none
  sum_cut fell (later treated treats stops) =
      let s = end_status treated.tally in
      from (Ending treated.acts s) (treated, (treats, refl))
      (stops_ends (λ (acts : List Act). Ending acts s) (λ act acts. refl) (λ holds act acts. refl) treated.acts fell stops)
