-- What is left of the acts of texts and files under `--quiet`.
use Rattle.std.proofs.Common.{◌≡◌, ℕ, Bool, true, false, cond, List, [], ◌∷◌, ◌++◌, length, map, Option, None, Some, codes, refl, sym, ap}
use Rattle.std.proofs.Common.{◌∙◌, subst, inl, inr}
use Rattle.std.specs.Prelude.{if◌then◌else◌, option_and_then, slice_get}
use Rattle.std.proofs.lemmas.List.{append-nil}
use Rattle.std.proofs.lemmas.Grind.{flat_map-append}
use Rattle.c_terms.specs.Same.{same_bytes}
use Rattle.outer_io.specs.Files.{Files}
use Rattle.smpl_patch.specs.declared.rule.Patch.{Patch}
use Rattle.c_places.specs.declared.places.TextPlaces.{TextPlaces}
use Rattle.rule_chain.specs.declared.rule_run.fault.FileFault.{FileFault}
use Rattle.rule_chain.specs.declared.rule_run.fault.FileFault.TheVariants.{FileTooLong, Conflict, Body, TooManyWitnesses, TooManyEnvironments}
use Rattle.rule_chain.specs.declared.rule_run.fault.FileFault.TheVariants.{NoMemory}
use Rattle.rule_chain.specs.declared.rule_run.state.SkipNote.{SkipNote}
use Rattle.rule_chain.specs.RuleRun.States.{Chained, told_notes}
use Rattle.rule_chain.specs.Chain.{Outcome, Done, Refused}
use Rattle.wit_print.specs.Report.{report_of}
use Rattle.run_acts.specs.Acts.{Act, Load, Store, Print, Report, Observed, after_act, after}
use Rattle.run_acts.specs.Loaded.{Found}
use Rattle.run_choices.specs.declared.unread.Unread.{Unread}
use Rattle.run_words.specs.declared.order.Mode.{Mode}
use Rattle.run_files.specs.declared.run_lines.notes.NoteLines.{NoteLines}
use Rattle.run_files.specs.RunLines.Notes.{no_lines}
use Rattle.run_files.specs.RunLines.Summary.{summary}
use Rattle.run_files.specs.RunLines.Files.{refused_line, skipped_line, fault_text, fault_there, fault_place, note_place, why_text}
use Rattle.run_files.specs.RunLines.Further.{further_at, placed}
use Rattle.run_files.specs.RunLines.Patches.{line_about}
use Rattle.run_files.specs.declared.tally.Tally.{Tally}
use Rattle.run_files.specs.Treatment.{Treated, IsFileTreatmentOf, Sums, treated_by, summed_by, refuses, faulted, told_places, printing, shown}
use Rattle.run_files.specs.Treatment.{stored_after, note_act, skipped_lines, is_hit, file_limit}
use Rattle.run_files.specs.RunStages.Stages.{Course, after_file, told}
use Rattle.run_files.specs.RunStages.Reasons.{FilesEnd, FilesDo}
use Rattle.spatch_run.specs.RunEnds.Quiet.{says_more, first_line, kept, quieted, quiet_mode}
use Rattle.spatch_run.proofs.RunLaws.OnePath.{after_act-files}
use Rattle.spatch_run.proofs.RunEnds.QuietLines.{IsPlain, kept-about, kept-alone, kept-read, plain-fault, plain-skipped}

pub quieted-append : (xs ys : List Act) → quieted (xs ++ ys) ≡ quieted xs ++ quieted ys
quieted-append xs ys = flat_map-append kept xs ys

-- ---- lines

-- a line about a name, under `--quiet`, in which case nothing has a place
pub kept-line : (name text more : List ℕ) → IsPlain text → kept (Report (line_about name text ++ more)) ≡ Report (line_about name text ++ []) ∷ []
kept-line name text more e =
    kept-about name text more e ∙ ap (λ (x : List ℕ). Report x ∷ []) (sym (append-nil (line_about name text)))

-- no text has a place
abbrev pub no_places : TextPlaces
no_places = record { tokens = [] }

no-fault-place : (text : List ℕ) (fault : FileFault) → fault_place text no_places fault ≡ None
no-fault-place text (FileTooLong rule) = refl
no-fault-place text (Conflict rule token first second) = refl
no-fault-place text (Body rule token) = refl
no-fault-place text (TooManyWitnesses rule) = refl
no-fault-place text (TooManyEnvironments rule) = refl
no-fault-place text NoMemory = refl

no-note-place : (text : List ℕ) (note : SkipNote) → note_place text no_places note ≡ None
no-note-place text note = by note.token
  where
    by : (token : Option ℕ) → placed text (option_and_then (slice_get []) token) ≡ None
    by None = refl
    by (Some t) = refl

-- ---- texts

-- what is left of a treatment
abbrev pub hushed : Treated → Treated
hushed treated = record { acts = quieted treated.acts; tally = treated.tally }

module _ (name text : List ℕ) (places : TextPlaces) where
  hushed-fault : (fault : FileFault) → hushed (faulted name text places fault) ≡ faulted name text no_places fault
  hushed-fault fault =
      let more = further_at name (fault_place text places fault) (fault_there fault) in
      let line : kept (Report (refused_line name (fault_place text places fault) fault)) ≡ Report (refused_line name None fault) ∷ []
      = kept-line name (codes "refused: " ++ fault_text fault) more (plain-fault fault) in
      let there = no-fault-place text fault in
      λ i. record { acts = (line ∙ ap (λ p. Report (refused_line name p fault) ∷ []) (sym there)) i ++ []; tally = (faulted name text places fault).tally }

  hushed-note : (note : SkipNote) → kept (note_act name text places note) ≡ note_act name text no_places note ∷ []
  hushed-note note =
      kept-line name _ (further_at name (note_place text places note) (why_text note.why)) (plain-skipped note.reading note.item note.why)
      ∙ ap (λ p. Report (skipped_line name p note) ∷ []) (sym (no-note-place text note))

  hushed-notes : (notes : List SkipNote) → quieted (map (note_act name text places) notes) ≡ map (note_act name text no_places) notes
  hushed-notes [] = refl
  hushed-notes (note ∷ notes) = λ i. hushed-note note i ++ hushed-notes notes i

pub quieted-printing : (text : List ℕ) → quieted (printing text) ≡ printing text
quieted-printing [] = refl
quieted-printing (byte ∷ text) = refl

quieted-cond : (b : Bool) (xs ys : List Act) → quieted xs ≡ xs → quieted ys ≡ ys → quieted (cond b xs ys) ≡ cond b xs ys
quieted-cond true xs ys e f = e
quieted-cond false xs ys e f = f

quieted-shown : (mode : Mode) (patch : Patch) (name bytes : List ℕ) (s : Chained) → quieted (shown mode patch name bytes s) ≡ shown mode patch name bytes s
quieted-shown mode patch name bytes s =
    quieted-cond mode.witnesses _ _ (quieted-printing (report_of patch name s.found))
    (quieted-cond mode.check _ _ (quieted-cond (is_hit patch bytes s) _ [] refl refl)
    (quieted-cond mode.in_place [] _ refl (quieted-printing s.page.bytes)))

quieted-stored : (mode : Mode) (name bytes : List ℕ) (s : Chained) → quieted (stored_after mode name bytes s) ≡ stored_after mode name bytes s
quieted-stored mode name bytes s = quieted-cond mode.in_place _ [] (quieted-cond (same_bytes bytes s.page.bytes) [] _ refl refl) refl

module _ (patch : Patch) (name bytes : List ℕ) (places : TextPlaces) where
  hushed-treated : (mode : Mode) (end : Outcome)
      → hushed (treated_by mode patch name bytes places end) ≡ treated_by (quiet_mode mode) patch name bytes no_places end
  hushed-treated mode (Refused fault) = hushed-fault name bytes places fault
  hushed-treated mode (Done s) =
      let skipped = skipped_lines mode.unread name bytes places s in
      let left : quieted (skipped ++ shown mode patch name bytes s)
      ≡ skipped_lines mode.unread name bytes no_places s ++ shown mode patch name bytes s
      = quieted-append skipped (shown mode patch name bytes s)
      ∙ (λ i. hushed-notes name bytes places (told_notes mode.unread s) i ++ quieted-shown mode patch name bytes s i) in
      let same : quieted (skipped ++ shown mode patch name bytes s ++ stored_after mode name bytes s)
      ≡ skipped_lines mode.unread name bytes no_places s ++ shown mode patch name bytes s ++ stored_after mode name bytes s
      = quieted-append (skipped ++ shown mode patch name bytes s) (stored_after mode name bytes s)
      ∙ (λ i. left i ++ quieted-stored mode name bytes s i) in
      λ i. record { acts = same i; tally = (treated_by mode patch name bytes places (Done s)).tally }

  hushed-summed : (choice : Unread) (end : Outcome)
      → hushed (summed_by patch choice name bytes places end) ≡ summed_by patch choice name bytes no_places end
  hushed-summed choice (Refused fault) = hushed-fault name bytes places fault
  hushed-summed choice (Done s) =
      let rest = printing (summary patch.rules s.found (length s.page.bytes)) in
      let same : quieted (skipped_lines choice name bytes places s ++ rest) ≡ skipped_lines choice name bytes no_places s ++ rest
      = quieted-append (skipped_lines choice name bytes places s) rest
      ∙ (λ i. hushed-notes name bytes places (told_notes choice s) i ++ quieted-printing (summary patch.rules s.found (length s.page.bytes)) i) in
      λ i. record { acts = same i; tally = (summed_by patch choice name bytes places (Done s)).tally }

-- one line, if it has no more
hushed-alone : (name text : List ℕ) → IsPlain text → hushed (refuses (line_about name text)) ≡ refuses (line_about name text)
hushed-alone name text e = λ i. record { acts = kept-alone name text e i ++ []; tally = (refuses (line_about name text)).tally }

pub hushed-file : (holds : Option Files) (mode : Mode) (patch : Patch) (defined : List (List ℕ)) (name bytes : List ℕ) (treated : Treated)
    → IsFileTreatmentOf holds mode patch defined name bytes treated → IsFileTreatmentOf holds (quiet_mode mode) patch defined name bytes (hushed treated)
hushed-file holds mode patch defined name bytes treated (inl (inl long)) =
    inl (inl (long.0, ap hushed long.1 ∙ hushed-alone name (codes "refused: file too long") refl))
hushed-file holds mode patch defined name bytes treated (inl (inr short)) =
    let end = short.1.0 in
    let places = short.1.1.1.0 in
    inl (inr (
      short.0,
      (
        end,
        (
          short.1.1.0,
          (
            places,
            (
              short.1.1.1.1.0,
              ap hushed short.1.1.1.1.1 ∙ hushed-treated patch name bytes (told_places mode.quiet places) mode end,
            ),
          ),
        ),
      ),
    ))
hushed-file holds mode patch defined name bytes treated (inr special) =
    inr (special.0, ap hushed special.1 ∙ hushed-alone name (codes "refused: no regular file") refl)

pub hushed-sums : (tidy : Bool) (patch : Patch) (defined : List (List ℕ)) (quiet : Bool) (choice : Unread) (name bytes : List ℕ) (treated : Treated)
    → Sums tidy patch defined quiet choice name bytes treated → Sums tidy patch defined true choice name bytes (hushed treated)
hushed-sums tidy patch defined quiet choice name bytes treated sums =
    let it = sums.1 in
    let places = it.1.1.0 in
    (sums.0, (it.0, (it.1.0, (places, (it.1.1.1.0, ap hushed it.1.1.1.1 ∙ hushed-summed patch name bytes (told_places quiet places) choice it.0)))))

-- ---- notes

-- each line says more
abbrev pub AllMore : List (List ℕ) → Type 0
AllMore [] = Unit {0}
AllMore (line ∷ lines) = (says_more line ≡ true) × AllMore lines

abbrev pub AllSayMore : NoteLines → Type 0
AllSayMore notes = AllMore notes.all × AllMore notes.always

none-left : (lines : List (List ℕ)) → AllMore lines → quieted (map Report lines) ≡ []
none-left [] more = refl
none-left (line ∷ lines) more = λ i. (if more.0 i then [] else Report (first_line line) ∷ []) ++ none-left lines more.1 i

-- the same tally, and no notes
abbrev pub silent : Tally → Course
silent tally = record { tally = tally; notes = no_lines }

none-told : (course : Course) → AllSayMore course.notes → quieted (told course) ≡ told (silent course.tally)
none-told course more = by course.tally.refused course.tally.found
  where
    by : (refused found : Bool) → quieted (map Report (cond refused [] (cond found course.notes.always course.notes.all)))
        ≡ map Report (cond refused [] (cond found no_lines.always no_lines.all))
    by true found = refl
    by false true = none-left course.notes.always more.1
    by false false = none-left course.notes.all more.0

-- ---- files in turn

-- if the files are these with and without a report
after-report : (more : Bool) (line : List ℕ) (acts : List Act) (other : Observed) (files : Option Files) → (after acts other).files ≡ files
    → (after acts (after_act (Report line) other)).files ≡ files → (after ((if more then [] else Report line ∷ []) ++ acts) other).files ≡ files
after-report true line acts other files without with_it = without
after-report false line acts other files without with_it = with_it

-- what is left of acts stores the same files
after-files : (acts : List Act) (old other : Observed) → other.files ≡ old.files → (after (quieted acts) other).files ≡ (after acts old).files
after-files [] old other same = same
after-files (Load name limit ∷ acts) old other same = after-files acts old other same
after-files (Store name bytes ∷ acts) old other same =
    after-files acts (after_act (Store name bytes) old) (after_act (Store name bytes) other) (after_act-files (Store name bytes) old other same)
after-files (Print bytes ∷ acts) old other same = after-files acts (after_act (Print bytes) old) (after_act (Print bytes) other) same
after-files (Report text ∷ acts) old other same =
    after-report (says_more text) (first_line text) (quieted acts) other _
    (after-files acts (after_act (Report text) old) other same)
    (after-files acts (after_act (Report text) old) (after_act (Report (first_line text)) other) same)

pub found-same : (holds others : Option Files) (name : List ℕ) (under : Option (List ℕ)) → others ≡ holds → Found holds name under → Found others name under
found-same holds others name under same found = subst (λ (f : Option Files). Found f name under) (sym same) found

loaded : (name : List ℕ) (acts own rest : List Act) → acts ≡ Load name file_limit ∷ own ++ rest
    → quieted acts ≡ Load name file_limit ∷ quieted own ++ quieted rest
loaded name acts own rest is = ap quieted is ∙ ap (λ (x : List Act). Load name file_limit ∷ x) (quieted-append own rest)

pub files-quiet : (patch : Patch) (defined : List (List ℕ)) (mode : Mode) (names : List (List ℕ)) (old other : Observed) (course : Course)
    (acts : List Act) (end : FilesEnd) → other.files ≡ old.files → AllSayMore course.notes → FilesDo old patch defined mode names course acts end
    → FilesDo other patch defined (quiet_mode mode) names (silent course.tally) (quieted acts) end
files-quiet patch defined mode [] old other course acts end same more does = (ap quieted does.0 ∙ none-told course more, does.1)
files-quiet patch defined mode (name ∷ names) old other course acts end same more (inl gone) =
    inl (
      found-same old.files other.files name None same gone.0,
      (ap quieted gone.1.0 ∙ ap (λ (x : List Act). Load name file_limit ∷ x ++ []) (kept-read name), gone.1.1),
    )
files-quiet patch defined mode (name ∷ names) old other course acts end same more (inr some) =
    let bytes = some.0 in
    let treated = some.1.1.0 in
    let treats = hushed-file old.files mode patch defined name bytes treated some.1.1.1.0 in
    let there = subst (λ (f : Option Files). IsFileTreatmentOf f (quiet_mode mode) patch defined name bytes (hushed treated)) (sym same) treats in
    let rest = some.1.1.1.1.0 in
    let on = files-quiet patch defined mode names (after treated.acts old) (after (quieted treated.acts) other) (after_file course treated.tally) rest end
    (after-files treated.acts old other same) more some.1.1.1.1.1.1 in
    inr (
      bytes,
      (
        found-same old.files other.files name (Some bytes) same some.1.0,
        (
          hushed treated,
          (
            there,
            (
              quieted rest,
              (loaded name acts treated.acts rest some.1.1.1.1.1.0, on),
            ),
          ),
        ),
      ),
    )
