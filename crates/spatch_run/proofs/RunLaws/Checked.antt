-- A run whose status is 8 was asked to check files: no file is hit unless it is checked.
use Rattle.std.proofs.Common.{◌≡◌, ◌⊎◌, ◌&&◌, ◌||◌, ℕ, Bool, true, false, cond, Option, Some, None, List, [], ◌∷◌, refl, sym, ap, ◌∙◌, inl, inr}
use Rattle.std.proofs.Common.{arith}
use Rattle.outer_io.specs.Files.{Files}
use Rattle.smpl_patch.specs.declared.rule.Patch.{Patch}
use Rattle.rule_chain.specs.Chain.{Outcome, Done, Refused}
use Rattle.c_places.specs.declared.places.TextPlaces.{TextPlaces}
use Rattle.run_acts.specs.Acts.{Act, Observed, after}
use Rattle.run_choices.specs.declared.unread.Unread.{Unread}
use Rattle.run_words.specs.declared.order.Mode.{Mode}
use Rattle.run_words.specs.Orders.{OnFiles}
use Rattle.run_files.specs.declared.run_lines.notes.NoteLines.{NoteLines}
use Rattle.run_files.specs.declared.tally.Tally.{Tally}
use Rattle.run_files.specs.Treatment.{Treated, IsFileTreatmentOf, treated_by, summed_by, told_places}
use Rattle.run_files.specs.RunStages.Stages.{Course, first_course, after_file, generated_name}
use Rattle.run_files.specs.RunStages.Reasons.{PatchReady, FilesEnd, AllDone, Missing, FilesDo, Reason}
use Rattle.run_files.specs.RunStages.Reasons.PatchReady.{plain, expanded}
use Rattle.run_files.specs.RunStages.Reasons.Reason.{unasked, is_said, is_generated, no_patch, bad_patch, no_isos, bad_isos, many_forms, summed}
use Rattle.run_files.specs.RunStages.Reasons.Reason.{filed}
use Rattle.run_files.specs.RunStages.Causes.{AsksCheck}

pub or_either : (a b : Bool) → (a || b) ≡ true → (a ≡ true) ⊎ (b ≡ true)
or_either true b e = inl refl
or_either false b e = inr e

and_first : (a b : Bool) → (a && b) ≡ true → a ≡ true
and_first true b e = refl
and_first false b e = e

-- ---- one text

-- a tally without a hit has none
not_hit : (treated other : Treated) → treated ≡ other → other.tally.hit ≡ false → treated.tally.hit ≡ true → ⊥
not_hit treated other is none hit = let no : true ≡ false = sym hit ∙ ap (λ (t : Treated). t.tally.hit) is ∙ none in absurd (cc)

checked_by : (mode : Mode) (patch : Patch) (name bytes : List ℕ) (places : TextPlaces) (end : Outcome)
    → (treated_by mode patch name bytes places end).tally.hit ≡ true → mode.check ≡ true
checked_by mode patch name bytes places (Done s) hit = and_first mode.check _ hit
checked_by mode patch name bytes places (Refused fault) hit = let no : false ≡ true = hit in absurd (cc)

hit_checked : (holds : Option Files) (mode : Mode) (patch : Patch) (defined : List (List ℕ)) (name bytes : List ℕ) (treated : Treated)
    → IsFileTreatmentOf holds mode patch defined name bytes treated → treated.tally.hit ≡ true → mode.check ≡ true
hit_checked holds mode patch defined name bytes treated (inl (inl long)) hit = absurd (not_hit treated _ long.1 refl hit)
hit_checked holds mode patch defined name bytes treated (inl (inr short)) hit =
    checked_by mode patch name bytes (told_places mode.quiet short.1.1.1.0) short.1.0 (sym (ap (λ (t : Treated). t.tally.hit) short.1.1.1.1.1) ∙ hit)
hit_checked holds mode patch defined name bytes treated (inr special) hit = absurd (not_hit treated _ special.1 refl hit)

no_sum_hit : (patch : Patch) (choice : Unread) (name bytes : List ℕ) (places : TextPlaces) (end : Outcome)
    → (summed_by patch choice name bytes places end).tally.hit ≡ false
no_sum_hit patch choice name bytes places (Done s) = refl
no_sum_hit patch choice name bytes places (Refused fault) = refl

-- ---- files in turn

pub same_tally : (a b : Tally) → AllDone a ≡ AllDone b → a ≡ b
same_tally a b e = cc

-- a hit among the files is one from before, or the files are checked
pub files_checked : (patch : Patch) (defined : List (List ℕ)) (mode : Mode) (names : List (List ℕ)) (old : Observed) (course : Course)
    (acts : List Act) (end : FilesEnd) (tally : Tally) → FilesDo old patch defined mode names course acts end → end ≡ AllDone tally → tally.hit ≡ true
    → (course.tally.hit ≡ true) ⊎ (mode.check ≡ true)
files_checked patch defined mode [] old course acts end tally does is hit =
    inl (ap (λ (t : Tally). t.hit) (same_tally course.tally tally (sym does.1 ∙ is)) ∙ hit)
files_checked patch defined mode (name ∷ names) old course acts end tally (inl gone) is hit =
    let no : Missing name ≡ AllDone tally = sym gone.1.1 ∙ is in absurd (cc)
files_checked patch defined mode (name ∷ names) old course acts end tally (inr some) is hit =
    let treated = some.1.1.0 in
    let rest = files_checked patch defined mode names (after treated.acts old) (after_file course treated.tally) some.1.1.1.1.0 end tally
    some.1.1.1.1.1.1 is hit in
    elim rest [
      | inr checks ↦ inr checks
      | inl either ↦ elim (or_either course.tally.hit treated.tally.hit either) [
        | inl first ↦ inl first
        | inr here ↦ inr (hit_checked old.files mode patch defined name some.0 treated some.1.1.1.0 here)
      ]
    ]

-- ---- whole runs

-- the status at the end, by what the tally says
abbrev pub status_by : (refused hit : Bool) → ℕ
status_by refused hit = cond refused 4 (cond hit 8 0)

is_hit_at : (refused hit : Bool) → status_by refused hit ≡ 8 → hit ≡ true
is_hit_at true hit e = absurd (omega (arith, e))
is_hit_at false true e = refl
is_hit_at false false e = absurd (omega (arith, e))

ready_asks : (words : List (List ℕ)) (old : Observed) (whole : Patch) (lines : NoteLines) (defined : List (List ℕ)) (mode : Mode) (names : List (List ℕ))
    (acts : List Act) → PatchReady words old whole lines defined (OnFiles mode names) acts → mode.check ≡ true → AsksCheck words
ready_asks words old whole lines defined mode names acts (plain read) checks = record {
  patch = read.name;
  isos = None;
  defined = defined;
  mode = mode;
  names = names;
  asked = read.found.order;
  checks = checks;
}
ready_asks words old whole lines defined mode names acts (expanded patch name bytes isos found are is) checks = record {
  patch = found.read.name;
  isos = Some name;
  defined = defined;
  mode = mode;
  names = names;
  asked = found.read.found.order;
  checks = checks;
}

pub reason_checked : (words : List (List ℕ)) (old : Observed) (acts : List Act) (status : ℕ) → Reason words old acts status → status ≡ 8 → AsksCheck words
reason_checked words old acts status (unasked a b s) is = absurd (omega (arith, s, is))
reason_checked words old acts status (is_said saying a b s) is = absurd (omega (arith, s, is))
reason_checked words old acts status (is_generated seed functions a b s) is = absurd (omega (arith, s, is))
reason_checked words old acts status (no_patch name isos defined target a b s) is = absurd (omega (arith, s, is))
reason_checked words old acts status (bad_patch name bytes isos defined target fault at a b d c s) is = absurd (omega (arith, s, is))
reason_checked words old acts status (no_isos patch lines name defined target before a b s) is = absurd (omega (arith, s, is))
reason_checked words old acts status (bad_isos patch lines name bytes defined target fault before a b c s) is = absurd (omega (arith, s, is))
reason_checked words old acts status (many_forms patch lines name bytes defined target isos rule before a b c d s) is =
    absurd (omega (arith, s, is))
reason_checked words old acts status (summed patch lines defined seed functions quiet unread tidy treated before ready sums b s) is =
    let hit = is_hit_at treated.tally.refused treated.tally.hit (sym s ∙ is) in
    absurd (not_hit treated _ sums.1.1.1.1.1 (no_sum_hit patch unread generated_name _ (told_places quiet sums.1.1.1.0) sums.1.0) hit)
reason_checked words old acts status (filed patch lines defined mode names before rest (AllDone tally) ready does b s) is =
    let hit = is_hit_at tally.refused tally.hit (sym s ∙ is) in
    elim (files_checked patch defined mode names old (first_course lines) rest (AllDone tally) tally does refl hit) [
      | inl none ↦ let no : false ≡ true = none in absurd (cc)
      | inr checks ↦ ready_asks words old patch lines defined mode names before ready checks
    ]
reason_checked words old acts status (filed patch lines defined mode names before rest (Missing name) ready does b s) is =
    absurd (omega (arith, s, is))
