-- Each status has its cause.
use Rattle.std.proofs.Common.{◌≡◌, ◌⊎◌, ◌<◌, ◌≤◌, ℕ, Bool, true, false, List, refl, sym, ◌∙◌, inl, inr, subst, arith}
use Rattle.std.specs.Prelude.{IsSome}
use Rattle.outer_io.specs.Faults.{Rose}
use Rattle.run_acts.specs.Acts.{Act, Load, Store, Print, Report, Observed, after_act}
use Rattle.run_acts.specs.Breaks.{Counts, NoneRose, Fails, Breaks}
use Rattle.run_acts.specs.Lines.{cannot_read}
use Rattle.run_acts.proofs.BreaksLemmas.{not_failed}
use Rattle.run_files.specs.RunStages.Stages.{end_status}
use Rattle.run_files.specs.RunStages.Paths.{AreActs, ComesTo}
use Rattle.run_files.specs.RunStages.Promise.{EndsRightly}
use Rattle.run_files.specs.RunStages.Reasons.{Reason, FilesEnd, AllDone, Missing, files_status}
use Rattle.run_files.specs.RunStages.Reasons.Reason.{unasked, is_said, is_generated, no_patch, bad_patch, no_isos, bad_isos, many_forms, summed}
use Rattle.run_files.specs.RunStages.Reasons.Reason.{filed}
use Rattle.run_files.specs.RunStages.Causes.{DoneFor, AsksCheck, Causes}
use Rattle.spatch_run.proofs.RunLaws.Checked.{status_by, reason_checked}

-- the laws of the acts
abbrev pub ActsOne : Type 0
ActsOne =
    (words : List (List ℕ)) (old other : Observed) (acts others : List Act) (status status' : ℕ) → IsSome old.files → other.files ≡ old.files
    → AreActs words old acts status → AreActs words other others status' → (acts ≡ others) × (status ≡ status')

abbrev pub ActsWhy : Type 0
ActsWhy = (words : List (List ℕ)) (old : Observed) (acts : List Act) (status : ℕ) → AreActs words old acts status → Reason words old acts status

abbrev pub WaysAre : Type 0
WaysAre = (words : List (List ℕ)) (old : Observed) (acts : List Act) (status : ℕ) → Reason words old acts status → AreActs words old acts status

-- the statuses of whole runs
abbrev Ended : ℕ → Type 0
Ended status = (status < 6) ⊎ (status ≡ 8)

end_ended : (refused hit : Bool) → Ended (status_by refused hit)
end_ended true hit = inl (omega arith)
end_ended false true = inr refl
end_ended false false = inl (omega arith)

files_ended : (end : FilesEnd) → Ended (files_status end)
files_ended (AllDone tally) = end_ended tally.refused tally.hit
files_ended (Missing name) = inl (omega arith)

ended : (status s : ℕ) → Ended s → status ≡ s → Ended status
ended status s (inl less) is = inl (omega (arith, less, is))
ended status s (inr eight) is = inr (is ∙ eight)

reason_ended : (words : List (List ℕ)) (old : Observed) (acts : List Act) (status : ℕ) → Reason words old acts status → Ended status
reason_ended words old acts status (unasked a b s) = inl (omega (arith, s))
reason_ended words old acts status (is_said saying a b s) = inl (omega (arith, s))
reason_ended words old acts status (is_generated seed functions a b s) = inl (omega (arith, s))
reason_ended words old acts status (no_patch name isos defined target a b s) = inl (omega (arith, s))
reason_ended words old acts status (bad_patch name bytes isos defined target fault at a b d c s) = inl (omega (arith, s))
reason_ended words old acts status (no_isos patch lines name defined target before a b s) = inl (omega (arith, s))
reason_ended words old acts status (bad_isos patch lines name bytes defined target fault before a b c s) = inl (omega (arith, s))
reason_ended words old acts status (many_forms patch lines name bytes defined target isos rule before a b c d s) = inl (omega (arith, s))
reason_ended words old acts status (summed patch lines defined seed functions quiet unread tidy treated before a b c s) =
    ended status (end_status treated.tally) (end_ended treated.tally.refused treated.tally.hit) s
reason_ended words old acts status (filed patch lines defined mode names before rest end a b c s) = ended status (files_status end) (files_ended end) s

-- how a run ends
data Outcome (words : List (List ℕ)) (before now : Counts) (old new : Observed) (status : ℕ) : Type 0 where
  whole : DoneFor words old new status → Ended status → Outcome words before now old new status
  unread : (mid : Observed) (name : List ℕ) (limit : ℕ) → status ≡ 5 → ComesTo words old mid (Load name limit) → Rose before.shelf now.shelf
      → new ≡ after_act (Report (cannot_read name)) mid → Outcome words before now old new status
  failed : (mid : Observed) (act : Act) → status ≡ 6 → ComesTo words old mid act → Fails before now act mid new 6 → Outcome words before now old new status
  unfed : (act : Act) → status ≡ 7 → ComesTo words old new act → Outcome words before now old new status

broken : (words : List (List ℕ)) (before now : Counts) (old mid new : Observed) (act : Act) (status : ℕ) → ComesTo words old mid act
    → Breaks before now act mid new status → Outcome words before now old new status
broken words before now old mid new act status comes (inl none) = unfed act none.0 (subst (λ (t : Observed). ComesTo words old t act) (sym none.1) comes)
broken words before now old mid new (Load name limit) status comes (inr fails) = elim fails.1 [
  | inl five ↦ unread mid name limit five.0 comes fails.0 five.1
  | inr six ↦ failed mid (Load name limit) six.0 comes (fails.0, inr (refl, six.1, six.2))
]
broken words before now old mid new (Store name bytes) status comes (inr fails) = failed mid (Store name bytes) fails.0 comes (refl, fails.1, fails.2)
broken words before now old mid new (Print bytes) status comes (inr fails) = failed mid (Print bytes) fails.0 comes (refl, fails.1, fails.2)
broken words before now old mid new (Report line) status comes (inr fails) = failed mid (Report line) fails.0 comes (refl, fails.1, fails.2)

module _ (one : ActsOne) (why : ActsWhy) (ways : WaysAre) where
  outcome : (words : List (List ℕ)) (before now : Counts) (old new : Observed) (status : ℕ) → EndsRightly words before now old new status
      → Outcome words before now old new status
  outcome words before now old new status (inl all) =
      let reason = why words old all.acts status all.are in
      whole (record { acts = all.acts; reason = reason; observed = all.observed }) (reason_ended words old all.acts status reason)
  outcome words before now old new status (inr cut) = broken words before now old cut.0 new cut.1.0 status cut.1.1.0 cut.1.1.1

  module _ (words : List (List ℕ)) (before now : Counts) (old new : Observed) (status : ℕ) where
    whole_of : Outcome words before now old new status → (status < 5) ⊎ (status ≡ 8) → DoneFor words old new status
    whole_of (whole did few) e = did
    whole_of (unread mid name limit s c r t) (inl lt) = absurd (omega (arith, s, lt))
    whole_of (unread mid name limit s c r t) (inr is) = absurd (omega (arith, s, is))
    whole_of (failed mid act s c f) (inl lt) = absurd (omega (arith, s, lt))
    whole_of (failed mid act s c f) (inr is) = absurd (omega (arith, s, is))
    whole_of (unfed act s c) (inl lt) = absurd (omega (arith, s, lt))
    whole_of (unfed act s c) (inr is) = absurd (omega (arith, s, is))

    checked_of : Outcome words before now old new status → status ≡ 8 → AsksCheck words
    checked_of (whole did few) is = reason_checked words old did.acts status did.reason is
    checked_of (unread mid name limit s c r t) is = absurd (omega (arith, s, is))
    checked_of (failed mid act s c f) is = absurd (omega (arith, s, is))
    checked_of (unfed act s c) is = absurd (omega (arith, s, is))

    unread_of : Outcome words before now old new status → status ≡ 5 → DoneFor words old new 5
        ⊎ ((mid : Observed) × ((name : List ℕ) × ((limit : ℕ) × (ComesTo words old mid (Load name limit)
        × (Rose before.shelf now.shelf × (new ≡ after_act (Report (cannot_read name)) mid))))))
    unread_of (whole did few) is = inl (subst (λ (n : ℕ). DoneFor words old new n) is did)
    unread_of (unread mid name limit s c r t) is = inr (mid, (name, (limit, (c, (r, t)))))
    unread_of (failed mid act s c f) is = absurd (omega (arith, s, is))
    unread_of (unfed act s c) is = absurd (omega (arith, s, is))

    failed_of : Outcome words before now old new status → status ≡ 6
        → (mid : Observed) × ((act : Act) × (ComesTo words old mid act × Fails before now act mid new 6))
    failed_of (whole did (inl few)) is = absurd (omega (arith, few, is))
    failed_of (whole did (inr eight)) is = absurd (omega (arith, eight, is))
    failed_of (unread mid name limit s c r t) is = absurd (omega (arith, s, is))
    failed_of (failed mid act s c f) is = (mid, (act, (c, f)))
    failed_of (unfed act s c) is = absurd (omega (arith, s, is))

    unfed_of : Outcome words before now old new status → status ≡ 7 → (act : Act) × ComesTo words old new act
    unfed_of (whole did (inl few)) is = absurd (omega (arith, few, is))
    unfed_of (whole did (inr eight)) is = absurd (omega (arith, eight, is))
    unfed_of (unread mid name limit s c r t) is = absurd (omega (arith, s, is))
    unfed_of (failed mid act s c f) is = absurd (omega (arith, s, is))
    unfed_of (unfed act s c) is = (act, c)

    most_of : Outcome words before now old new status → status ≤ 8
    most_of (whole did (inl few)) = omega (arith, few)
    most_of (whole did (inr eight)) = omega (arith, eight)
    most_of (unread mid name limit s c r t) = omega (arith, s)
    most_of (failed mid act s c f) = omega (arith, s)
    most_of (unfed act s c) = omega (arith, s)

    must_of : EndsRightly words before now old new status → (acts : List Act) (wanted : ℕ) → IsSome old.files → Reason words old acts wanted
        → NoneRose before now → (status ≡ wanted) ⊎ (status ≡ 7)
    must_of (inl all) acts wanted some reason calm =
        inl ((one words old old all.acts acts status wanted some refl all.are (ways words old acts wanted reason)).1)
    must_of (inr cut) acts wanted some reason calm = elim cut.1.1.1 [
      | inl none ↦ inr none.0
      | inr fails ↦ absurd (not_failed before now calm cut.1.0 cut.0 new status fails)
    ]

  pub caused : (words : List (List ℕ)) (before now : Counts) (old new : Observed) (status : ℕ) → EndsRightly words before now old new status
      → Causes words before now old new status
  caused words before now old new status ends =
      let o = outcome words before now old new status ends in
      record {
        whole = whole_of words before now old new status o;
        checked = checked_of words before now old new status o;
        cannot_read = unread_of words before now old new status o;
        failed = failed_of words before now old new status o;
        no_memory = unfed_of words before now old new status o;
        must = must_of words before now old new status ends;
        at_most = most_of words before now old new status o;
      }
