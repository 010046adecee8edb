-- The status of a run over files that are present.
use Rattle.std.proofs.Common.{◌≡◌, ◌⊎◌, ℕ, Bool, true, false, List, ◌++◌, inl, inr, refl, sym, ap, ◌∙◌}
use Rattle.std.specs.Prelude.{IsSome}
use Rattle.smpl_patch.specs.declared.rule.Patch.{Patch}
use Rattle.run_acts.specs.Acts.{Act, Observed}
use Rattle.run_acts.specs.Breaks.{Counts, NoneRose}
use Rattle.run_acts.proofs.BreaksLemmas.{not_failed}
use Rattle.run_words.specs.declared.order.Mode.{Mode}
use Rattle.run_words.specs.Orders.{OnFiles}
use Rattle.run_files.specs.declared.run_lines.notes.NoteLines.{NoteLines}
use Rattle.run_files.specs.declared.tally.Tally.{Tally}
use Rattle.run_files.specs.RunStages.Stages.{first_course, end_status}
use Rattle.run_files.specs.RunStages.Paths.{AreActs}
use Rattle.run_files.specs.RunStages.Promise.{EndsRightly}
use Rattle.run_files.specs.RunStages.Reasons.{PatchReady, FilesDo, FilesEnd, AllDone, files_status}
use Rattle.spatch_run.specs.RunEnds.Fates.{AllThere, NoneRefused, SomeRefused, NoneHit, SomeHit}
use Rattle.spatch_run.proofs.RunLaws.Checked.{status_by, files_checked}
use Rattle.spatch_run.proofs.RunEnds.FileLemmas.{Does, Joins, OneTreated, all_done, none_has, some_has}

hit_or_not : (b : Bool) → (b ≡ true → ⊥) → b ≡ false
hit_or_not true never = absurd (never refl)
hit_or_not false never = refl

end_as : (tally : Tally) (refused hit : Bool) → tally.refused ≡ refused → tally.hit ≡ hit → end_status tally ≡ status_by refused hit
end_as tally refused hit e f = λ i. status_by (e i) (f i)

refused_joins : Joins (λ tally. tally.refused)
refused_joins one other = refl

hit_joins : Joins (λ tally. tally.hit)
hit_joins one other = refl

-- a whole run goes on with the files
abbrev pub FilesLaw : Type 0
FilesLaw =
    (words : List (List ℕ)) (old : Observed) (patch : Patch) (lines : NoteLines) (defined : List (List ℕ)) (mode : Mode) (names : List (List ℕ))
    (before acts : List Act) (status : ℕ) → IsSome old.files → PatchReady words old patch lines defined (OnFiles mode names) before
    → AreActs words old acts status
    → (rest : List Act) × ((end : FilesEnd) × (FilesDo old patch defined mode names (first_course lines) rest end
    × ((acts ≡ before ++ rest) × (status ≡ files_status end))))

module _ (files_law : FilesLaw) (words : List (List ℕ)) (before now : Counts) (old new : Observed) (status : ℕ) (patch : Patch)
    (lines : NoteLines) (defined : List (List ℕ)) (mode : Mode) (names : List (List ℕ)) (acts : List Act) (some : IsSome old.files)
    (calm : NoneRose before now) (ends : EndsRightly words before now old new status)
    (ready : PatchReady words old patch lines defined (OnFiles mode names) acts) (there : AllThere patch defined mode old names) where
  -- the files end with this tally
  abbrev Tallied : List Act → FilesEnd → Tally → Type 0
  Tallied rest end tally = Does patch defined mode old names (first_course lines) rest end × (end ≡ AllDone tally)

  -- a run breaks if memory runs out, or else does all its acts
  by_end : (wanted : ℕ) → ((rest : List Act) (end : FilesEnd) (tally : Tally) → Tallied rest end tally → end_status tally ≡ wanted)
      → (status ≡ wanted) ⊎ (status ≡ 7)
  by_end wanted ends_so = elim ends [
    | inl all ↦
        let went = files_law words old patch lines defined mode names acts all.acts status some ready all.are in
        let done_with = all_done patch defined mode old names (first_course lines) went.0 went.1.0 some went.1.1.0 there in
        inl (went.1.1.1.1 ∙ ap files_status done_with.1 ∙ ends_so went.0 went.1.0 done_with.0 (went.1.1.0, done_with.1))
    | inr cut ↦ elim cut.1.1.1 [
      | inl none ↦ inr none.0
      | inr fails ↦ absurd (not_failed before now calm cut.1.0 cut.0 new status fails)
    ]
  ]

  none_refused : (rest : List Act) (end : FilesEnd) (tally : Tally) → Tallied rest end tally → NoneRefused patch defined mode old names
      → tally.refused ≡ false
  none_refused rest end tally does none =
      none_has patch defined mode (λ t. t.refused) refused_joins old names (first_course lines) rest end tally some does.0 does.1 none refl

  none_hit : (rest : List Act) (end : FilesEnd) (tally : Tally) → Tallied rest end tally
      → (mode.check ≡ true → NoneHit patch defined mode old names) → tally.hit ≡ false
  none_hit rest end tally does none = hit_or_not tally.hit
      (λ hit. elim (files_checked patch defined mode names old (first_course lines) rest end tally does.0 does.1 hit) [
        | inl had ↦ let e : false ≡ true = had in absurd (cc)
        | inr checks ↦
            let not = none_has patch defined mode (λ t. t.hit) hit_joins old names (first_course lines) rest end tally some does.0 does.1 (none checks)
            refl in
            let e : true ≡ false = sym hit ∙ not in absurd (cc)
      ])

  pub is_fine : NoneRefused patch defined mode old names → (mode.check ≡ true → NoneHit patch defined mode old names)
      → (status ≡ 0) ⊎ (status ≡ 7)
  is_fine none unhit = by_end 0 (λ rest end tally does.
      end_as tally false false (none_refused rest end tally does none) (none_hit rest end tally does unhit))

  pub is_found : OneTreated → NoneRefused patch defined mode old names → SomeHit patch defined mode old names → (status ≡ 8) ⊎ (status ≡ 7)
  is_found one none some_hit = by_end 8 (λ rest end tally does.
      end_as tally false true (none_refused rest end tally does none)
      (some_has patch defined mode (λ t. t.hit) hit_joins one old names (first_course lines) rest end tally some does.0 does.1 some_hit))

  pub is_refused : OneTreated → SomeRefused patch defined mode old names → (status ≡ 4) ⊎ (status ≡ 7)
  is_refused one refused = by_end 4 (λ rest end tally does.
      end_as tally true tally.hit
      (some_has patch defined mode (λ t. t.refused) refused_joins one old names (first_course lines) rest end tally some does.0 does.1 refused) refl)
