-- The acts of texts and files when other items that can't be read are told of.
use Rattle.std.proofs.Common.{◌≡◌, ℕ, Bool, List, [], ◌∷◌, ◌++◌, length, map, Option, None, Some, refl, sym, subst, inl, inr}
use Rattle.outer_io.specs.Files.{Files}
use Rattle.smpl_patch.specs.declared.rule.Patch.{Patch}
use Rattle.c_places.specs.declared.places.TextPlaces.{TextPlaces}
use Rattle.run_choices.specs.declared.unread.Unread.{Unread}
use Rattle.run_choices.specs.declared.unread.Unread.TheVariants as unread
use Rattle.rule_chain.specs.declared.rule_run.state.SkipNote.{SkipNote}
use Rattle.rule_chain.specs.RuleRun.States.{Chained, told_notes}
use Rattle.rule_chain.specs.Chain.{Outcome, Done, Refused, Chain}
use Rattle.rule_chain.specs.Told.{AreSome}
use Rattle.rule_chain.specs.Told.AreSome.{nothing, with_note, without_note}
use Rattle.rule_chain.proofs.ToldLemmas.{chain_some}
use Rattle.rule_chain.specs.Passed.{EndsBy}
use Rattle.run_acts.specs.Acts.{Act, Load, Report, Observed, after_act, after}
use Rattle.run_acts.specs.Loaded.{Found}
use Rattle.run_words.specs.declared.order.Mode.{Mode}
use Rattle.run_words.specs.UnreadLaws.Choices.{mode_telling}
use Rattle.run_files.specs.RunLines.Files.{note_place}
use Rattle.run_files.specs.RunLines.Summary.{summary}
use Rattle.run_files.specs.declared.tally.Tally.{Tally}
use Rattle.run_files.specs.Treatment.{Treated, IsFileTreatmentOf, Sums, treated_by, summed_by, told_places, printing, shown, stored_after, note_act}
use Rattle.run_files.specs.Treatment.{skipped_lines, file_limit}
use Rattle.run_files.specs.RunStages.Stages.{Course, after_file, told}
use Rattle.run_files.specs.RunStages.Reasons.{FilesEnd, FilesDo}
use Rattle.spatch_run.specs.RunEnds.Unread.{AreButLines}
use Rattle.spatch_run.specs.RunEnds.Unread.AreButLines.{none, both, left_out}
use Rattle.spatch_run.proofs.RunLaws.OnePath.{after_act-files}
use Rattle.spatch_run.proofs.RunEnds.FileLemmas.{chain_ends}

-- ---- acts that are the same but for lines

pub but-refl : (acts : List Act) → AreButLines acts acts
but-refl [] = none
but-refl (act ∷ acts) = both act acts acts (but-refl acts)

pub but-as : (acts others acts' others' : List Act) → acts ≡ acts' → others ≡ others' → AreButLines acts' others' → AreButLines acts others
but-as acts others acts' others' e f but =
    subst (λ (x : List Act). AreButLines x others) (sym e) (subst (λ (x : List Act). AreButLines acts' x) (sym f) but)

pub but-append : (acts others more more' : List Act) → AreButLines acts others → AreButLines more more' → AreButLines (acts ++ more) (others ++ more')
but-append _ _ more more' none rest = rest
but-append _ _ more more' (both act acts others but) rest = both act (acts ++ more) (others ++ more') (but-append acts others more more' but rest)
but-append _ _ more more' (left_out name place note acts others but) rest =
    left_out name place note (acts ++ more) (others ++ more') (but-append acts others more more' but rest)

-- they store the same files
after-but : (acts others : List Act) → AreButLines acts others → (old other : Observed) → other.files ≡ old.files
    → (after others other).files ≡ (after acts old).files
after-but _ _ none old other same = same
after-but _ _ (both act acts others but) old other same =
    after-but acts others but (after_act act old) (after_act act other) (after_act-files act old other same)
after-but _ _ (left_out name place note acts others but) old other same = after-but acts others but (after_act (Report _) old) other same

-- ---- texts

module _ (name text : List ℕ) (places : TextPlaces) where
  -- the lines of some notes
  some-lines : (notes others : List SkipNote) → AreSome others notes
      → AreButLines (map (note_act name text places) notes) (map (note_act name text places) others)
  some-lines _ _ nothing = none
  some-lines _ _ (with_note note others notes are) = both (note_act name text places note) _ _ (some-lines notes others are)
  some-lines _ _ (without_note note others notes are) = left_out name (note_place text places note) note _ _ (some-lines notes others are)

-- the acts differ only in lines, and the tally is the same
pub record TellsOther (one other : Treated) : Type 0 where
  pub tally : one.tally ≡ other.tally
  pub acts : AreButLines one.acts other.acts

-- of what ends so, the notes that are told by one choice are some of those that are told by another
abbrev TellsSome : Unread → Unread → Outcome → Type 0
TellsSome told choice end = (s : Chained) → end ≡ Done s → AreSome (told_notes told s) (told_notes choice s)

module _ (told : Unread) (patch : Patch) (name bytes : List ℕ) (places : TextPlaces) where
  treated-other : (mode : Mode) (end : Outcome) → TellsSome told mode.unread end
      → TellsOther (treated_by mode patch name bytes places end) (treated_by (mode_telling told mode) patch name bytes places end)
  treated-other mode (Refused fault) part = record { tally = refl; acts = but-refl _ }
  treated-other mode (Done s) part =
      let texts = shown mode patch name bytes s in
      let kept = stored_after mode name bytes s in
      let one = skipped_lines mode.unread name bytes places s in
      let two = skipped_lines told name bytes places s in record {
        tally = refl;
        acts = but-append (one ++ texts) (two ++ texts) kept kept (but-append one two texts texts
            (some-lines name bytes places (told_notes mode.unread s) (told_notes told s) (part s refl)) (but-refl texts)) (but-refl kept);
      }

  summed-other : (choice : Unread) (end : Outcome) → TellsSome told choice end
      → TellsOther (summed_by patch choice name bytes places end) (summed_by patch told name bytes places end)
  summed-other choice (Refused fault) part = record { tally = refl; acts = but-refl _ }
  summed-other choice (Done s) part =
      let text = printing (summary patch.rules s.found (length s.page.bytes)) in record {
        tally = refl;
        acts = but-append (skipped_lines choice name bytes places s) (skipped_lines told name bytes places s) text text
            (some-lines name bytes places (told_notes choice s) (told_notes told s) (part s refl)) (but-refl text);
      }

as-treated : (one two other : Treated) → one ≡ two → TellsOther two other → TellsOther one other
as-treated one two other is tells = subst (λ (t : Treated). TellsOther t other) (sym is) tells

module _ (told : Unread) (patch : Patch) (defined : List (List ℕ)) where
  -- what is told of all is told of these
  ends-other : (tidy : Bool) (choice : Unread) (bytes : List ℕ) (end : Outcome) → choice ≡ unread.All
      → EndsBy tidy choice patch.rules defined bytes end → EndsBy tidy told patch.rules defined bytes end
  ends-other tidy choice bytes end all ends =
      chain_ends tidy told patch.rules defined bytes end (subst (λ (u : Unread). EndsBy tidy u patch.rules defined bytes end) all ends)

  -- and its notes are some of all
  tells-some : (tidy : Bool) (choice : Unread) (bytes : List ℕ) (end : Outcome) → choice ≡ unread.All
      → EndsBy tidy choice patch.rules defined bytes end → TellsSome told choice end
  tells-some tidy choice bytes end all ends s is =
      subst (λ (u : Unread). AreSome (told_notes told s) (told_notes u s)) (sym all)
      (chain_some tidy told patch.rules defined bytes s (subst (λ (e : Outcome). Chain tidy patch.rules defined bytes e) is
      (subst (λ (u : Unread). EndsBy tidy u patch.rules defined bytes end) all ends)))

  file-other : (holds : Option Files) (mode : Mode) (name bytes : List ℕ) (treated : Treated) → mode.unread ≡ unread.All
      → IsFileTreatmentOf holds mode patch defined name bytes treated
      → (other : Treated) × (IsFileTreatmentOf holds (mode_telling told mode) patch defined name bytes other × TellsOther treated other)
  file-other holds mode name bytes treated all (inl (inl long)) =
      (treated, (inl (inl long), record { tally = refl; acts = but-refl treated.acts }))
  file-other holds mode name bytes treated all (inl (inr short)) =
      let end = short.1.0 in
      let found = short.1.1.1 in
      let places = told_places mode.quiet found.0 in
      let other = treated_by (mode_telling told mode) patch name bytes places end in (
        other,
        (
          inl (inr (short.0, (end, (ends-other mode.tidy mode.unread bytes end all short.1.1.0, (found.0, (found.1.0, refl)))))),
          as-treated treated _ other found.1.1 (treated-other told patch name bytes places mode end
              (tells-some mode.tidy mode.unread bytes end all short.1.1.0)),
        ),
      )
  file-other holds mode name bytes treated all (inr special) =
      (treated, (inr special, record { tally = refl; acts = but-refl treated.acts }))

  pub sums-other : (tidy quiet : Bool) (choice : Unread) (name bytes : List ℕ) (treated : Treated) → choice ≡ unread.All
      → Sums tidy patch defined quiet choice name bytes treated
      → (other : Treated) × (Sums tidy patch defined quiet told name bytes other × TellsOther treated other)
  sums-other tidy quiet choice name bytes treated all sums =
      let end = sums.1.0 in
      let found = sums.1.1.1 in
      let places = told_places quiet found.0 in
      let other = summed_by patch told name bytes places end in (
        other,
        (
          (sums.0, (end, (ends-other tidy choice bytes end all sums.1.1.0, (found.0, (found.1.0, refl))))),
          as-treated treated _ other found.1.1 (summed-other told patch name bytes places choice end
              (tells-some tidy choice bytes end all sums.1.1.0)),
        ),
      )

  -- ---- files in turn

  pub files-other : (mode : Mode) → mode.unread ≡ unread.All → (names : List (List ℕ)) (old other : Observed) (course : Course) (acts : List Act)
      (end : FilesEnd) → other.files ≡ old.files → FilesDo old patch defined mode names course acts end
      → (left : List Act) × (FilesDo other patch defined (mode_telling told mode) names course left end × AreButLines acts left)
  files-other mode all [] old other course acts end same does = (acts, (does, but-refl acts))
  files-other mode all (name ∷ names) old other course acts end same (inl gone) =
      (acts, (inl (subst (λ (f : Option Files). Found f name None) (sym same) gone.0, gone.1), but-refl acts))
  files-other mode all (name ∷ names) old other course acts end same (inr some) =
      let bytes = some.0 in
      let treated = some.1.1.0 in
      let there = file-other old.files mode name bytes treated all some.1.1.1.0 in
      let it = there.0 in
      let tells = there.1.1 in
      let rest = some.1.1.1.1.0 in
      let on = files-other mode all names (after treated.acts old) (after it.acts other) (after_file course treated.tally) rest end
      (after-but treated.acts it.acts tells.acts old other same) some.1.1.1.1.1.1 in
      let mode' = mode_telling told mode in
      let left = on.0 in
      let acts' = Load name file_limit ∷ it.acts ++ left in
      let next = subst (λ (t : Tally). FilesDo (after it.acts other) patch defined mode' names (after_file course t) left end) tells.tally on.1.0 in
      let here = subst (λ (f : Option Files). IsFileTreatmentOf f mode' patch defined name bytes it) (sym same) there.1.0 in (
        acts',
        (
          inr (bytes, (subst (λ (f : Option Files). Found f name (Some bytes)) (sym same) some.1.0, (it, (here, (left, (refl, next)))))),
          but-as acts acts' _ acts' some.1.1.1.1.1.0 refl
              (both (Load name file_limit) (treated.acts ++ rest) (it.acts ++ left) (but-append treated.acts it.acts rest left tells.acts on.1.1)),
        ),
      )
