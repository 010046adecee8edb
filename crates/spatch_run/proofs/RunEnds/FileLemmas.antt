-- Files in turn have acts, and their end follows from whether they are present, refused and hit.
use Rattle.std.proofs.Common.{◌≡◌, ◌<◌, ◌≤◌, ◌⊎◌, ◌||◌, ℕ, Bool, true, false, Option, Some, None, List, [], ◌∷◌, ◌++◌, length, inl, inr, refl, sym}
use Rattle.std.proofs.Common.{ap, ◌∙◌, subst, arith}
use Rattle.std.specs.Prelude.{IsSome}
use Rattle.std.specs.FinMap.{get}
use Rattle.outer_io.specs.Files.{Files}
use Rattle.smpl_patch.specs.declared.rule.Rule.{Rule}
use Rattle.smpl_patch.specs.declared.rule.Patch.{Patch}
use Rattle.run_choices.specs.declared.unread.Unread.{Unread}
use Rattle.run_choices.specs.declared.unread.Unread.TheVariants as unread
use Rattle.rule_chain.specs.Chain.{Chain, Outcome}
use Rattle.rule_chain.specs.Passed.{EndsBy}
use Rattle.run_acts.specs.Acts.{Act, Load, Report, Observed, after_act, after}
use Rattle.run_acts.specs.Lines.{cannot_read}
use Rattle.run_acts.specs.Loaded.{Found}
use Rattle.run_files.specs.RunLines.Files.{too_long_line}
use Rattle.run_words.specs.declared.order.Mode.{Mode}
use Rattle.run_files.specs.Treatment.{Treated, file_limit, IsTreatmentOf, IsFileTreatmentOf, treated_by, told_places, refuses}
use Rattle.run_files.proofs.TreatLemmas.{text_places}
use Rattle.run_files.specs.declared.tally.Tally.{Tally}
use Rattle.run_files.specs.RunStages.Stages.{Course, joined, after_file, told}
use Rattle.run_files.specs.RunStages.Reasons.{FilesEnd, AllDone, Missing, FilesDo}
use Rattle.text_laws.specs.ChainTotal.Weakly.{Weakly}
use Rattle.spatch_run.specs.RunEnds.Fates.{AllThere, NoFile, SomeFile}
use Rattle.spatch_run.proofs.RunLaws.Unique.{Found-one, not-untold, same_some}
use Rattle.spatch_run.proofs.RunLaws.OnePath.{after_act-observed}
use Rattle.spatch_run.proofs.RunLaws.Checked.{same_tally}

-- how the chain ends is how the rules end, whatever is told
pub chain_ends : (tidy : Bool) (choice : Unread) (rules : List Rule) (defined : List (List ℕ)) (bytes : List ℕ) (end : Outcome)
    → Chain tidy rules defined bytes end → EndsBy tidy choice rules defined bytes end
chain_ends tidy unread.All rules defined bytes end chain = chain
chain_ends tidy unread.Needed rules defined bytes end chain = inl chain
chain_ends tidy unread.None rules defined bytes end chain = inl chain

-- the rules have an outcome over each text
abbrev pub HaveEnds : (tidy : Bool) → List Rule → List (List ℕ) → Type 0
HaveEnds tidy rules defined = (text : List ℕ) → Weakly ((end : Outcome) × Chain tidy rules defined text end)

order : (a b : ℕ) → (a ≤ b) ⊎ (b < a)
order a b = grind arith

-- for each name, some content or none may be found
pub found_some : (holds : Option Files) (name : List ℕ) → (under : Option (List ℕ)) × Found holds name under
found_some None name = (Some [], refl)
found_some (Some files) name = (get files name, refl)

-- a shelf that reveals its files does so after acts too
told_after : (acts : List Act) (old : Observed) → IsSome old.files → IsSome (after acts old).files
told_after [] old some = some
told_after (act ∷ acts) old some = told_after acts (after_act act old) (after_act-observed act old some)

or_true : (a b : Bool) → b ≡ true → (a || b) ≡ true
or_true true b e = refl
or_true false b e = e

or_first : (a b : Bool) → a ≡ true → (a || b) ≡ true
or_first a b e = ap (λ (x : Bool). x || b) e

or_neither : (a b : Bool) → a ≡ false → b ≡ false → (a || b) ≡ false
or_neither a b e f = ap (λ (x : Bool). x || b) e ∙ f

-- what holds of a tally that was joined holds of one of the two
abbrev pub Joins : (Tally → Bool) → Type 0
Joins has = (one other : Tally) → has (joined one other) ≡ (has one || has other)

-- a text has one treatment
abbrev pub OneTreated : Type 0
OneTreated = (mode : Mode) (patch : Patch) (defined : List (List ℕ)) (name bytes : List ℕ) (one other : Treated)
    → IsTreatmentOf mode patch defined name bytes one → IsTreatmentOf mode patch defined name bytes other → one ≡ other

module _ (patch : Patch) (defined : List (List ℕ)) (mode : Mode) where
  abbrev pub Does : Observed → List (List ℕ) → Course → List Act → FilesEnd → Type 0
  Does old names course acts end = FilesDo old patch defined mode names course acts end

  -- if the shelf reveals its files, none is a pipe, a device or a socket
  treats_told : (holds : Option Files) (name bytes : List ℕ) (treated : Treated) → IsSome holds → IsFileTreatmentOf holds mode patch defined name bytes treated
      → IsTreatmentOf mode patch defined name bytes treated
  treats_told holds name bytes treated some (inl treats) = treats
  treats_told holds name bytes treated some (inr special) = absurd (not-untold holds some special.0)

  -- ---- files have acts

  module _ (ends : HaveEnds mode.tidy patch.rules defined) where
    treats_some : (name bytes : List ℕ) → Weakly ((treated : Treated) × IsTreatmentOf mode patch defined name bytes treated)
    treats_some name bytes = λ absent. elim (order (length bytes) file_limit) [
      | inr long ↦ absent (refuses (too_long_line name), inl (long, refl))
      | inl short ↦ ends bytes (λ e.
          let places = text_places bytes in
          let rules_end = chain_ends mode.tidy mode.unread patch.rules defined bytes e.0 e.1 in
          absent (
            treated_by mode patch name bytes (told_places mode.quiet places.0) e.0,
            inr (short, (e.0, (rules_end, (places.0, (places.1, refl))))),
          ))
    ]

    pub files_do : (old : Observed) (names : List (List ℕ)) (course : Course) → Weakly ((acts : List Act) × ((end : FilesEnd) × Does old names course acts end))
    files_do old [] course = λ absent. absent (told course, (AllDone course.tally, (refl, refl)))
    files_do old (name ∷ names) course = λ absent.
        let found = found_some old.files name in
        elim found.0 as (λ (under : Option (List ℕ)). Found old.files name under → ⊥) [
          | None ↦ λ none. absent (Load name file_limit ∷ Report (cannot_read name) ∷ [], (Missing name, inl (none, (refl, refl))))
          | Some bytes ↦ λ some.
              treats_some name bytes (λ t.
              files_do (after t.0.acts old) names (after_file course t.0.tally) (λ rest.
              absent (
                Load name file_limit ∷ t.0.acts ++ rest.0,
                (rest.1.0, inr (bytes, (some, (t.0, (inl t.1, (rest.0, (refl, rest.1.1))))))),
              )))
        ] found.1

  -- ---- how they end

  -- if each is present, all are processed
  pub all_done : (old : Observed) (names : List (List ℕ)) (course : Course) (acts : List Act) (end : FilesEnd) → IsSome old.files
      → Does old names course acts end → AllThere patch defined mode old names → (tally : Tally) × (end ≡ AllDone tally)
  all_done old [] course acts end observed does there = (course.tally, does.1)
  all_done old (name ∷ names) course acts end observed (inl gone) there = absurd (there.0 gone.0)
  all_done old (name ∷ names) course acts end observed (inr some) there =
      let treated = some.1.1.0 in
      let treats = treats_told old.files name some.0 treated observed some.1.1.1.0 in
      all_done (after treated.acts old) names (after_file course treated.tally) some.1.1.1.1.0 end (told_after treated.acts old observed)
      some.1.1.1.1.1.1 (there.1 some.0 treated some.1.0 treats)

  module _ (has : Tally → Bool) (joins : Joins has) where
    -- what an earlier file had
    stays : (old : Observed) (names : List (List ℕ)) (course : Course) (acts : List Act) (end : FilesEnd) (tally : Tally)
        → Does old names course acts end → end ≡ AllDone tally → has course.tally ≡ true → has tally ≡ true
    stays old [] course acts end tally does is had = sym (ap has (same_tally course.tally tally (sym does.1 ∙ is))) ∙ had
    stays old (name ∷ names) course acts end tally (inl gone) is had = let no : Missing name ≡ AllDone tally = sym gone.1.1 ∙ is in absurd (cc)
    stays old (name ∷ names) course acts end tally (inr some) is had =
        let treated = some.1.1.0 in
        stays (after treated.acts old) names (after_file course treated.tally) some.1.1.1.1.0 end tally some.1.1.1.1.1.1 is
        (joins course.tally treated.tally ∙ or_first (has course.tally) (has treated.tally) had)

    -- what no file has
    pub none_has : (old : Observed) (names : List (List ℕ)) (course : Course) (acts : List Act) (end : FilesEnd) (tally : Tally)
        → IsSome old.files → Does old names course acts end → end ≡ AllDone tally → NoFile patch defined mode has old names
        → has course.tally ≡ false → has tally ≡ false
    none_has old [] course acts end tally observed does is none had = sym (ap has (same_tally course.tally tally (sym does.1 ∙ is))) ∙ had
    none_has old (name ∷ names) course acts end tally observed (inl gone) is none had =
        let no : Missing name ≡ AllDone tally = sym gone.1.1 ∙ is in absurd (cc)
    none_has old (name ∷ names) course acts end tally observed (inr some) is none had =
        let treated = some.1.1.0 in
        let treats = treats_told old.files name some.0 treated observed some.1.1.1.0 in
        let here = none some.0 treated some.1.0 treats in
        none_has (after treated.acts old) names (after_file course treated.tally) some.1.1.1.1.0 end tally (told_after treated.acts old observed)
        some.1.1.1.1.1.1 is here.1 (joins course.tally treated.tally ∙ or_neither (has course.tally) (has treated.tally) had here.0)

    -- what some file has
    pub some_has : OneTreated → (old : Observed) (names : List (List ℕ)) (course : Course) (acts : List Act) (end : FilesEnd) (tally : Tally)
        → IsSome old.files → Does old names course acts end → end ≡ AllDone tally → SomeFile patch defined mode has old names → has tally ≡ true
    some_has one old [] course acts end tally observed does is some = absurd some
    some_has one old (name ∷ names) course acts end tally observed (inl gone) is some =
        let no : Missing name ≡ AllDone tally = sym gone.1.1 ∙ is in absurd (cc)
    some_has one old (name ∷ names) course acts end tally observed (inr did) is some =
        let treated = did.1.1.0 in
        let treats = treats_told old.files name did.0 treated observed did.1.1.1.0 in
        let bytes : did.0 ≡ some.0 =
        same_some did.0 some.0 (Found-one old.files name (Some did.0) (Some some.0) observed did.1.0 some.1.0) in
        let same : treated ≡ some.1.1.0 =
        one mode patch defined name some.0 treated some.1.1.0 (subst (λ (b : List ℕ). IsTreatmentOf mode patch defined name b treated) bytes treats)
        some.1.1.1.0 in
        let next = after_file course treated.tally in
        elim some.1.1.1.1 [
          | inl here ↦ stays (after treated.acts old) names next did.1.1.1.1.0 end tally did.1.1.1.1.1.1 is
              (joins course.tally treated.tally
              ∙ or_true (has course.tally) (has treated.tally) (ap (λ (t : Treated). has t.tally) same ∙ here))
          | inr more ↦ some_has one (after treated.acts old) names next did.1.1.1.1.0 end tally (told_after treated.acts old observed)
              did.1.1.1.1.1.1 is (subst (λ (t : Treated). SomeFile patch defined mode has (after t.acts old) names) (sym same) more)
        ]
