-- What a patch makes of the bytes of a file: a result, or a refusal that is reported.
use Rattle.std.specs.Prelude.{ℕ, ◌≡◌, Bool, List, [], ◌∷◌, Option, Some, None}
use Rattle.run_acts.specs.Acts.{Report, Observed}
use Rattle.run_choices.specs.declared.unread.Unread.{Unread}
use Rattle.smpl_patch.specs.declared.rule.Patch.{Patch}
use Rattle.rule_chain.specs.declared.rule_run.fault.FileFault.{FileFault}
use Rattle.rule_chain.specs.RuleRun.States.{Chained}
use Rattle.rule_chain.specs.declared.state.Applied.{Applied}
use Rattle.rule_chain.specs.Chain.{Done, Refused}
use Rattle.rule_chain.specs.Passed.{EndsBy}
use Rattle.rule_chain.specs.Results.{AnswersState}
use Rattle.c_places.specs.declared.places.TextPlaces.{TextPlaces}
use Rattle.c_places.specs.Starts.{ArePlaces}
use Rattle.run_files.specs.RunLines.Files.{refused_line, fault_place}
use Rattle.run_files.specs.Treatment.{Treated, faulted, told_places}
use Rattle.run_files.specs.Does.{Does}

-- the bytes are refused under the patch, and this is their treatment
abbrev pub Refuses : (tidy : Bool) → Patch → List (List ℕ) → (quiet : Bool) → Unread → List ℕ → List ℕ → Treated → Type 0
Refuses tidy patch defined quiet unread name bytes treated =
    (fault : FileFault) × (EndsBy tidy unread patch.rules defined bytes (Refused fault)
    × ((places : TextPlaces) × (ArePlaces bytes places × (treated ≡ faulted name bytes (told_places quiet places) fault))))

-- the last state is returned, and nothing is output; or the text is refused, and its line is reported
abbrev pub AppliesTo : (tidy : Bool) → Patch → List (List ℕ) → (quiet : Bool) → Unread → List ℕ → List ℕ → Option Applied → Observed → Observed → Type 0
AppliesTo tidy patch defined quiet unread name bytes (Some applied) old new =
    (s : Chained) × (EndsBy tidy unread patch.rules defined bytes (Done s) × (AnswersState unread applied s × (new ≡ old)))
AppliesTo tidy patch defined quiet unread name bytes None old new =
    (fault : FileFault) × (EndsBy tidy unread patch.rules defined bytes (Refused fault)
    × ((places : TextPlaces) × (ArePlaces bytes places
    × Does (Report (refused_line name (fault_place bytes (told_places quiet places) fault) fault) ∷ []) old new)))
