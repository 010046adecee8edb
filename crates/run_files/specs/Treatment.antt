-- The acts that result from a text under a patch, and what it adds to the tally of the run.
use Rattle.std.specs.Prelude.{ℕ, ◌≡◌, ◌⊎◌, ◌<◌, ◌≤◌, ◌&&◌, ◌||◌, Bool, true, false, not}
use Rattle.std.specs.Prelude.{List, [], ◌∷◌, ◌++◌, length, map, cond, nat_le, slice_get, codes, Option, None}
use Rattle.std.specs.List.{list_any}
use Rattle.std.specs.Option.{option_map_or}
use Rattle.c_terms.specs.Same.{same_bytes}
use Rattle.c_lexer.specs.Pieces.{most_bytes}
use Rattle.outer_io.specs.Files.{Files}
use Rattle.run_acts.specs.Acts.{Act, Store, Print, Report}
use Rattle.run_choices.specs.declared.unread.Unread.{Unread}
use Rattle.run_words.specs.declared.order.Mode.{Mode}
use Rattle.c_places.specs.declared.places.TextPlaces.{TextPlaces}
use Rattle.c_places.specs.Starts.{ArePlaces}
use Rattle.run_files.specs.RunLines.Files.{too_long_line, special_line, refused_line, skipped_line, fault_place, note_place}
use Rattle.run_files.specs.RunLines.Summary.{summary}
use Rattle.run_files.specs.RunLines.Names.{quoted_name}
use Rattle.run_files.specs.declared.tally.Tally.{Tally}
use Rattle.smpl_patch.specs.declared.pattern.Mark.{Mark}
use Rattle.smpl_patch.specs.declared.pattern.Mark.TheVariants as mark
use Rattle.smpl_patch.specs.declared.rule.Rule.{Rule}
use Rattle.smpl_patch.specs.declared.rule.Patch.{Patch}
use Rattle.smpl_patch.specs.declared.witness.RuleWitness.{RuleWitness}
use Rattle.wit_print.specs.Report.{report_of}
use Rattle.rule_chain.specs.declared.rule_run.fault.FileFault.{FileFault}
use Rattle.rule_chain.specs.declared.rule_run.state.SkipNote.{SkipNote}
use Rattle.rule_chain.specs.RuleRun.States.{Chained, told_notes}
use Rattle.rule_chain.specs.Chain.{Outcome, Done, Refused}
use Rattle.rule_chain.specs.Passed.{EndsBy}

-- the maximum number of bytes of a file
abbrev pub file_limit : ℕ
file_limit = most_bytes

-- what results from a text: acts, and what it adds to the tally
pub record Treated : Type 0 where
  pub acts : List Act
  pub tally : Tally

-- a text that isn't refused: what is output of it, whether it is hit, and whether it has a witness
abbrev pub effects : List Act → (hit found : Bool) → Treated
effects acts hit found = record { acts = acts; tally = record { refused = false; hit = hit; found = found } }

-- of a refused text nothing else is known
abbrev pub refused_tally : Tally
refused_tally = record { refused = true; hit = false; found = false }

-- a refused text leads to one line and nothing else
abbrev pub refuses : List ℕ → Treated
refuses line = record { acts = Report line ∷ []; tally = refused_tally }

-- ---- hits

abbrev pub is_star : Mark → Bool
is_star mark.Star = true
is_star mark.Context = false
is_star mark.Minus = false

-- a token of the rule has a star
abbrev pub has_star : Rule → Bool
has_star rule = list_any (λ t. is_star t.mark) rule.tokens

-- the witness is one of a rule that has a star
abbrev pub is_starred : Patch → RuleWitness → Bool
is_starred patch w = option_map_or has_star (slice_get patch.rules w.rule) false

-- A file is hit if its text differs from what was loaded, or if a witness is one of a rule that has a star.
abbrev pub is_hit : Patch → List ℕ → Chained → Bool
is_hit patch bytes s = not (same_bytes bytes s.page.bytes) || list_any (is_starred patch) s.found

-- ---- places

-- nothing has a place
abbrev pub no_places : TextPlaces
no_places = record { tokens = [] }

-- under `--quiet` nothing has a place
abbrev pub told_places : (quiet : Bool) → TextPlaces → TextPlaces
told_places quiet places = cond quiet no_places places

-- ---- acts

-- the act that prints a text, or none if the text is empty
abbrev pub printing : List ℕ → List Act
printing [] = []
printing (byte ∷ text) = Print (byte ∷ text) ∷ []

-- the act that stores a text, or none if the text is what was loaded
abbrev pub storing : List ℕ → List ℕ → List ℕ → List Act
storing name old new = cond (same_bytes old new) [] (Store name new ∷ [])

-- the line of a skipped item, by where the tokens of the loaded text begin
abbrev pub note_act : List ℕ → List ℕ → TextPlaces → SkipNote → Act
note_act name text places note = Report (skipped_line name (note_place text places note) note)

-- the lines of the skipped items that are told of, reading by reading
abbrev pub skipped_lines : Unread → List ℕ → List ℕ → TextPlaces → Chained → List Act
skipped_lines unread name text places s = map (note_act name text places) (told_notes unread s)

-- a refused text leads to the line of its fault, by where the tokens of the loaded text begin
abbrev pub faulted : List ℕ → List ℕ → TextPlaces → FileFault → Treated
faulted name text places fault = refuses (refused_line name (fault_place text places fault) fault)

-- the name of a file that is hit, on a line of its own
abbrev pub naming : List ℕ → (hit : Bool) → List Act
naming name hit = cond hit (Print (quoted_name name ++ codes "\n") ∷ []) []

-- What is printed: the report of the witnesses if it is asked for, or else the name of a file that is hit under `--check`, or
-- else the text if it isn't stored.
abbrev pub shown : Mode → Patch → List ℕ → List ℕ → Chained → List Act
shown mode patch name bytes s = cond mode.witnesses (printing (report_of patch name s.found))
    (cond mode.check (naming name (is_hit patch bytes s)) (cond mode.in_place [] (printing s.page.bytes)))

-- what is stored after that
abbrev pub stored_after : Mode → List ℕ → List ℕ → Chained → List Act
stored_after mode name bytes s = cond mode.in_place (storing name bytes s.page.bytes) []

-- ---- texts

-- what results from the outcome of the rules over a file whose tokens begin at these places
abbrev pub treated_by : Mode → Patch → List ℕ → List ℕ → TextPlaces → Outcome → Treated
treated_by mode patch name bytes places (Done s) =
    effects (skipped_lines mode.unread name bytes places s ++ shown mode patch name bytes s ++ stored_after mode name bytes s)
    (mode.check && is_hit patch bytes s) (nat_le 1 (length s.found))
treated_by mode patch name bytes places (Refused fault) = faulted name bytes places fault

-- what results from the outcome of the rules over a generated text
abbrev pub summed_by : Patch → Unread → List ℕ → List ℕ → TextPlaces → Outcome → Treated
summed_by patch unread name bytes places (Done s) =
    effects (skipped_lines unread name bytes places s ++ printing (summary patch.rules s.found (length s.page.bytes))) false (nat_le 1 (length s.found))
summed_by patch unread name bytes places (Refused fault) = faulted name bytes places fault

-- this is the treatment of the bytes of a file of this name: there are too many, or it follows from the outcome of the rules
abbrev pub IsTreatmentOf : Mode → Patch → List (List ℕ) → List ℕ → List ℕ → Treated → Type 0
IsTreatmentOf mode patch defined name bytes treated =
    ((file_limit < length bytes) × (treated ≡ refuses (too_long_line name)))
    ⊎ ((length bytes ≤ file_limit) × ((end : Outcome) × (EndsBy mode.tidy mode.unread patch.rules defined bytes end
    × ((places : TextPlaces) × (ArePlaces bytes places × (treated ≡ treated_by mode patch name bytes (told_places mode.quiet places) end))))))

-- This is the treatment of what is stored under this name, with these bytes. If the shelf doesn't reveal what it holds, it may
-- also be a pipe, a device or a socket, which is refused.
abbrev pub IsFileTreatmentOf : Option Files → Mode → Patch → List (List ℕ) → List ℕ → List ℕ → Treated → Type 0
IsFileTreatmentOf holds mode patch defined name bytes treated =
    IsTreatmentOf mode patch defined name bytes treated
    ⊎ ((holds ≡ None) × (treated ≡ refuses (special_line name)))

-- this is the treatment of a generated text, which isn't too long
abbrev pub Sums : (tidy : Bool) → Patch → List (List ℕ) → (quiet : Bool) → Unread → List ℕ → List ℕ → Treated → Type 0
Sums tidy patch defined quiet unread name bytes treated =
    (length bytes ≤ file_limit) × ((end : Outcome) × (EndsBy tidy unread patch.rules defined bytes end
    × ((places : TextPlaces) × (ArePlaces bytes places × (treated ≡ summed_by patch unread name bytes (told_places quiet places) end)))))
