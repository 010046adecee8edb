-- How a text is treated, by how many of the acts that result from it were done.
use Rattle.std.proofs.Common.{◌≡◌, ◌≤◌, ◌∙◌, ◌&&◌, true, false, not, Bool, cond, ℕ, List, length, [], ◌∷◌, ◌++◌}
use Rattle.std.proofs.Common.{None, Some, Err, refl, sym, inl, inr, map, ap, subst, codes}
use Rattle.std.specs.Prelude.{Option, nat_le}
use Rattle.std.specs.Fmt.{decimal}
use Rattle.run_choices.specs.declared.unread.Unread.{Unread}
use Rattle.run_choices.specs.declared.unread.Unread.TheVariants as unread
use Rattle.run_acts.specs.Acts.{Act, Print, Observed}
use Rattle.run_acts.specs.Breaks.{Counts, NoneFell}
use Rattle.smpl_patch.specs.declared.rule.Rule.{Rule}
use Rattle.smpl_patch.specs.declared.rule.Patch.{Patch}
use Rattle.smpl_patch.specs.declared.witness.RuleWitness.{RuleWitness}
use Rattle.wit_print.specs.Report.{report_of}
use Rattle.c_lexer.proofs.Exists.{lexes_some}
use Rattle.c_places.specs.declared.places.TextPlaces.{TextPlaces}
use Rattle.c_places.specs.Starts.{ArePlaces, token_starts}
use Rattle.rule_chain.specs.declared.rule_run.state.SkipNote.{SkipNote}
use Rattle.rule_chain.specs.declared.rule_run.fault.FileFault.{FileFault}
use Rattle.rule_chain.specs.declared.rule_run.fault.FileFault.TheVariants.{NoMemory}
use Rattle.rule_chain.specs.RuleRun.States.{Chained, told_notes}
use Rattle.rule_chain.specs.declared.state.Applied.{Applied}
use Rattle.rule_chain.specs.Chain.{Done, Refused}
use Rattle.rule_chain.specs.Passed.{EndsBy}
use Rattle.rule_chain.specs.Results.{AnswersState, IsResult}
use Rattle.run_words.specs.declared.order.Mode.{Mode}
use Rattle.run_files.specs.RunLines.Summary.{summary, rule_lines}
use Rattle.run_files.specs.RunStages.Stages.{generated_name}
use Rattle.run_files.specs.declared.tally.Tally.{Tally}
use Rattle.run_files.specs.Treatment.{faulted, refused_tally, printing, storing, naming, shown, stored_after, note_act, skipped_lines, told_places, is_hit}
use Rattle.run_files.specs.Treatment.{treated_by, summed_by, IsTreatmentOf, Sums}
use Rattle.run_files.specs.Does.{Does, Stops}
use Rattle.run_files.specs.Cuts.{TreatsAll, TreatsPart}
use Rattle.run_files.specs.Cuts.TreatsPart.{earlier, later}
use Rattle.run_files.specs.Applies.{AppliesTo, Refuses}
use Rattle.run_files.proofs.ActLemmas.{Does-then, Does-as, Stops-first, Stops-then, Stops-as, printing_after}
use Rattle.run_files.proofs.ReportLemmas.{report-bare, summary-bare}

-- ---- lines of skipped items

-- every text has places
pub text_places : (bytes : List ℕ) → (places : TextPlaces) × ArePlaces bytes places
text_places bytes =
    let cut = lexes_some bytes in
    (record { tokens = token_starts cut.0 }, (cut.0, (cut.1, refl)))

module _ (choice : Unread) (name text : List ℕ) (places : TextPlaces) where
  -- the returned notes are those of the state
  pub notes_done : (notes : List SkipNote) (s : Chained) (old mid new : Observed) → notes ≡ told_notes choice s → mid ≡ old
      → Does (map (note_act name text places) notes) mid new → Does (skipped_lines choice name text places s) old new
  notes_done notes s old mid new is same does =
      Does-as (map (note_act name text places) notes) (skipped_lines choice name text places s) old new (ap (map (note_act name text places)) is)
      (Does-then [] (map (note_act name text places) notes) old mid new (record { observed = same }) does)

  notes_stop : (notes : List SkipNote) (s : Chained) (first before now : Counts) (old mid new : Observed) (status : ℕ)
      → notes ≡ told_notes choice s → NoneFell first before → mid ≡ old → Stops (map (note_act name text places) notes) before now mid new status
      → Stops (skipped_lines choice name text places s) first now old new status
  notes_stop notes s first before now old mid new status is fell same stops =
      Stops-as (map (note_act name text places) notes) (skipped_lines choice name text places s) first now old new status
      (ap (map (note_act name text places)) is)
      (Stops-then [] (map (note_act name text places) notes) first before now old mid new status fell (record { observed = same }) stops)

-- ---- what is shown

module _ (mode : Mode) (patch : Patch) (name bytes : List ℕ) (s : Chained) where
  abbrev text_kept : List Act
  text_kept = cond mode.in_place [] (printing s.page.bytes)

  abbrev shown_by : (witnesses check : Bool) → List Act
  shown_by witnesses check = cond witnesses (printing (report_of patch name s.found)) (cond check (naming name (is_hit patch bytes s)) text_kept)

  pub shown_report : mode.witnesses ≡ true → printing (report_of patch name s.found) ≡ shown mode patch name bytes s
  shown_report is = sym (ap (λ (b : Bool). shown_by b mode.check) is)

  pub shown_name : (hit : Bool) → mode.witnesses ≡ false → mode.check ≡ true → hit ≡ (mode.check && is_hit patch bytes s)
      → naming name hit ≡ shown mode patch name bytes s
  shown_name hit unasked on is =
      ap (naming name) (is ∙ ap (λ (b : Bool). b && is_hit patch bytes s) on)
      ∙ sym (ap (λ (b : Bool). shown_by b mode.check) unasked ∙ ap (λ (b : Bool). shown_by false b) on)

  pub shown_text : mode.witnesses ≡ false → mode.check ≡ false → mode.in_place ≡ false → printing s.page.bytes ≡ shown mode patch name bytes s
  shown_text unasked off kept =
      sym (ap (λ (b : Bool). shown_by b mode.check) unasked ∙ ap (λ (b : Bool). shown_by false b) off
      ∙ ap (λ (b : Bool). cond b [] (printing s.page.bytes)) kept)

  pub shown_nothing : mode.witnesses ≡ false → mode.check ≡ false → mode.in_place ≡ true → [] ≡ shown mode patch name bytes s
  shown_nothing unasked off stored =
      sym (ap (λ (b : Bool). shown_by b mode.check) unasked ∙ ap (λ (b : Bool). shown_by false b) off
      ∙ ap (λ (b : Bool). cond b [] (printing s.page.bytes)) stored)

is_on : (b : Bool) → not b ≡ false → b ≡ true
is_on true e = refl
is_on false e = sym e

-- the text is stored if that is asked for
pub stored_after_text : (mode : Mode) (name old text : List ℕ) (s : Chained) → not mode.in_place ≡ false → s.page.bytes ≡ text
    → storing name old text ≡ stored_after mode name old s
stored_after_text mode name old text s on same =
    ap (storing name old) (sym same) ∙ sym (ap (λ (b : Bool). cond b (storing name old s.page.bytes) []) (is_on mode.in_place on))

-- neither a report nor a summary is empty
pub report_prints : (patch : Patch) (name : List ℕ) (ws : List RuleWitness) → Print (report_of patch name ws) ∷ [] ≡ printing (report_of patch name ws)
report_prints patch name ws = refl

pub summary_prints : (rules : List Rule) (ws : List RuleWitness) (bytes : ℕ) → Print (summary rules ws bytes) ∷ [] ≡ printing (summary rules ws bytes)
summary_prints rules ws bytes = sym (printing_after (rule_lines 0 rules ws ++ codes "bytes " ++ decimal bytes) (codes "\n") refl)

-- the returned witnesses are reported as those of the state
pub report_shown : (patch : Patch) (name : List ℕ) (applied : Applied) (choice : Unread) (s : Chained) → AnswersState choice applied s
    → report_of patch name applied.witnesses ≡ report_of patch name s.found
report_shown patch name applied choice s a = sym (report-bare patch name applied.witnesses) ∙ ap (report_of patch name) a.witnesses

pub summary_shown : (rules : List Rule) (applied : Applied) (choice : Unread) (s : Chained) → AnswersState choice applied s
    → summary rules applied.witnesses (length applied.bytes.items) ≡ summary rules s.found (length s.page.bytes)
summary_shown rules applied choice s a =
    sym (summary-bare rules applied.witnesses (length applied.bytes.items))
    ∙ (λ i. summary rules (a.witnesses i) (length (a.bytes i)))

-- what is made of the bytes, by whether they are refused
pub applied_some : (tidy left : Bool) (patch : Patch) (defined : List (List ℕ)) (quiet : Bool) (choice told : Unread) (name bytes : List ℕ)
    (o : Option Applied) (applied : Applied) (old new : Observed) → tidy ≡ left → choice ≡ told → o ≡ Some applied
    → AppliesTo tidy patch defined quiet choice name bytes o old new → AppliesTo left patch defined quiet told name bytes (Some applied) old new
applied_some tidy left patch defined quiet choice told name bytes o applied old new alike same is made =
    subst (λ (a : Option Applied). AppliesTo left patch defined quiet told name bytes a old new) is
    (subst (λ (b : Bool). AppliesTo b patch defined quiet told name bytes o old new) alike
    (subst (λ (u : Unread). AppliesTo tidy patch defined quiet u name bytes o old new) same made))

pub applied_none : (tidy left : Bool) (patch : Patch) (defined : List (List ℕ)) (quiet : Bool) (choice told : Unread) (name bytes : List ℕ)
    (o : Option Applied) (old new : Observed) → tidy ≡ left → choice ≡ told → ((applied : Applied) → o ≡ Some applied → ⊥)
    → AppliesTo tidy patch defined quiet choice name bytes o old new → AppliesTo left patch defined quiet told name bytes None old new
applied_none tidy left patch defined quiet choice told name bytes None old new alike same not made =
    subst (λ (b : Bool). AppliesTo b patch defined quiet told name bytes None old new) alike
    (subst (λ (u : Unread). AppliesTo tidy patch defined quiet u name bytes None old new) same made)
applied_none tidy left patch defined quiet choice told name bytes (Some applied) old new alike same not made = absurd (not applied refl)

-- a fault other than `NoMemory` is one of the rules
pub fault_ends : (tidy : Bool) (choice : Unread) (rules : List Rule) (defined : List (List ℕ)) (bytes : List ℕ) (fault : FileFault)
    → (fault ≡ NoMemory → ⊥) → IsResult tidy choice rules defined bytes (Err fault) → EndsBy tidy choice rules defined bytes (Refused fault)
fault_ends tidy choice rules defined bytes fault other (inl none) = absurd (other none)
fault_ends tidy choice rules defined bytes fault other (inr ends) = ends

-- what is known of a text that isn't refused
abbrev known : (hit found : Bool) → Tally
known hit found = record { refused = false; hit = hit; found = found }

-- ---- a file

module _ (mode : Mode) (patch : Patch) (defined : List (List ℕ)) (name bytes : List ℕ) (short : length bytes ≤ 16777216) where
  pub refused_all : (old new : Observed) → AppliesTo mode.tidy patch defined mode.quiet mode.unread name bytes None old new
      → TreatsAll (IsTreatmentOf mode patch defined name bytes) refused_tally old new
  refused_all old new is = record {
    treated = faulted name bytes (told_places mode.quiet is.1.1.0) is.0;
    treats = inr (short, (Refused is.0, (is.1.0, (is.1.1.0, (is.1.1.1.0, refl)))));
    tally_is = refl;
    does = is.1.1.1.1;
  }

  pub refused_part : (tidy : Bool) (choice : Unread) (before now : Counts) (old new : Observed) (status : ℕ)
      → tidy ≡ mode.tidy → choice ≡ mode.unread
      → TreatsPart (Refuses tidy patch defined mode.quiet choice name bytes) before now old new status
      → TreatsPart (IsTreatmentOf mode patch defined name bytes) before now old new status
  refused_part tidy choice before now old new status alike told (earlier memory same) = earlier memory same
  refused_part tidy choice before now old new status alike told (later treated is stops) =
      let ends = subst (λ (b : Bool). EndsBy b mode.unread patch.rules defined bytes (Refused is.0)) alike
      (subst (λ (u : Unread). EndsBy tidy u patch.rules defined bytes (Refused is.0)) told is.1.0) in
      later treated (inr (short, (Refused is.0, (ends, is.1.1)))) stops

  module _ (s : Chained) (ends : EndsBy mode.tidy mode.unread patch.rules defined bytes (Done s)) (found : TextPlaces) (are : ArePlaces bytes found)
      (notes : List SkipNote) (notes_are : notes ≡ told_notes mode.unread s) where
    abbrev places : TextPlaces
    places = told_places mode.quiet found

    abbrev lines : List Act
    lines = skipped_lines mode.unread name bytes places s

    abbrev texts : List Act
    texts = shown mode patch name bytes s

    treats : IsTreatmentOf mode patch defined name bytes (treated_by mode patch name bytes places (Done s))
    treats = inr (short, (Done s, (ends, (found, (are, refl)))))

    pub treated_all : (hit has : Bool) (old mid one two new : Observed) → hit ≡ (mode.check && is_hit patch bytes s) → has ≡ nat_le 1 (length s.found)
        → mid ≡ old → Does (map (note_act name bytes places) notes) mid one
        → Does (shown mode patch name bytes s) one two → Does (stored_after mode name bytes s) two new
        → TreatsAll (IsTreatmentOf mode patch defined name bytes) (record { refused = false; hit = hit; found = has }) old new
    treated_all hit has old mid one two new hit_is has_is same first second third = record {
      treated = treated_by mode patch name bytes places (Done s);
      treats = treats;
      tally_is = λ i. known (sym hit_is i) (sym has_is i);
      does = Does-then (lines ++ texts) (stored_after mode name bytes s) old two new
          (Does-then lines texts old one two (notes_done mode.unread name bytes places notes s old mid one notes_are same first) second) third;
    }

    pub stopped_in_lines : (first before now : Counts) (old mid new : Observed) (status : ℕ) → NoneFell first before → mid ≡ old
        → Stops (map (note_act name bytes places) notes) before now mid new status
        → TreatsPart (IsTreatmentOf mode patch defined name bytes) first now old new status
    stopped_in_lines first before now old mid new status fell same stops =
        later (treated_by mode patch name bytes places (Done s)) treats
        (Stops-first (lines ++ texts) (stored_after mode name bytes s) first now old new status
        (Stops-first lines texts first now old new status
        (notes_stop mode.unread name bytes places notes s first before now old mid new status notes_are fell same stops)))

    pub stopped_in_shown : (first before now : Counts) (old mid one new : Observed) (status : ℕ) → NoneFell first before → mid ≡ old
        → Does (map (note_act name bytes places) notes) mid one → Stops (shown mode patch name bytes s) before now one new status
        → TreatsPart (IsTreatmentOf mode patch defined name bytes) first now old new status
    stopped_in_shown first before now old mid one new status fell same first_lines stops =
        later (treated_by mode patch name bytes places (Done s)) treats
        (Stops-first (lines ++ texts) (stored_after mode name bytes s) first now old new status
        (Stops-then lines texts first before now old one new status fell
        (notes_done mode.unread name bytes places notes s old mid one notes_are same first_lines) stops))

    pub stopped_in_kept : (first before now : Counts) (old mid one two new : Observed) (status : ℕ) → NoneFell first before → mid ≡ old
        → Does (map (note_act name bytes places) notes) mid one → Does (shown mode patch name bytes s) one two
        → Stops (stored_after mode name bytes s) before now two new status → TreatsPart (IsTreatmentOf mode patch defined name bytes) first now old new status
    stopped_in_kept first before now old mid one two new status fell same first_lines text stops =
        later (treated_by mode patch name bytes places (Done s)) treats
        (Stops-then (lines ++ texts) (stored_after mode name bytes s) first before now old two new status fell
        (Does-then lines texts old one two (notes_done mode.unread name bytes places notes s old mid one notes_are same first_lines) text) stops)

-- ---- a generated text

module _ (tidy : Bool) (patch : Patch) (defined : List (List ℕ)) (quiet : Bool) (choice : Unread) (bytes : List ℕ)
    (short : length bytes ≤ 16777216) where
  pub sum_refused_all : (old new : Observed) → AppliesTo tidy patch defined quiet choice generated_name bytes None old new
      → TreatsAll (Sums tidy patch defined quiet choice generated_name bytes) refused_tally old new
  sum_refused_all old new is = record {
    treated = faulted generated_name bytes (told_places quiet is.1.1.0) is.0;
    treats = (short, (Refused is.0, (is.1.0, (is.1.1.0, (is.1.1.1.0, refl)))));
    tally_is = refl;
    does = is.1.1.1.1;
  }

  pub sum_refused_part : (before now : Counts) (old new : Observed) (status : ℕ)
      → TreatsPart (Refuses tidy patch defined quiet choice generated_name bytes) before now old new status
      → TreatsPart (Sums tidy patch defined quiet choice generated_name bytes) before now old new status
  sum_refused_part before now old new status (earlier memory same) = earlier memory same
  sum_refused_part before now old new status (later treated is stops) = later treated (short, (Refused is.0, (is.1.0, is.1.1))) stops

  module _ (s : Chained) (ends : EndsBy tidy choice patch.rules defined bytes (Done s)) (found : TextPlaces) (are : ArePlaces bytes found)
      (notes : List SkipNote) (notes_are : notes ≡ told_notes choice s) where
    abbrev sum_places : TextPlaces
    sum_places = told_places quiet found

    abbrev sum_lines : List Act
    sum_lines = skipped_lines choice generated_name bytes sum_places s

    abbrev sum_text : List ℕ
    sum_text = summary patch.rules s.found (length s.page.bytes)

    sums : Sums tidy patch defined quiet choice generated_name bytes (summed_by patch choice generated_name bytes sum_places (Done s))
    sums = (short, (Done s, (ends, (found, (are, refl)))))

    pub summed_all : (has : Bool) (old mid one new : Observed) → has ≡ nat_le 1 (length s.found)
        → mid ≡ old → Does (map (note_act generated_name bytes sum_places) notes) mid one
        → Does (printing sum_text) one new
        → TreatsAll (Sums tidy patch defined quiet choice generated_name bytes) (record { refused = false; hit = false; found = has }) old new
    summed_all has old mid one new has_is same first second = record {
      treated = summed_by patch choice generated_name bytes sum_places (Done s);
      treats = sums;
      tally_is = λ i. known false (sym has_is i);
      does = Does-then sum_lines (printing sum_text) old one new
          (notes_done choice generated_name bytes sum_places notes s old mid one notes_are same first) second;
    }

    pub sum_stopped_in_lines : (first before now : Counts) (old mid new : Observed) (status : ℕ) → NoneFell first before → mid ≡ old
        → Stops (map (note_act generated_name bytes sum_places) notes) before now mid new status
        → TreatsPart (Sums tidy patch defined quiet choice generated_name bytes) first now old new status
    sum_stopped_in_lines first before now old mid new status fell same stops =
        later (summed_by patch choice generated_name bytes sum_places (Done s)) sums
        (Stops-first sum_lines (printing sum_text) first now old new status
        (notes_stop choice generated_name bytes sum_places notes s first before now old mid new status notes_are fell same stops))

    pub stopped_in_summary : (first before now : Counts) (old mid one new : Observed) (status : ℕ) → NoneFell first before → mid ≡ old
        → Does (map (note_act generated_name bytes sum_places) notes) mid one → Stops (printing sum_text) before now one new status
        → TreatsPart (Sums tidy patch defined quiet choice generated_name bytes) first now old new status
    stopped_in_summary first before now old mid one new status fell same first_lines stops =
        later (summed_by patch choice generated_name bytes sum_places (Done s)) sums
        (Stops-then sum_lines (printing sum_text) first before now old one new status fell
        (notes_done choice generated_name bytes sum_places notes s old mid one notes_are same first_lines) stops)
