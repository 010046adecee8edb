-- What follows the rules over one reading.
use Rattle.std.proofs.Common.{◌≡◌, ◌<◌, ◌≤◌, ◌+◌, ◌⊎◌, ℕ, Bool, true, None, Some, refl, sym, ap, ◌∙◌, subst, inl, inr}
use Rattle.std.proofs.Common.{zero, suc, arith, add-one}
use Rattle.std.proofs.Common.{List, [], ◌∷◌, ◌++◌, length, drop}
use Rattle.std.proofs.Math.ListN.{drop_of_length-le}
use Rattle.std.specs.Prelude.{All, Option}
use Rattle.std.proofs.lemmas.List.{append-nil}
use Rattle.run_choices.specs.declared.unread.Unread.{Unread}
use Rattle.run_choices.specs.declared.unread.Unread.TheVariants as unread
use Rattle.cpp_lines.specs.declared.reading.Item.{Item}
use Rattle.c_file.specs.File.{FileItems}
use Rattle.c_file.specs.Reads.{Reads}
use Rattle.c_lexer.specs.Pieces.{TextPiece}
use Rattle.c_lexer.specs.Ids.{ids_of}
use Rattle.c_lexer.specs.Lexes.{Lexes}
use Rattle.smpl_patch.specs.declared.rule.Rule.{Rule}
use Rattle.rule_chain.specs.declared.rule_edits.texts.NewText.{NewText}
use Rattle.rule_chain.specs.RuleEdits.Pages.{Page, page_in}
use Rattle.rule_chain.specs.declared.rule_run.fault.FileFault.{FileFault}
use Rattle.rule_chain.specs.declared.rule_run.fault.FileFault.TheVariants.{NoMemory}
use Rattle.rule_chain.specs.declared.rule_run.state.FileState.{FileState}
use Rattle.rule_chain.specs.declared.rule_run.state.SkipNote.{SkipNote}
use Rattle.rule_chain.specs.RuleRun.Notes.{notes_on}
use Rattle.rule_chain.specs.RuleRun.Needed.{may_match, needed_on}
use Rattle.rule_chain.specs.RuleRun.States.{Chained, IsCut, ReadsAgain, first_state, needed_notes, told_notes}
use Rattle.rule_chain.specs.RuleRun.OneRule.{MayRead}
use Rattle.rule_chain.specs.RuleRun.Outcomes.{AreFindingsOf, IsAtReading}
use Rattle.rule_chain.specs.declared.state.Applied.{Applied}
use Rattle.rule_chain.specs.declared.state.Reached.{Reached}
use Rattle.rule_chain.specs.declared.state.Step.{Step}
use Rattle.rule_chain.specs.declared.state.Step.TheVariants.{Ended, On}
use Rattle.rule_chain.specs.Chain.{Outcome, Done, Refused, Runs, Chain, is_followed}
use Rattle.rule_chain.specs.Results.{AnswersState}
use Rattle.rule_chain.specs.Passed.{LacksWord, IsUntouched, EndsBy}
use Rattle.rule_chain.specs.Stops.{AreNumbered, LeadsOn, told_before, told_first, told_last, IsAt, IsLeft, GoesOn, Steps}
use Rattle.rule_chain.proofs.NoteLemmas.{none_where}
use Rattle.rule_chain.proofs.StopLemmas.{back_to, Leading, Refusing}

pub followed : (rules : List Rule) (i : ℕ) → i < length rules → is_followed (drop i rules) ≡ true
followed [] i lt = absurd (omega arith)
followed (rule ∷ rules) zero lt = refl
followed (rule ∷ rules) (suc i) lt = followed rules i (omega arith)

-- no rule is left
pub none_left : (tidy : Bool) (defined : List (List ℕ)) (rules : List Rule) (done : ℕ) (s : Chained) → length rules ≤ done
    → Runs tidy defined done (drop done rules) s (Done s)
none_left tidy defined rules done s all =
    subst (λ (x : List Rule). Runs tidy defined done x s (Done s)) (sym (drop_of_length-le rules all)) refl

-- ---- the notes that are told

-- if no rule ran, no item is needed
none_needed : (loaded reading : ℕ) (file : FileItems) → needed_on [] loaded reading file ≡ []
none_needed loaded reading file = none_where (λ span. may_match file span []) (λ span. refl) loaded reading file 0 file.items

-- all are told of a state over whose reading no rule ran
told_at_first : (choice : Unread) (r : Reached) (s : Chained) → IsAt choice r s → told_notes choice s ≡ r.skipped
told_at_first unread.All r s at = at.skipped
told_at_first unread.Needed r s at =
    let file : FileItems = record { pieces = s.pieces; shown = s.needed.shown; items = s.items } in
    (λ i. s.needed.earlier ++ needed_on (at.none_ran i) s.loaded s.reading file)
    ∙ ap (λ (notes : List SkipNote). s.needed.earlier ++ notes) (none_needed s.loaded s.reading file)
    ∙ append-nil s.needed.earlier ∙ at.skipped
told_at_first unread.None r s at = at.skipped

-- those that are told of the first reading as it is read
pub first_told : (choice : Unread) (pieces : List TextPiece) (shown : List ℕ) (items : List Item)
    → told_before choice (first_state pieces shown items)
    ≡ told_first choice (length (ids_of pieces)) 0 (record { pieces = pieces; shown = shown; items = items })
first_told unread.All pieces shown items = refl
first_told unread.Needed pieces shown items = refl
first_told unread.None pieces shown items = refl

-- those that are told when a text is read again
module _ (s : Chained) (pieces : List TextPiece) (shown : List ℕ) (items : List Item) where
  abbrev again : Chained
  again = record s {
    reading = suc s.reading;
    pieces = pieces;
    items = items;
    skipped = s.skipped ++ notes_on s.loaded (suc s.reading) (record { pieces = pieces; shown = shown; items = items });
    needed = record { shown = shown; ran = []; earlier = needed_notes s };
  }

  told_again : (choice : Unread) → told_before choice again
      ≡ told_notes choice s ++ told_first choice s.loaded (suc s.reading) (record { pieces = pieces; shown = shown; items = items })
  told_again unread.All = refl
  told_again unread.Needed = sym (append-nil (needed_notes s))
  told_again unread.None = refl

-- those that are told once rules ran over a reading, by what stays the same
told_by : (choice : Unread) (r : Reached) (s left : Chained) → IsAt choice r s → (ran : List Rule) → left.skipped ≡ s.skipped
    → left.needed ≡ record s.needed { ran = s.needed.ran ++ ran } → left.loaded ≡ r.loaded → left.reading ≡ r.reading
    → left.pieces ≡ r.file.pieces → left.items ≡ r.file.items
    → told_notes choice left ≡ r.skipped ++ told_last choice ran r.loaded r.reading r.file
told_by unread.All r s left at ran skipped needed loaded reading pieces items = skipped ∙ at.skipped ∙ sym (append-nil r.skipped)
told_by unread.Needed r s left at ran skipped needed loaded reading pieces items =
    let now : left.needed ≡ record { shown = r.file.shown; ran = ran; earlier = r.skipped } =
    needed ∙ (λ i. record { shown = at.shown i; ran = at.none_ran i ++ ran; earlier = at.skipped i }) in
    (λ i. (now i).earlier ++ needed_on (now i).ran (loaded i) (reading i) (record { pieces = pieces i; shown = (now i).shown; items = items i }))
told_by unread.None r s left at ran skipped needed loaded reading pieces items = at.skipped ∙ sym (append-nil r.skipped)

module _ (choice : Unread) (findings : FileState) (text : NewText) (reading loaded : ℕ) (skipped : List SkipNote) (file : FileItems) (s : Chained)
    (left : IsLeft choice findings text reading loaded skipped s) (cut : IsCut (page_in text) file.pieces) (reads : Reads file.pieces file.items)
    (shown : reads.0 ≡ file.shown) where
  -- the text is read again
  read_state : Chained
  read_state = record s {
    reading = suc s.reading;
    pieces = file.pieces;
    items = file.items;
    skipped = s.skipped ++ notes_on s.loaded (suc s.reading) (record { pieces = file.pieces; shown = reads.0; items = file.items });
    needed = record { shown = reads.0; ran = []; earlier = needed_notes s };
  }

  reads_again : ReadsAgain s read_state
  unfolding read_state
  reads_again = record {
    pieces = file.pieces;
    cut = subst (λ (p : Page). IsCut p file.pieces) (sym left.page) cut;
    items = file.items;
    reads = reads;
    is = refl;
  }

  at_reading : IsAtReading file text.next read_state
  unfolding read_state
  at_reading = record {
    page = left.page ∙ (λ i. record { bytes = sym cut.text i; ids = sym cut.ids i; next = text.next });
    pieces = refl;
    items = refl;
  }

  pub read_on : (rules : List Rule) (done : ℕ) (now : List SkipNote) → done < length rules → now ≡ skipped ++ told_first choice loaded (reading + 1) file
      → GoesOn choice rules done s (On (record {
        bytes = text.bytes;
        file = file;
        next = text.next;
        reading = reading + 1;
        findings = findings;
        loaded = loaded;
        skipped = now;
        done = done;
      }))
  unfolding read_state
  read_on rules done now lt notes =
      let one : suc s.reading ≡ reading + 1 = ap suc left.reading_is ∙ sym (add-one reading) in (
        read_state,
        (
          subst (λ (b : Bool). MayRead b s read_state) (sym (followed rules done lt)) reads_again,
          (
            record {
              findings = record {
                seen = record { had_is = left.findings_are.seen.had_is; file_envs_is = left.findings_are.seen.file_envs_is };
                found_is = left.findings_are.found_is;
              };
              at = at_reading;
              bytes = sym (ap (λ (p : Page). p.bytes) left.page);
              reading = one;
              loaded = left.loaded_is;
              skipped = told_again s file.pieces reads.0 file.items choice ∙ (λ i. left.skipped_is i
                  ++ told_first choice (left.loaded_is i) (one i) (record { pieces = file.pieces; shown = shown i; items = file.items })) ∙ sym notes;
              shown = shown;
              none_ran = refl;
            },
            refl,
          ),
        ),
      )

-- these notes are told once it is known that the rules with these numbers ran
abbrev pub AreTold : Unread → List Rule → Reached → List ℕ → List SkipNote → Type 0
AreTold choice rules r ran now =
    (ran_rules : List Rule) → AreNumbered rules ran_rules ran → now ≡ r.skipped ++ told_last choice ran_rules r.loaded r.reading r.file

-- numbers that are read as a slice
pub are_told : (choice : Unread) (rules : List Rule) (r : Reached) (ran slice : List ℕ) (now : List SkipNote) → slice ≡ ran
    → AreTold choice rules r slice now → AreTold choice rules r ran now
are_told choice rules r ran slice now same told = subst (λ (xs : List ℕ). AreTold choice rules r xs now) same told

module _ (tidy : Bool) (choice : Unread) (defined : List (List ℕ)) (rules : List Rule) (from done : ℕ) (s : Chained) (findings : FileState) (ran : List ℕ) where
  pub ended : (on : LeadsOn tidy defined rules from s done findings None ran) → length rules ≤ done → (applied : Applied)
      → AnswersState choice applied on.state → Steps tidy choice defined rules from s (Ended applied)
  ended on all applied answers =
      (on.state, (back_to tidy defined rules from done s findings ran on (Done on.state) (none_left tidy defined rules done on.state all), answers))

  pub went_on : (text : NewText) (on : LeadsOn tidy defined rules from s done findings (Some text) ran) (st : Step)
      → GoesOn choice rules done on.state st → Steps tidy choice defined rules from s st
  went_on text on (Ended applied) goes =
      let all : length rules ≤ done = goes.0 in (
        on.state,
        (
          on.back on.state (Done on.state)
              (subst (λ (x : List Rule). MayRead (is_followed x) on.state on.state) (sym (drop_of_length-le rules all)) refl)
              (none_left tidy defined rules done on.state all),
          goes.1,
        ),
      )
  went_on text on (On r) goes = (
    goes.0,
    (
      goes.1.1.0,
      λ end runs.
          on.back goes.0 end goes.1.0 (subst (λ (n : ℕ). Runs tidy defined n (drop n rules) goes.0 end) goes.1.1.1 runs),
    ),
  )

  told_at : (r : Reached) (text : Option NewText) → IsAt choice r s → (on : LeadsOn tidy defined rules from s done findings text ran)
      → told_notes choice on.state ≡ r.skipped ++ told_last choice on.ran_rules r.loaded r.reading r.file
  told_at r text at on = told_by choice r s on.state at on.ran_rules on.skipped on.needed (on.loaded ∙ at.loaded) (on.reading ∙ at.reading)
      (on.pieces ∙ at.at.pieces) (on.items ∙ at.at.items)

  pub left_is : (r : Reached) (text : NewText) → IsAt choice r s → (on : LeadsOn tidy defined rules from s done findings (Some text) ran)
      → (now : List SkipNote) → AreTold choice rules r ran now → IsLeft choice findings text r.reading r.loaded now on.state
  left_is r text at on now told = record {
    findings_are = on.findings_are;
    page = on.page;
    reading_is = on.reading ∙ at.reading;
    loaded_is = on.loaded ∙ at.loaded;
    skipped_is = told_at r (Some text) at on ∙ sym (told on.ran_rules on.numbered);
  }

  -- from each state that the code's data describes
  pub step_ended : (file : FileItems) (next : ℕ) (r : Reached) → Leading tidy defined rules from done file next r.findings findings None ran
      → IsAt choice r s → IsAtReading file next s → length rules ≤ done → (now : List SkipNote) → AreTold choice rules r ran now → (applied : Applied)
      → ((unread : Unread) (last : Chained) → AreFindingsOf findings last → r.bytes.items ≡ last.page.bytes → told_notes unread last ≡ now
      → AnswersState unread applied last)
      → Steps tidy choice defined rules from s (Ended applied)
  step_ended file next r on at reading all now told applied answers =
      let was : LeadsOn tidy defined rules from s done findings None ran = on s at.findings reading in
      ended was all applied (answers choice was.state was.findings_are
      (at.bytes ∙ ap (λ (p : Page). p.bytes) (sym was.page)) (told_at r None at was ∙ sym (told was.ran_rules was.numbered)))

module _ (tidy : Bool) (choice : Unread) (defined : List (List ℕ)) (rules : List Rule) where
  -- the chain has come this far from there
  abbrev pub Coming : Reached → ℕ → Reached → Type 0
  Coming first from r = (s : Chained) → IsAt choice first s → (now : Chained) × (IsAt choice r now
      × ((end : Outcome) → Runs tidy defined r.done (drop r.done rules) now end → Runs tidy defined from (drop from rules) s end))

  pub comes_on : (first r next : Reached) (from : ℕ) → Coming first from r
      → ((s : Chained) → IsAt choice r s → Steps tidy choice defined rules r.done s (On next))
      → Coming first from next
  comes_on first r next from on step s at =
      let was = on s at in
      let now = step was.0 was.1.0 in
      (now.0, (now.1.0, λ end runs. was.1.1 end (now.1.1 end runs)))

  pub comes_to : (first r : Reached) (from : ℕ) (applied : Applied) → Coming first from r
      → ((s : Chained) → IsAt choice r s → Steps tidy choice defined rules r.done s (Ended applied))
      → (s : Chained) → IsAt choice first s → (last : Chained) × (Runs tidy defined from (drop from rules) s (Done last) × AnswersState choice applied last)
  comes_to first r from applied on step s at =
      let was = on s at in
      let now = step was.0 was.1.0 in
      (now.0, (was.1.1 (Done now.0) now.1.0, now.1.1))

  pub comes_out : (first r : Reached) (from : ℕ) (applied : Applied) → Coming first from r → length rules ≤ r.done
      → ((unread : Unread) (s : Chained) → AreFindingsOf r.findings s → r.bytes.items ≡ s.page.bytes → told_notes unread s ≡ r.skipped
      → AnswersState unread applied s)
      → (s : Chained) → IsAt choice first s → (last : Chained) × (Runs tidy defined from (drop from rules) s (Done last) × AnswersState choice applied last)
  comes_out first r from applied on all answers s at =
      let was = on s at in (
        was.0,
        (
          was.1.1 (Done was.0) (none_left tidy defined rules r.done was.0 all),
          answers choice was.0 was.1.0.findings was.1.0.bytes (told_at_first choice r was.0 was.1.0),
        ),
      )

  pub comes_short : (first r : Reached) (from : ℕ) (fault : FileFault) → Coming first from r
      → (fault ≡ NoMemory) ⊎ ((s : Chained) → IsAt choice r s → Runs tidy defined r.done (drop r.done rules) s (Refused fault))
      → (fault ≡ NoMemory) ⊎ ((s : Chained) → IsAt choice first s → Runs tidy defined from (drop from rules) s (Refused fault))
  comes_short first r from fault on (inl none) = inl none
  comes_short first r from fault on (inr is) = inr (λ s at. let was = on s at in was.1.1 (Refused fault) (is was.0 was.1.0))

  pub seen_fault : (r : Reached) (fault : FileFault) → Refusing tidy defined rules r.done r.file r.next r.findings fault
      → (fault ≡ NoMemory) ⊎ ((s : Chained) → IsAt choice r s → Runs tidy defined r.done (drop r.done rules) s (Refused fault))
  seen_fault r fault (inl none) = inl none
  seen_fault r fault (inr is) = inr (λ s at. is s at.findings at.at)

-- ---- the whole

-- a text that is read ends so, whichever notes are told
by_chain : (tidy : Bool) (choice : Unread) (rules : List Rule) (defined : List (List ℕ)) (bytes : List ℕ) (end : Outcome) → Chain tidy rules defined bytes end
    → EndsBy tidy choice rules defined bytes end
by_chain tidy unread.All rules defined bytes end chain = chain
by_chain tidy unread.Needed rules defined bytes end chain = inl chain
by_chain tidy unread.None rules defined bytes end chain = inl chain

-- and so does one that is passed over
pub by_passing : (tidy : Bool) (choice : Unread) (rules : List Rule) (defined : List (List ℕ)) (bytes : List ℕ) (s : Chained) → (choice ≡ unread.All → ⊥)
    → All (LacksWord bytes) rules → IsUntouched bytes s → EndsBy tidy choice rules defined bytes (Done s)
by_passing tidy unread.All rules defined bytes s other lack is = absurd (other refl)
by_passing tidy unread.Needed rules defined bytes s other lack is = inr (lack, is)
by_passing tidy unread.None rules defined bytes s other lack is = inr (lack, is)

module _ (tidy : Bool) (choice : Unread) (rules : List Rule) (defined : List (List ℕ)) (bytes : List ℕ) (r : Reached) (cut : Lexes bytes r.file.pieces)
    (reads : Reads r.file.pieces r.file.items)
    (at : IsAt choice r (first_state r.file.pieces reads.0 r.file.items)) where
  pub chain_done : (applied : Applied)
      → ((s : Chained) → IsAt choice r s → (last : Chained) × (Runs tidy defined 0 rules s (Done last) × AnswersState choice applied last))
      → (last : Chained) × (EndsBy tidy choice rules defined bytes (Done last) × AnswersState choice applied last)
  chain_done applied done =
      let end = done (first_state r.file.pieces reads.0 r.file.items) at in (
        end.0,
        (
          by_chain tidy choice rules defined bytes (Done end.0)
              (record { pieces = r.file.pieces; cut = cut; items = r.file.items; reads = reads; runs = end.1.0 }),
          end.1.1,
        ),
      )

  pub chain_refused : (fault : FileFault) → (fault ≡ NoMemory) ⊎ ((s : Chained) → IsAt choice r s → Runs tidy defined 0 rules s (Refused fault))
      → (fault ≡ NoMemory) ⊎ EndsBy tidy choice rules defined bytes (Refused fault)
  chain_refused fault (inl none) = inl none
  chain_refused fault (inr is) =
      inr (by_chain tidy choice rules defined bytes (Refused fault)
      (record { pieces = r.file.pieces; cut = cut; items = r.file.items; reads = reads; runs = is (first_state r.file.pieces reads.0 r.file.items) at }))
