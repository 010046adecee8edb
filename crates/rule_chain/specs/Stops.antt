-- What the rules over one reading lead to, and what follows.
use Rattle.std.specs.Prelude.{ℕ, ◌≡◌, ◌+◌, ◌<◌, ◌≤◌, ◌&&◌, Bool, cond, Option, None, Some, is_some, List, [], ◌∷◌, ◌++◌, length, drop, slice_get}
use Rattle.std.specs.List.{AllZip}
use Rattle.run_choices.specs.declared.unread.Unread.{Unread}
use Rattle.run_choices.specs.declared.unread.Unread.TheVariants as unread
use Rattle.c_file.specs.File.{FileItems}
use Rattle.smpl_patch.specs.declared.rule.Rule.{Rule}
use Rattle.rule_chain.specs.declared.rule_edits.texts.NewText.{NewText}
use Rattle.rule_chain.specs.RuleEdits.Pages.{Page, page_in}
use Rattle.rule_chain.specs.declared.rule_run.state.FileState.{FileState}
use Rattle.rule_chain.specs.declared.rule_run.state.SkipNote.{SkipNote}
use Rattle.rule_chain.specs.RuleRun.Notes.{notes_on}
use Rattle.rule_chain.specs.RuleRun.Needed.{needed_on}
use Rattle.rule_chain.specs.RuleRun.States.{Chained, told_notes}
use Rattle.rule_chain.specs.RuleRun.OneRule.{MayRead}
use Rattle.rule_chain.specs.RuleRun.Outcomes.{AreFindingsOf, IsAtReading}
use Rattle.rule_chain.specs.declared.state.Reached.{Reached}
use Rattle.rule_chain.specs.declared.state.Step.{Step}
use Rattle.rule_chain.specs.declared.state.Step.TheVariants.{Ended, On}
use Rattle.rule_chain.specs.Chain.{Outcome, Done, Runs, is_followed}
use Rattle.rule_chain.specs.Results.{AnswersState}

-- the page of a new text, or the old one
abbrev pub page_left : Page → Option NewText → Page
page_left page None = page
page_left page (Some t) = page_in t

-- these rules of the patch have these numbers
abbrev pub AreNumbered : (rules ran : List Rule) → List ℕ → Type 0
AreNumbered rules ran numbers = AllZip (λ rule n. slice_get rules n ≡ Some rule) ran numbers

-- the number of a rule, if it runs
abbrev pub ran_number : Bool → ℕ → List ℕ
ran_number runs number = cond runs (number ∷ []) []

-- Some rules, from one number up to another, lead to a state of the same reading with these findings and this page; those with
-- the numbers `ran` ran. Whatever the remaining rules lead to, from there or from the new text once it is read, all of them
-- lead to.
pub record LeadsOn (tidy : Bool) (defined : List (List ℕ)) (rules : List Rule) (from : ℕ) (s : Chained) (done : ℕ) (findings : FileState)
    (text : Option NewText) (ran : List ℕ) : Type 0 where
  pub state : Chained
  pub findings_are : AreFindingsOf findings state
  pub page : state.page ≡ page_left s.page text
  pub pieces : state.pieces ≡ s.pieces
  pub items : state.items ≡ s.items
  pub reading : state.reading ≡ s.reading
  pub loaded : state.loaded ≡ s.loaded
  pub skipped : state.skipped ≡ s.skipped
  pub ran_rules : List Rule
  pub numbered : AreNumbered rules ran_rules ran
  pub needed : state.needed ≡ record s.needed { ran = s.needed.ran ++ ran_rules }
  pub back : (next : Chained) (end : Outcome) → MayRead (is_some text && is_followed (drop done rules)) state next
      → Runs tidy defined done (drop done rules) next end → Runs tidy defined from (drop from rules) s end

-- The notes that are told before rules run over a reading: all notes as it is read, and those on needed items when it is known
-- which rules ran over it.
abbrev pub told_before : Unread → Chained → List SkipNote
told_before unread.All s = s.skipped
told_before unread.Needed s = s.needed.earlier
told_before unread.None s = []

-- those on a reading that are told as it is read
abbrev pub told_first : Unread → (loaded reading : ℕ) → FileItems → List SkipNote
told_first unread.All loaded reading file = notes_on loaded reading file
told_first unread.Needed loaded reading file = []
told_first unread.None loaded reading file = []

-- those that are told after these rules ran over it
abbrev pub told_last : Unread → (ran : List Rule) → (loaded reading : ℕ) → FileItems → List SkipNote
told_last unread.All ran loaded reading file = []
told_last unread.Needed ran loaded reading file = needed_on ran loaded reading file
told_last unread.None ran loaded reading file = []

-- the point that is reached is this state
pub record IsAt (choice : Unread) (r : Reached) (s : Chained) : Type 0 where
  pub findings : AreFindingsOf r.findings s
  pub at : IsAtReading r.file r.next s
  pub bytes : r.bytes.items ≡ s.page.bytes
  pub reading : s.reading ≡ r.reading
  pub loaded : s.loaded ≡ r.loaded
  pub skipped : told_before choice s ≡ r.skipped
  pub shown : s.needed.shown ≡ r.file.shown
  pub none_ran : s.needed.ran ≡ []

-- what is left of a state after a rule that edits
pub record IsLeft (choice : Unread) (findings : FileState) (text : NewText) (reading loaded : ℕ) (skipped : List SkipNote) (s : Chained) : Type 0 where
  pub findings_are : AreFindingsOf findings s
  pub page : s.page ≡ page_in text
  pub reading_is : s.reading ≡ reading
  pub loaded_is : s.loaded ≡ loaded
  pub skipped_is : told_notes choice s ≡ skipped

-- no rule is left and the state is returned, or the text is read again
abbrev pub GoesOn : Unread → List Rule → ℕ → Chained → Step → Type 0
GoesOn choice rules done s (Ended applied) = (length rules ≤ done) × AnswersState choice applied s
GoesOn choice rules done s (On r) =
    (next : Chained) × (MayRead (is_followed (drop done rules)) s next × (IsAt choice r next × (r.done ≡ done)))

-- what follows after this many of these rules
abbrev pub ComesOf : Unread → List Rule → FileState → NewText → (reading loaded : ℕ) → List SkipNote → (done : ℕ) → Step → Type 0
ComesOf choice rules findings text reading loaded skipped done st =
    (s : Chained) → IsLeft choice findings text reading loaded skipped s → GoesOn choice rules done s st

-- The rules from a number on lead from a state to an end, which is returned; or they lead to the point that is reached, and
-- whatever the remaining rules lead to from there, all of them lead to.
abbrev pub Steps : (tidy : Bool) → Unread → List (List ℕ) → List Rule → ℕ → Chained → Step → Type 0
Steps tidy choice defined rules from s (Ended applied) =
    (last : Chained) × (Runs tidy defined from (drop from rules) s (Done last) × AnswersState choice applied last)
Steps tidy choice defined rules from s (On r) = (next : Chained) × (IsAt choice r next
    × ((end : Outcome) → Runs tidy defined r.done (drop r.done rules) next end → Runs tidy defined from (drop from rules) s end))

-- the point that is reached is further on than this number of rules and of readings
abbrev pub IsFurther : ℕ → ℕ → ℕ → Step → Type 0
IsFurther from count reading (Ended applied) = Unit {0}
IsFurther from count reading (On r) = (from < r.done) × (r.done ≤ count) × (r.reading ≡ reading + 1)
