-- What one rule leads to, and what the rules after it lead to.
use Rattle.std.proofs.Common.{◌≡◌, ◌<◌, ◌+◌, ℕ, Bool, true, false, ◌&&◌, Option, None, Some, refl, sym, ap, ◌∙◌, subst}
use Rattle.std.proofs.Common.{inl, inr, zero, suc, arith, add-one}
use Rattle.std.proofs.Common.{List, [], ◌∷◌, ◌++◌, length, get_or, drop}
use Rattle.std.specs.Prelude.{is_some, cond, not, slice_get}
use Rattle.std.proofs.lemmas.List.{append-nil}
use Rattle.std.proofs.lemmas.Option.{slice_get-get_or}
use Rattle.std.specs.List.{AllZip}
use Rattle.std.proofs.Math.Seq.{drop-cons}
use Rattle.c_lexer.specs.Pieces.{TextPiece}
use Rattle.c_file.specs.File.{FileItems}
use Rattle.edit_marks.specs.declared.edit_conflict.edit.Edit.{Edit}
use Rattle.edit_marks.specs.declared.tidy.walk.TidiedEdits.{TidiedEdits}
use Rattle.edit_unparse.specs.Output.{output_of}
use Rattle.smpl_patch.specs.declared.rule.Rule.{Rule}
use Rattle.rule_chain.specs.declared.rule_edits.texts.NewText.{NewText}
use Rattle.rule_chain.specs.RuleEdits.Pages.{Page, is_empty, is_edited, old_page, page_of, page_after, IsNew}
use Rattle.rule_chain.specs.RuleEdits.Tidied.{IsNewPage, IsTidyPage}
use Rattle.rule_chain.specs.declared.rule_run.fault.FileFault.{FileFault}
use Rattle.rule_chain.specs.declared.rule_run.state.FileState.{FileState}
use Rattle.env_parts.specs.Parts.{Pairs}
use Rattle.rule_chain.specs.RuleMatches.Matching.{rule_projections}
use Rattle.rule_chain.specs.RuleRun.Needed.{NeededNotes, ran_after}
use Rattle.rule_chain.specs.RuleRun.States.{Chained}
use Rattle.rule_chain.specs.RuleRun.OneRule.{MayRead, state_after, state_with}
use Rattle.rule_chain.specs.RuleRun.Tidied.{IsFaultBy, LeadsBy}
use Rattle.rule_chain.specs.RuleRun.Outcomes.{AreFindingsOf, IsAtReading, IsOutcome, IsTidyOutcome, IsOutcomeBy}
use Rattle.rule_chain.specs.Chain.{Refused, Runs, is_followed}
use Rattle.rule_chain.proofs.RuleEdits.TidyLemmas.{page_stays as tidy_stays}
use Rattle.rule_chain.specs.Stops.{page_left, AreNumbered, ran_number, LeadsOn}

pub left_of : {A : Type 0} (xs : List A) (i : ℕ) (x : A) → i < length xs → x ≡ get_or xs i x → drop i xs ≡ x ∷ drop (i + 1) xs
left_of xs i x lt is = rw add-one (drop-cons xs i x lt ∙ ap (λ z. z ∷ drop (suc i) xs) (sym is))

-- lists with the element of one place
pub at_pair : {A B : Type 0} (R : A → B → Type 0) (xs : List A) (ys : List B) (i : ℕ) (x : A) (y : B) → AllZip R xs ys → i < length xs
    → x ≡ get_or xs i x → y ≡ get_or ys i y → R x y
at_pair R [] ys i x y all lt one two = absurd (omega arith)
at_pair R (a ∷ xs) [] i x y all lt one two = absurd all
at_pair R (a ∷ xs) (b ∷ ys) zero x y all lt one two = subst (λ u. R u y) (sym one) (subst (λ v. R a v) (sym two) all.0)
at_pair R (a ∷ xs) (b ∷ ys) (suc i) x y all lt one two = at_pair R xs ys i x y all.1 (omega arith) one two

-- lists that are read as slices
pub on_slices : {A B : Type 0} (R : A → B → Type 0) (xs xs' : List A) (ys ys' : List B) → xs' ≡ xs → ys' ≡ ys → AllZip R xs ys → AllZip R xs' ys'
on_slices R xs xs' ys ys' one two all = subst (λ zs. AllZip R zs ys') (sym one) (subst (λ zs. AllZip R xs zs) (sym two) all)

-- ---- the page after a rule

page_stays : (next : ℕ) (pieces : List TextPiece) (edits : List Edit) → is_edited edits ≡ false → page_after next pieces edits ≡ old_page next pieces
page_stays next pieces edits e = ap (λ b. cond b (page_of next (output_of pieces edits next)) (old_page next pieces)) e

-- the state's page is that of the reading
own_page : (file : FileItems) (next : ℕ) (s : Chained) → IsAtReading file next s → old_page s.page.next s.pieces ≡ s.page
own_page file next s at =
    let n : s.page.next ≡ next = ap (λ (p : Page). p.next) at.page in
    (λ i. old_page (n i) (at.pieces i)) ∙ sym at.page

page_is : (file : FileItems) (next : ℕ) (s : Chained) (edits : List Edit) (text : Option NewText) → IsAtReading file next s
    → IsNew s.page.next s.pieces edits text → page_after s.page.next s.pieces edits ≡ page_left s.page text
page_is file next s edits None at new = page_stays s.page.next s.pieces edits new ∙ own_page file next s at
page_is file next s edits (Some t) at new = sym new.1

edited_is : (next : ℕ) (pieces : List TextPiece) (edits : List Edit) (text : Option NewText) → IsNew next pieces edits text → is_some text ≡ is_edited edits
edited_is next pieces edits None new = sym new
edited_is next pieces edits (Some t) new = sym new.0

-- the same of a tidied page
tidy_page_is : (file : FileItems) (next : ℕ) (s : Chained) (made : TidiedEdits) (page : Page) (text : Option NewText) → IsAtReading file next s
    → IsTidyPage s.page.next s.pieces s.items made page → IsNewPage (is_edited made.list) page text → page ≡ page_left s.page text
tidy_page_is file next s made page None at is new = tidy_stays s.page.next s.pieces s.items made page new is ∙ own_page file next s at
tidy_page_is file next s made page (Some t) at is new = sym new.1

new_page_is : (edited : Bool) (page : Page) (text : Option NewText) → IsNewPage edited page text → is_some text ≡ edited
new_page_is edited page None new = sym new
new_page_is edited page (Some t) new = sym new.0

-- ---- whether the rule runs

module _ (rules : List Rule) (number : ℕ) (rule : Rule) (is : slice_get rules number ≡ Some rule) (needed : NeededNotes) (runs : Bool) where
  -- the rules that ran with it, by their numbers
  abbrev Ran : List Pairs → Type 0
  Ran envs = (ran : List Rule) × (AreNumbered rules ran (ran_number runs number)
      × (record needed { ran = ran_after needed.ran rule envs } ≡ record needed { ran = needed.ran ++ ran }))

  ran_by : (envs : List Pairs) → runs ≡ not (is_empty envs) → Ran envs
  ran_by [] e =
      ([], (subst (λ (b : Bool). AreNumbered rules [] (ran_number b number)) (sym e) tt, λ i. record needed { ran = sym (append-nil needed.ran) i }))
  ran_by (env ∷ envs) e = (rule ∷ [], (subst (λ (b : Bool). AreNumbered rules (rule ∷ []) (ran_number b number)) (sym e) (is, tt), refl))

-- ---- one rule

module _ (tidy : Bool) (defined : List (List ℕ)) (rules : List Rule) (number : ℕ) (rule : Rule) (lt : number < length rules)
    (at : rule ≡ get_or rules number rule) where
  this_rule : slice_get rules number ≡ Some rule
  this_rule = slice_get-get_or rules number rule lt ∙ ap Some (sym at)

  -- to a state with this page
  leads_out : (s : Chained) (findings : FileState) (text : Option NewText) (runs : Bool) (page : Page)
      → AreFindingsOf findings (state_with defined number rule s page) → page ≡ page_left s.page text
      → runs ≡ not (is_empty (rule_projections defined s.had number rule s.items s.file_envs))
      → ((followed : Bool) (after : Chained) → MayRead (is_some text && followed) (state_with defined number rule s page) after
      → LeadsBy tidy defined number rule followed s after)
      → LeadsOn tidy defined rules number s (number + 1) findings text (ran_number runs number)
  leads_out s findings text runs page are is ran_is on =
      let ran = ran_by rules number rule this_rule s.needed runs (rule_projections defined s.had number rule s.items s.file_envs) ran_is in
      record {
        state = state_with defined number rule s page;
        findings_are = are;
        page = is;
        pieces = refl;
        items = refl;
        reading = refl;
        loaded = refl;
        skipped = refl;
        ran_rules = ran.0;
        numbered = ran.1.0;
        needed = ran.1.1;
        back = λ after end may runs.
            let rest = drop (number + 1) rules in
            let one : number + 1 ≡ suc number = omega arith in
            subst (λ (x : List Rule). Runs tidy defined number x s end) (sym (left_of rules number rule lt at))
            (inr (after, (on (is_followed rest) after may, subst (λ (n : ℕ). Runs tidy defined n rest after end) one runs)));
      }

  pub refuses : (s : Chained) (fault : FileFault) → IsFaultBy tidy defined number rule s fault
      → Runs tidy defined number (drop number rules) s (Refused fault)
  refuses s fault is =
      subst (λ (x : List Rule). Runs tidy defined number x s (Refused fault)) (sym (left_of rules number rule lt at)) (inl (fault, (is, refl)))

module _ (defined : List (List ℕ)) (rules : List Rule) (number : ℕ) (rule : Rule) (lt : number < length rules) (at : rule ≡ get_or rules number rule)
    (file : FileItems) (next : ℕ) (s : Chained) (findings : FileState) (text : Option NewText) (runs : Bool) (reading : IsAtReading file next s) where
  plain_leads : IsOutcome defined number rule s findings text runs → LeadsOn false defined rules number s (number + 1) findings text (ran_number runs number)
  plain_leads works =
      let e = edited_is s.page.next s.pieces works.edits text works.text_is in
      leads_out false defined rules number rule lt at s findings text runs (page_after s.page.next s.pieces works.edits) works.findings_are
      (page_is file next s works.edits text reading works.text_is) works.ran_is
      (λ followed after may. record {
        edits = works.edits;
        few = works.few;
        are = works.are;
        fine = works.fine;
        reads = subst (λ (b : Bool). MayRead (b && followed) (state_after defined number rule s works.edits) after) e may;
      })

  tidy_leads : IsTidyOutcome defined number rule s findings text runs
      → LeadsOn true defined rules number s (number + 1) findings text (ran_number runs number)
  tidy_leads works =
      let e = new_page_is (is_edited works.made.list) works.page text works.text_is in
      leads_out true defined rules number rule lt at s findings text runs works.page works.findings_are
      (tidy_page_is file next s works.made works.page text reading works.fine.after works.text_is) works.ran_is
      (λ followed after may. record {
        made = works.made;
        page = works.page;
        few = works.few;
        are = works.are;
        fine = works.fine;
        reads = subst (λ (b : Bool). MayRead (b && followed) (state_with defined number rule s works.page) after) e may;
      })

pub leads : (tidy : Bool) (defined : List (List ℕ)) (rules : List Rule) (number : ℕ) (rule : Rule) → number < length rules → rule ≡ get_or rules number rule
    → (file : FileItems) (next : ℕ) (s : Chained) (findings : FileState) (text : Option NewText) (runs : Bool) → IsAtReading file next s
    → IsOutcomeBy tidy defined number rule s findings text runs → LeadsOn tidy defined rules number s (number + 1) findings text (ran_number runs number)
leads false defined rules number rule lt at file next s findings text runs reading works =
    plain_leads defined rules number rule lt at file next s findings text runs reading works
leads true defined rules number rule lt at file next s findings text runs reading works =
    tidy_leads defined rules number rule lt at file next s findings text runs reading works
