-- Sequences of rules.
use Rattle.std.proofs.Common.{◌≡◌, ◌⊎◌, ◌+◌, inl, inr, ℕ, Bool, Option, None, Some, refl, sym, ap, ◌∙◌, subst}
use Rattle.std.proofs.Common.{List, [], ◌∷◌, ◌++◌, drop}
use Rattle.std.specs.Prelude.{slice_get}
use Rattle.std.specs.List.{AllZip}
use Rattle.std.proofs.lemmas.List.{append_assoc, append-nil}
use Rattle.c_file.specs.File.{FileItems}
use Rattle.smpl_patch.specs.declared.rule.Rule.{Rule}
use Rattle.rule_chain.specs.declared.rule_edits.texts.NewText.{NewText}
use Rattle.rule_chain.specs.declared.rule_run.fault.FileFault.{FileFault}
use Rattle.rule_chain.specs.declared.rule_run.fault.FileFault.TheVariants.{NoMemory}
use Rattle.rule_chain.specs.declared.rule_run.state.FileState.{FileState}
use Rattle.rule_chain.specs.RuleRun.Needed.{NeededNotes}
use Rattle.rule_chain.specs.RuleRun.States.{Chained}
use Rattle.rule_chain.specs.RuleRun.Outcomes.{AreFindingsOf, IsAtReading}
use Rattle.rule_chain.specs.Chain.{Outcome, Refused, Runs}
use Rattle.rule_chain.specs.Stops.{page_left, ran_number, LeadsOn}

zip_append : {A B : Type 0} (R : A → B → Type 0) (xs xs' : List A) (ys ys' : List B) → AllZip R xs ys → AllZip R xs' ys'
    → AllZip R (xs ++ xs') (ys ++ ys')
zip_append R [] xs' [] ys' one two = two
zip_append R [] xs' (y ∷ ys) ys' one two = absurd one
zip_append R (x ∷ xs) xs' [] ys' one two = absurd one
zip_append R (x ∷ xs) xs' (y ∷ ys) ys' one two = (one.0, zip_append R xs xs' ys ys' one.1 two)

module _ (tidy : Bool) (defined : List (List ℕ)) (rules : List Rule) where
  -- with no rule, the state stays
  pub stays : (from : ℕ) (s : Chained) (findings : FileState) → AreFindingsOf findings s → LeadsOn tidy defined rules from s from findings None []
  stays from s findings are = record {
    state = s;
    findings_are = are;
    page = refl;
    pieces = refl;
    items = refl;
    reading = refl;
    loaded = refl;
    skipped = refl;
    ran_rules = [];
    numbered = tt;
    needed = λ i. record s.needed { ran = sym (append-nil s.needed.ran) i };
    back = λ next end may runs. subst (λ (x : Chained). Runs tidy defined from (drop from rules) x end) may runs;
  }

  -- the state is still just after the reading
  pub still : (from mid : ℕ) (s : Chained) (findings : FileState) (ran : List ℕ) (file : FileItems) (next : ℕ) → IsAtReading file next s
      → (on : LeadsOn tidy defined rules from s mid findings None ran) → IsAtReading file next on.state
  still from mid s findings ran file next at on = record {
    page = on.page ∙ at.page;
    pieces = on.pieces ∙ at.pieces;
    items = on.items ∙ at.items;
  }

  -- an end that follows from the later state follows from the first, too
  pub back_to : (from mid : ℕ) (s : Chained) (findings : FileState) (ran : List ℕ)
      (on : LeadsOn tidy defined rules from s mid findings None ran) (end : Outcome)
      → Runs tidy defined mid (drop mid rules) on.state end → Runs tidy defined from (drop from rules) s end
  back_to from mid s findings ran on end runs = on.back on.state end refl runs

  pub then : (from mid done : ℕ) (s : Chained) (findings later : FileState) (text : Option NewText) (ran more_ran : List ℕ)
      (on : LeadsOn tidy defined rules from s mid findings None ran)
      → LeadsOn tidy defined rules mid on.state done later text more_ran → LeadsOn tidy defined rules from s done later text (ran ++ more_ran)
  then from mid done s findings later text ran more_ran on more = record {
    state = more.state;
    findings_are = more.findings_are;
    page = subst (λ p. more.state.page ≡ page_left p text) on.page more.page;
    pieces = more.pieces ∙ on.pieces;
    items = more.items ∙ on.items;
    reading = more.reading ∙ on.reading;
    loaded = more.loaded ∙ on.loaded;
    skipped = more.skipped ∙ on.skipped;
    ran_rules = on.ran_rules ++ more.ran_rules;
    numbered = zip_append (λ rule n. slice_get rules n ≡ Some rule) on.ran_rules more.ran_rules ran more_ran on.numbered more.numbered;
    needed = more.needed ∙ ap (λ (n : NeededNotes). record n { ran = n.ran ++ more.ran_rules }) on.needed
        ∙ (λ i. record s.needed { ran = append_assoc s.needed.ran on.ran_rules more.ran_rules i });
    back = λ next end may runs. back_to from mid s findings ran on end (more.back next end may runs);
  }

  -- from each state that the code's data describes, to such a state
  abbrev pub Leading : ℕ → ℕ → FileItems → ℕ → FileState → FileState → Option NewText → List ℕ → Type 0
  Leading from done file next findings later text ran = (s : Chained) → AreFindingsOf findings s → IsAtReading file next s
      → LeadsOn tidy defined rules from s done later text ran

  abbrev pub Refusing : ℕ → FileItems → ℕ → FileState → FileFault → Type 0
  Refusing from file next findings fault = (fault ≡ NoMemory) ⊎ ((s : Chained) → AreFindingsOf findings s → IsAtReading file next s
      → Runs tidy defined from (drop from rules) s (Refused fault))

  pub goes_on : (from mid done : ℕ) (file : FileItems) (next : ℕ) (first findings later : FileState) (text : Option NewText) (ran more_ran : List ℕ)
      → Leading from mid file next first findings None ran → Leading mid done file next findings later text more_ran
      → Leading from done file next first later text (ran ++ more_ran)
  goes_on from mid done file next first findings later text ran more_ran on more s are at =
      let was : LeadsOn tidy defined rules from s mid findings None ran = on s are at in
      then from mid done s findings later text ran more_ran was (more was.state was.findings_are (still from mid s findings ran file next at was))

  pub stops_at : (from mid : ℕ) (file : FileItems) (next : ℕ) (first findings : FileState) (ran : List ℕ) (fault : FileFault)
      → Leading from mid file next first findings None ran → Refusing mid file next findings fault → Refusing from file next first fault
  stops_at from mid file next first findings ran fault on (inl none) = inl none
  stops_at from mid file next first findings ran fault on (inr is) = inr (λ s are at.
      let was : LeadsOn tidy defined rules from s mid findings None ran = on s are at in
      back_to from mid s findings ran was (Refused fault) (is was.state was.findings_are (still from mid s findings ran file next at was)))

  -- one more rule
  pub after : (from mid : ℕ) (file : FileItems) (next : ℕ) (first findings later : FileState) (text other : Option NewText) (ran now : List ℕ) (runs : Bool)
      → text ≡ other → now ≡ ran ++ ran_number runs mid → Leading from mid file next first findings None ran
      → Leading mid (mid + 1) file next findings later text (ran_number runs mid) → Leading from (mid + 1) file next first later other now
  after from mid file next first findings later text other ran now runs same is on more =
      subst (λ (x : List ℕ). Leading from (mid + 1) file next first later other x) (sym is)
      (goes_on from mid (mid + 1) file next first findings later other ran (ran_number runs mid) on
      (subst (λ (t : Option NewText). Leading mid (mid + 1) file next findings later t (ran_number runs mid)) same more))
