-- Words with other jobs have the same acts.
use Rattle.std.proofs.Common.{◌≡◌, ◌∙◌, ◌∷◌, ◌++◌, [], ℕ, Option, Some, None, List, is_some, refl, ap, sym, subst, true}
use Rattle.std.proofs.lemmas.List.{append-nil}
use Rattle.std.proofs.lemmas.Option.{same_Some}
use Rattle.std.specs.List.{list_all}
use Rattle.std.specs.Str.{is_utf8}
use Rattle.run_acts.specs.Acts.{Act, Report, Observed}
use Rattle.run_words.specs.declared.fault.WordFault.{WordFault}
use Rattle.run_words.specs.Orders.{Order, Apply, Generate, Say, order_of}
use Rattle.run_words.specs.Faults.{word_fault}
use Rattle.run_files.specs.RunLines.Words.{refused_words, usage, word_fault_line}
use Rattle.run_files.specs.RunStages.Stages.{Stage, Ending, begun, begun_by, next_act, refusing, status_at}
use Rattle.run_files.specs.RunStages.Paths.{Path, AreActs, ComesTo}
use Rattle.run_words.specs.JobLaws.Jobs.{SameButJobs}

abbrev pub OrderLaw : Type 0
OrderLaw = (words others : List (List ℕ)) → SameButJobs words others → order_of others ≡ order_of words

abbrev pub FaultLaw : Type 0
FaultLaw = (words others : List (List ℕ)) → SameButJobs words others → list_all is_utf8 words ≡ true → word_fault others ≡ word_fault words

-- ---- the stage at which a run begins

-- what is asked for leads to a stage that doesn't depend on what is wrong
begun_any : (f g : Option WordFault) (order : Option Order) → is_some order ≡ true → begun f order ≡ begun g order
begun_any f g None asked = absurd cc
begun_any f g (Some (Apply patch isos defined target)) asked = refl
begun_any f g (Some (Generate seed functions)) asked = refl
begun_any f g (Some (Say saying)) asked = refl

pub begun_asked : OrderLaw → (words others : List (List ℕ)) → SameButJobs words others → is_some (order_of words) ≡ true
    → begun_by words ≡ begun_by others
begun_asked order words others s asked =
    begun_any (word_fault words) (word_fault others) (order_of words) asked ∙ ap (begun (word_fault others)) (sym (order words others s))

pub begun_faulty : OrderLaw → FaultLaw → (words others : List (List ℕ)) → SameButJobs words others → list_all is_utf8 words ≡ true
    → begun_by words ≡ begun_by others
begun_faulty order fault words others s texts =
    ap (λ (f : Option WordFault). begun f (order_of words)) (sym (fault words others s texts)) ∙ ap (begun (word_fault others)) (sym (order words others s))

-- ---- the acts from there

pub acts_same : (words others : List (List ℕ)) (old : Observed) (acts : List Act) (status : ℕ) → begun_by words ≡ begun_by others
    → AreActs words old acts status → AreActs others old acts status
acts_same words others old acts status same are = record {
  last = are.last;
  path = subst (λ (from : Stage). Path old from acts are.last) same are.path;
  over = are.over;
}

pub comes_same : (words others : List (List ℕ)) (old mid : Observed) (next : Act) → begun_by words ≡ begun_by others
    → ComesTo words old mid next → ComesTo others old mid next
comes_same words others old mid next same to = record {
  acts = to.acts;
  stage = to.stage;
  path = subst (λ (from : Stage). Path old from to.acts to.stage) same to.path;
  observed = to.observed;
  is_next = to.is_next;
}

-- ---- words that are no command

usage_first : (fault : Option WordFault) → (more : List ℕ) × (refused_words fault ≡ usage ++ more)
usage_first None = ([], sym (append-nil usage))
usage_first (Some fault) = (word_fault_line fault, refl)

-- a run that ends with one report has no other acts
one_report : (line : List ℕ) (old : Observed) (acts : List Act) (last : Stage) (status : ℕ) → Path old (refusing line 1) acts last
    → status_at last ≡ Some status → (status ≡ 1) × (acts ≡ Report line ∷ [])
one_report line old [] last status path over = let none : None ≡ Some status = sym (ap status_at path) ∙ over in absurd cc
one_report line old (act ∷ []) last status path over =
    let is : last ≡ Ending [] 1 = path.1.1.1 ∙ path.1.1.0 in
    let same : Some 1 ≡ Some status = sym (ap status_at is) ∙ over in
    (sym (same_Some 1 status same), ap (λ (a : Act). a ∷ []) (sym (same_Some (Report line) act path.0)))
one_report line old (act ∷ next ∷ acts) last status path over =
    let none : None ≡ Some next = sym (ap next_act path.1.1.0) ∙ path.1.1.1.0 in absurd cc

pub wrong_words : (words : List (List ℕ)) (old : Observed) (acts : List Act) (status : ℕ) → order_of words ≡ None
    → AreActs words old acts status → (status ≡ 1) × ((more : List ℕ) × (acts ≡ Report (usage ++ more) ∷ []))
wrong_words words old acts status none are =
    let line = refused_words (word_fault words) in
    let first = usage_first (word_fault words) in
    let path : Path old (refusing line 1) acts are.last =
    subst (λ (o : Option Order). Path old (begun (word_fault words) o) acts are.last) none are.path in
    let one = one_report line old acts are.last status path are.over in
    (one.0, (first.0, one.1 ∙ ap (λ (l : List ℕ). Report l ∷ []) first.1))
