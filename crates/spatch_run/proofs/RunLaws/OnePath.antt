-- If the shelf reveals its files, words have only one list of acts.
use Rattle.std.proofs.Common.{◌≡◌, ℕ, List, [], ◌∷◌, ◌++◌, Option, Some, None, refl, sym, ap, ◌∙◌, subst}
use Rattle.std.specs.Prelude.{IsSome}
use Rattle.outer_io.specs.Files.{Files, stored}
use Rattle.run_acts.specs.Acts.{Act, Load, Store, Print, Report, Observed, after_act}
use Rattle.run_files.specs.RunStages.Stages.{Stage, Doing, Ending, begun_by, next_act, status_at, Leads}
use Rattle.run_files.specs.RunStages.Paths.{Path, AreActs, ComesTo}
use Rattle.spatch_run.proofs.RunLaws.Unique.{none_some, same_some, ReadOnce, Leads-one}

-- a run that has ended has no next act
pub over_or_next : (stage : Stage) (status : ℕ) (act : Act) → status_at stage ≡ Some status → next_act stage ≡ Some act → ⊥
over_or_next (Doing acts work) status act over next = none_some status over
over_or_next (Ending (a ∷ acts) s) status act over next = none_some status over
over_or_next (Ending [] s) status act over next = none_some act next

pub stored-observed : (holds : Option Files) (name bytes : List ℕ) → IsSome holds → IsSome (stored holds name bytes)
stored-observed None name bytes some = some
stored-observed (Some files) name bytes some = refl

-- a shelf that reveals its files reveals them after each act
pub after_act-observed : (act : Act) (old : Observed) → IsSome old.files → IsSome (after_act act old).files
after_act-observed (Load name limit) old some = some
after_act-observed (Store name bytes) old some = stored-observed old.files name bytes some
after_act-observed (Print bytes) old some = some
after_act-observed (Report line) old some = some

-- the files after an act depend only on the act and the files before it
pub after_act-files : (act : Act) (old other : Observed) → other.files ≡ old.files → (after_act act other).files ≡ (after_act act old).files
after_act-files (Load name limit) old other same = same
after_act-files (Store name bytes) old other same = ap (λ (f : Option Files). stored f name bytes) same
after_act-files (Print bytes) old other same = same
after_act-files (Report line) old other same = same

prepended : (a b : Act) (acts part rest : List Act) → a ≡ b → acts ≡ part ++ rest → b ∷ acts ≡ a ∷ part ++ rest
prepended a b acts part rest e f = cc

-- another path from the next stage, restated for an equal stage
pub moved : (act b : Act) (mid to last : Stage) (other : Observed) (acts : List Act) → act ≡ b → mid ≡ to → Path (after_act b other) to acts last
    → Path (after_act act other) mid acts last
moved act b mid to last other acts e f path =
    subst (λ (s : Stage). Path (after_act act other) s acts last) (sym f) (subst (λ (x : Act). Path (after_act x other) to acts last) (sym e) path)

module _ (laws : ReadOnce) where
  -- Two paths from a stage to the end of a run have the same acts and the same status.
  Path-one : (old other : Observed) → IsSome old.files → other.files ≡ old.files
      → (from : Stage) (acts others : List Act) (last last' : Stage) (status status' : ℕ)
      → Path old from acts last → status_at last ≡ Some status → Path other from others last' → status_at last' ≡ Some status'
      → (acts ≡ others) × (status ≡ status')
  Path-one old other some same from [] [] last last' status status' one over two over' =
      (refl, same_some status status' (sym over ∙ ap status_at (one ∙ sym two) ∙ over'))
  Path-one old other some same from [] (b ∷ others) last last' status status' one over two over' =
      absurd (over_or_next from status b (ap status_at (sym one) ∙ over) two.0)
  Path-one old other some same from (a ∷ acts) [] last last' status status' one over two over' =
      absurd (over_or_next from status' a (ap status_at (sym two) ∙ over') one.0)
  Path-one old other some same from (a ∷ acts) (b ∷ others) last last' status status' one over two over' =
      let act : a ≡ b = same_some a b (sym one.0 ∙ two.0) in
      let leads = subst (λ (f : Option Files). Leads f from two.1.0) same two.1.1.0 in
      let mid : one.1.0 ≡ two.1.0 = Leads-one laws old.files some from one.1.0 two.1.0 one.1.1.0 leads in
      let rest = Path-one (after_act a old) (after_act a other) (after_act-observed a old some)
      (after_act-files a old other same) one.1.0 acts others last last' status status' one.1.1.1 over
      (moved a b one.1.0 two.1.0 last' other others act mid two.1.1.1) over' in
      let tails : acts ≡ others = rest.0 in
      ((λ i. act i ∷ tails i), rest.1)

  -- The acts of a run that has a next act are a prefix of each path to its end.
  Path-begins : (old other : Observed) → IsSome old.files → other.files ≡ old.files
      → (from : Stage) (part acts : List Act) (stage last : Stage) (next : Act) (status : ℕ)
      → Path old from part stage → next_act stage ≡ Some next → Path other from acts last → status_at last ≡ Some status
      → (rest : List Act) × (acts ≡ part ++ next ∷ rest)
  Path-begins old other some same from [] [] stage last next status one is two over =
      absurd (over_or_next from status next (ap status_at (sym two) ∙ over) (ap next_act (sym one) ∙ is))
  Path-begins old other some same from [] (b ∷ acts) stage last next status one is two over =
      (acts, ap (λ (x : Act). x ∷ acts) (same_some b next (sym two.0 ∙ ap next_act (sym one) ∙ is)))
  Path-begins old other some same from (a ∷ part) [] stage last next status one is two over =
      absurd (over_or_next from status a (ap status_at (sym two) ∙ over) one.0)
  Path-begins old other some same from (a ∷ part) (b ∷ acts) stage last next status one is two over =
      let act : a ≡ b = same_some a b (sym one.0 ∙ two.0) in
      let leads = subst (λ (f : Option Files). Leads f from two.1.0) same two.1.1.0 in
      let mid : one.1.0 ≡ two.1.0 = Leads-one laws old.files some from one.1.0 two.1.0 one.1.1.0 leads in
      let rest = Path-begins (after_act a old) (after_act a other) (after_act-observed a old some)
      (after_act-files a old other same) one.1.0 part acts stage last next status one.1.1.1 is
      (moved a b one.1.0 two.1.0 last other acts act mid two.1.1.1) over in
      (rest.0, prepended a b acts part (next ∷ rest.0) act rest.1)

  pub acts_one : (words : List (List ℕ)) (old other : Observed) (acts others : List Act) (status status' : ℕ) → IsSome old.files → other.files ≡ old.files
      → AreActs words old acts status → AreActs words other others status' → (acts ≡ others) × (status ≡ status')
  acts_one words old other acts others status status' some same one two =
      Path-one old other some same (begun_by words) acts others one.last two.last status status' one.path one.over two.path two.over

  pub first_acts : (words : List (List ℕ)) (old other mid : Observed) (next : Act) (acts : List Act) (status : ℕ) → IsSome old.files → other.files ≡ old.files
      → (comes : ComesTo words old mid next) → AreActs words other acts status → (rest : List Act) × (acts ≡ comes.acts ++ next ∷ rest)
  first_acts words old other mid next acts status some same comes are =
      Path-begins old other some same (begun_by words) comes.acts acts comes.stage are.last next status comes.path comes.is_next are.path are.over
