-- What a run does from the first file on.
use Rattle.std.proofs.Common.{◌≡◌, ℕ, List, [], ◌∷◌, ◌++◌, Option, Some, None, refl, sym, ap, ◌∙◌, inl, inr, subst}
use Rattle.run_acts.specs.Acts.{Act, Load, Report, Observed, after_act, after}
use Rattle.run_acts.specs.Lines.{cannot_read}
use Rattle.run_acts.specs.Loaded.{Found}
use Rattle.smpl_patch.specs.declared.rule.Patch.{Patch}
use Rattle.run_words.specs.declared.order.Mode.{Mode}
use Rattle.run_files.specs.Treatment.{Treated, file_limit}
use Rattle.run_files.specs.RunStages.Stages.{Stage, Doing, Ending, EditFiles, Work, Course, after_file, told, going, end_status, FileLeads, status_at}
use Rattle.run_files.specs.RunStages.Paths.{Path}
use Rattle.run_files.specs.RunStages.Reasons.{FilesEnd, AllDone, Missing, FilesDo, files_status}
use Rattle.spatch_run.proofs.RunLaws.Unique.{none_some, same_some}

-- a run that only has acts at hand does them
pub ending : (old : Observed) (pending : List Act) (s : ℕ) (acts : List Act) (last : Stage) (status : ℕ) → Path old (Ending pending s) acts last
    → status_at last ≡ Some status → (acts ≡ pending) × (status ≡ s)
ending old [] s [] last status path over = (refl, same_some status s (sym over ∙ ap status_at path))
ending old [] s (a ∷ acts) last status path over = absurd (none_some a path.0)
ending old (p ∷ pending) s [] last status path over = absurd (none_some status (ap status_at (sym path) ∙ over))
ending old (p ∷ pending) s (a ∷ acts) last status path over =
    let same : p ≡ a = same_some p a path.0 in
    let rest = ending (after_act a old) pending s acts last status (subst (λ (m : Stage). Path (after_act a old) m acts last) path.1.1.0 path.1.1.1) over in
    let tails : acts ≡ pending = rest.0 in
    ((λ i. sym same i ∷ tails i), rest.1)

-- a run does these acts from a known stage
pub ending-at : (old : Observed) (mid : Stage) (pending : List Act) (s : ℕ) (acts : List Act) (last : Stage) (status : ℕ) → mid ≡ Ending pending s
    → Path old mid acts last → status_at last ≡ Some status → (acts ≡ pending) × (status ≡ s)
ending-at old mid pending s acts last status is path over = ending old pending s acts last status (subst (λ (m : Stage). Path old m acts last) is path) over

in_front : (a p : Act) (acts pending rest : List Act) → a ≡ p → acts ≡ pending ++ rest → a ∷ acts ≡ p ∷ pending ++ rest
in_front a p acts pending rest e f = cc

-- the rest of the acts, after those at hand
record Through (old : Observed) (pending : List Act) (work : Work) (acts : List Act) (last : Stage) : Type 0 where
  pub rest : List Act
  pub acts_are : acts ≡ pending ++ rest
  pub path : Path (after pending old) (Doing [] work) rest last

-- a run does the acts at hand, and goes on from its work
through : (old : Observed) (pending : List Act) (work : Work) (acts : List Act) (last : Stage) (status : ℕ) → Path old (Doing pending work) acts last
    → status_at last ≡ Some status → Through old pending work acts last
through old [] work acts last status path over = record { rest = acts; acts_are = refl; path = path }
through old (p ∷ pending) work [] last status path over = absurd (none_some status (ap status_at (sym path) ∙ over))
through old (p ∷ pending) work (a ∷ acts) last status path over =
    let same : a ≡ p = sym (same_some p a path.0) in
    let moved = subst (λ (x : Act). Path (after_act x old) (Doing pending work) acts last) same
    (subst (λ (m : Stage). Path (after_act a old) m acts last) path.1.1.0 path.1.1.1) in
    let more = through (after_act p old) pending work acts last status moved over in
    record { rest = more.rest; acts_are = in_front a p acts pending more.rest same more.acts_are; path = more.path }

-- what happened to the files, after the acts at hand
pub record Went (old : Observed) (patch : Patch) (defined : List (List ℕ)) (mode : Mode) (names : List (List ℕ)) (course : Course) (pending acts : List Act)
    (status : ℕ) : Type 0 where
  pub rest : List Act
  pub end : FilesEnd
  pub acts_are : acts ≡ pending ++ rest
  pub went : FilesDo (after pending old) patch defined mode names course rest end
  pub status_is : status ≡ files_status end

joined_acts : (load : Act) (acts own rest : List Act) → acts ≡ own ++ rest → load ∷ acts ≡ load ∷ own ++ rest
joined_acts load acts own rest e = cc

module _ (patch : Patch) (defined : List (List ℕ)) (mode : Mode) where
  -- the statement holds for the remaining files
  abbrev pub GoesOn : List (List ℕ) → Stage → ℕ → Type 0
  GoesOn names last status = (old : Observed) (course : Course) (pending acts : List Act) → Path old (going pending patch defined mode names course) acts last
      → Went old patch defined mode names course pending acts status

  one_file : (old : Observed) (name : List ℕ) (names : List (List ℕ)) (course : Course) (under : Option (List ℕ)) (mid : Stage) (acts : List Act) (last : Stage)
      (status : ℕ) → GoesOn names last status → Found old.files name under
      → FileLeads old.files under patch defined mode name names course mid → Path old mid acts last
      → status_at last ≡ Some status → Went old patch defined mode (name ∷ names) course [] (Load name file_limit ∷ acts) status
  one_file old name names course None mid acts last status rec found leads path over =
      let end_of = ending-at old mid (Report (cannot_read name) ∷ []) 5 acts last status leads path over in
      record {
        rest = Load name file_limit ∷ acts;
        end = Missing name;
        acts_are = refl;
        went = inl (found, (ap (λ (x : List Act). Load name file_limit ∷ x) end_of.0, refl));
        status_is = end_of.1;
      }
  one_file old name names course (Some bytes) mid acts last status rec found leads path over =
      let treated : Treated = leads.0 in
      let there = subst (λ (m : Stage). Path old m acts last) leads.1.1 path in
      let more = rec old (after_file course treated.tally) treated.acts acts there in
      let load_first = joined_acts (Load name file_limit) acts treated.acts more.rest more.acts_are in
      record {
        rest = Load name file_limit ∷ acts;
        end = more.end;
        acts_are = refl;
        went = inr (bytes, (found, (treated, (leads.1.0, (more.rest, (load_first, more.went))))));
        status_is = more.status_is;
      }

  file_first : (old : Observed) (name : List ℕ) (names : List (List ℕ)) (course : Course) (acts : List Act) (last : Stage)
      (status : ℕ) → GoesOn names last status
      → Path old (Doing [] (EditFiles patch defined mode name names course)) acts last → status_at last ≡ Some status
      → Went old patch defined mode (name ∷ names) course [] acts status
  file_first old name names course [] last status rec path over = absurd (none_some status (ap status_at (sym path) ∙ over))
  file_first old name names course (act ∷ acts) last status rec path over =
      let load : act ≡ Load name file_limit = sym (same_some (Load name file_limit) act path.0) in
      let there = subst (λ (x : Act). Path (after_act x old) path.1.0 acts last) load path.1.1.1 in
      let went = one_file old name names course path.1.1.0.0 path.1.0 acts last status rec path.1.1.0.1.0 path.1.1.0.1.1 there over in
      subst (λ (x : Act). Went old patch defined mode (name ∷ names) course [] (x ∷ acts) status) (sym load) went

  pub files_went : (names : List (List ℕ)) (last : Stage) (status : ℕ) → status_at last ≡ Some status → GoesOn names last status
  files_went [] last status over old course pending acts path =
      let end_of = ending old (pending ++ told course) (end_status course.tally) acts last status path over in
      record {
        rest = told course;
        end = AllDone course.tally;
        acts_are = end_of.0;
        went = (refl, refl);
        status_is = end_of.1;
      }
  files_went (name ∷ names) last status over old course pending acts path =
      let front = through old pending (EditFiles patch defined mode name names course) acts last status path over in
      let one = file_first (after pending old) name names course front.rest last status (files_went names last status over) front.path over in
      record {
        rest = front.rest;
        end = one.end;
        acts_are = front.acts_are;
        went = subst (λ (r : List Act). FilesDo (after pending old) patch defined mode (name ∷ names) course r one.end) (sym one.acts_are) one.went;
        status_is = one.status_is;
      }
