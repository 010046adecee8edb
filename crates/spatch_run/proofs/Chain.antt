-- Acts that follow one another.
use Rattle.std.proofs.Common.{◌≡◌, ℕ, List, [], ◌∷◌, ◌++◌, Some, refl, sym, ap, ◌∙◌, inl, inr}
use Rattle.run_acts.specs.Acts.{Act, Observed, after_act, after}
use Rattle.run_acts.specs.Breaks.{Counts, NoneFell, Breaks}
use Rattle.run_acts.proofs.BreaksLemmas.{NoneFell-refl, NoneFell-then, Breaks-earlier}
use Rattle.run_files.specs.RunStages.Stages.{Stage, next_act, status_at, Leads}
use Rattle.run_files.specs.RunStages.Paths.{Path}
use Rattle.run_files.specs.RunStages.Ends.{Goes, Ends}

after-append : (acts more : List Act) (old : Observed) → after (acts ++ more) old ≡ after more (after acts old)
after-append [] more old = refl
after-append (act ∷ acts) more old = after-append acts more (after_act act old)

Path-append : (old : Observed) (from mid to : Stage) (acts more : List Act) → Path old from acts mid
    → Path (after acts old) mid more to → Path old from (acts ++ more) to
Path-append old from mid to [] more first second = rw (← first) second
Path-append old from mid to (act ∷ acts) more first second =
    (first.0, (first.1.0, (first.1.1.0, Path-append (after_act act old) first.1.0 mid to acts more first.1.1.1 second)))

pub Goes-refl : (from : Stage) (old : Observed) → Goes from old from old
Goes-refl from old = record { acts = []; path = refl; observed = refl }

pub Goes-then : {from mid to : Stage} {old now new : Observed} → Goes from old mid now → Goes mid now to new → Goes from old to new
Goes-then {from = from} {mid = mid} {to = to} {old = old} first second = record {
  acts = first.acts ++ second.acts;
  path = Path-append old from mid to first.acts second.acts first.path (rw (← first.observed) second.path);
  observed = second.observed ∙ ap (after second.acts) first.observed ∙ sym (after-append first.acts second.acts old);
}

-- one act was done
pub Goes-act : (from : Stage) (act : Act) (to : Stage) (old new : Observed) → next_act from ≡ Some act → Leads old.files from to
    → new ≡ after_act act old → Goes from old to new
Goes-act from act to old new next leads observed = record {
  acts = act ∷ [];
  path = (next, (to, (leads, refl)));
  observed = observed;
}

-- the run has ended
pub over : (from : Stage) (now : Counts) (old : Observed) (status : ℕ) → status_at from ≡ Some status → Ends from now now old old status
over from now old status is = record {
  stage = from;
  mid = old;
  goes = Goes-refl from old;
  fell = NoneFell-refl now;
  end = inl (is, refl);
}

-- the next act broke
pub broken : (from : Stage) (act : Act) {before now : Counts} {old new : Observed} {status : ℕ} → next_act from ≡ Some act
    → NoneFell before now → Breaks before now act old new status → Ends from before now old new status
broken from act {old = old} next fell breaks = record {
  stage = from;
  mid = old;
  goes = Goes-refl from old;
  fell = fell;
  end = inr (act, (next, breaks));
}

-- the run went on, and ended from there; the counts may begin earlier
pub Goes-ends : {from mid : Stage} {first before now : Counts} {old here new : Observed} {status : ℕ} → Goes from old mid here
    → NoneFell first before → Ends mid before now here new status → Ends from first now old new status
Goes-ends {first = first} {before = before} {now = now} {new = new} {status = status} goes fell rest = record {
  stage = rest.stage;
  mid = rest.mid;
  goes = Goes-then goes rest.goes;
  fell = NoneFell-then first before now fell rest.fell;
  end = elim rest.end [
    | inl whole ↦ inl whole
    | inr cut ↦ inr (cut.0, (cut.1.0, Breaks-earlier first before now cut.0 rest.mid new status fell cut.1.1))
  ];
}
