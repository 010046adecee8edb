use Rattle.std.proofs.Common.{◌≡◌, ◌+◌, ◌<◌, ◌∷◌, [], List, ℕ, length, drop, get_or, map, ap, arith, add-one, subst}
use Rattle.std.proofs.lemmas.Result.{err_from_is_err_and}
use Rattle.std.proofs.Math.Seq.{drop-cons}
use Rattle.std.proofs.Math.ListN.{drop_of_length-le}
use Rattle.run_acts.proofs.BreaksLemmas.{NoneFell-refl, NoneFell-then}
use Rattle.run_acts.proofs.PlacesLemmas.{SamePlaces-refl, SamePlaces-then}
use Rattle.std.specs.Borrow.{Bor}
use Rattle.smpl_patch.specs.declared.rule.Patch.{Patch}
use Rattle.run_words.specs.declared.order.Mode.{Mode}
use Rattle.run_acts.specs.Acts.{Observed}
use Rattle.run_files.specs.RunStages.Ends.{Goes, Ends}
use Rattle.run_acts.specs.Breaks.{Counts, NoneFell, counts}
use Rattle.run_acts.specs.Lines.{cannot_read}
use Rattle.run_files.specs.declared.tally.Tally.{Tally}
use Rattle.run_files.specs.RunStages.Stages.{Course, Stage, Doing, EditFiles, after_file, going, refusing}
use Rattle.spatch_run.proofs.Chain.{Goes-refl, Goes-then, Goes-ends}
use Rattle.spatch_run.specs.Turns.{TurnsTo}
use Rattle.spatch_run.specs.declared.files.Turn.TheVariants as turn
use Rattle.spatch_run.proofs.Treating.{course_of, turn_goes, turn_absent, told_ends, told_cut}
use Rattle.spatch_run.proofs.files.edit_files.Goals as goal

-- the remaining files, the next one first
left_of : (xs : List (Bor (List ℕ))) (i : ℕ) (x : Bor (List ℕ)) → i < length xs
    → map (λ name. name.now) (drop i xs) ≡ (get_or xs i x).now ∷ map (λ name. name.now) (drop (i + 1) xs)
left_of xs i x less = rw add-one (ap (map (λ name. name.now)) (drop-cons xs i x less))

module _ (patch : Patch) (defined : List (List ℕ)) (mode : Mode) (xs : List (Bor (List ℕ))) (i : ℕ) (x : Bor (List ℕ)) (course : Course) where
  step_on : (tally : Tally) {from : Stage} {old now new : Observed} → i < length xs
      → Goes from old (going [] patch defined mode (map (λ name. name.now) (drop i xs)) course) now
      → TurnsTo (turn.Processed tally) patch defined mode (get_or xs i x).now now new
      → Goes from old (going [] patch defined mode (map (λ name. name.now) (drop (i + 1) xs)) (after_file course tally)) new
  step_on tally {from = from} {old = old} {now = now} less goes turned =
      Goes-then (subst (λ (names : List (List ℕ)). Goes from old (going [] patch defined mode names course) now)
      (left_of xs i x less) goes) (turn_goes patch defined mode (get_or xs i x).now (map (λ name. name.now) (drop (i + 1) xs)) course tally turned)

  step_cut : {from : Stage} {first before now : Counts} {old here new : Observed} {status : ℕ} → i < length xs
      → Goes from old (going [] patch defined mode (map (λ name. name.now) (drop i xs)) course) here → NoneFell first before
      → ((names : List (List ℕ)) (c : Course)
      → Ends (Doing [] (EditFiles patch defined mode (get_or xs i x).now names c)) before now here new status) → Ends from first now old new status
  step_cut {from = from} {old = old} {here = here} less goes fell ends =
      Goes-ends (subst (λ (names : List (List ℕ)). Goes from old (going [] patch defined mode names course) here)
      (left_of xs i x less) goes) fell (ends (map (λ name. name.now) (drop (i + 1) xs)) course)

  step_absent : {from : Stage} {first before mid now : Counts} {old here there new : Observed} {status : ℕ} → i < length xs
      → Goes from old (going [] patch defined mode (map (λ name. name.now) (drop i xs)) course) here → NoneFell first before
      → NoneFell before mid → TurnsTo turn.Absent patch defined mode (get_or xs i x).now here there
      → Ends (refusing (cannot_read (get_or xs i x).now) 5) mid now there new status → Ends from first now old new status
  step_absent {from = from} {first = first} {before = before} {mid = mid} {old = old} {here = here} less goes fell more turned ends =
      Goes-ends (Goes-then (subst (λ (names : List (List ℕ)). Goes from old (going [] patch defined mode names course) here)
      (left_of xs i x less) goes) (turn_absent patch defined mode (get_or xs i x).now
      (map (λ name. name.now) (drop (i + 1) xs)) course turned)) (NoneFell-then first before mid fell more) ends

pub loop-name-init : goal.loop-name-init
loop-name-init g c =
    record { same = SamePlaces-refl c.args.outside.now; fell = NoneFell-refl _; goes = rw c.none-tally.ensures (Goes-refl _ _) }

pub returns-in_err-take_turn-clause-ends : goal.returns-in_err-take_turn-clause-ends
returns-in_err-take_turn-clause-ends g c =
    let inv = c.loop-name.invariant in
    let p = err_from_is_err_and c.from_residual.result c.from_residual.ensures.1 in
    let notes = c.args.notes.now in
    rw (p.1, p.2) (step_cut c.args.rules.now.patch.now c.args.rules.now.defined.now c.args.mode c.args.names.now
    c.loop-name.name-index (record { ref_ptr = (0, 0); now = [] }) (course_of c.loop-name.tally notes)
    (omega arith) inv.goes inv.fell c.in_err-take_turn.ensures.stopped)

pub returns-in-Absent-clause-ends : goal.returns-in-Absent-clause-ends
returns-in-Absent-clause-ends g c =
    let inv = c.loop-name.invariant in
    let notes = c.args.notes.now in
    step_absent c.args.rules.now.patch.now c.args.rules.now.defined.now c.args.mode c.args.names.now c.loop-name.name-index
    (record { ref_ptr = (0, 0); now = [] }) (course_of c.loop-name.tally notes)
    (omega arith) inv.goes inv.fell c.in_ok-take_turn.ensures.fell (rw c.in-Absent.is at c.in_ok-take_turn.ensures.turned)
    (c.refuse_absent.ensures.ends _ _ _ _ _)

pub loop-name-preserved : goal.loop-name-preserved
loop-name-preserved g c =
    let inv = c.loop-name.invariant in
    let notes = c.args.notes.now in
    record {
      same = SamePlaces-then c.args.outside.now c.loop-name.outside c.take_turn.new.outside inv.same c.in_ok-take_turn.ensures.same;
      fell = NoneFell-then _ _ _ inv.fell c.in_ok-take_turn.ensures.fell;
      goes = rw c.join-tally.ensures (step_on c.args.rules.now.patch.now c.args.rules.now.defined.now c.args.mode
          c.args.names.now c.loop-name.name-index (record { ref_ptr = (0, 0); now = [] }) (course_of c.loop-name.tally notes) c.in-Processed.here
          (omega arith) inv.goes (rw c.in-Processed.is at c.in_ok-take_turn.ensures.turned));
    }

pub returns-in_err-tell-clause-ends : goal.returns-in_err-tell-clause-ends
returns-in_err-tell-clause-ends g c =
    let inv = c.loop-name.invariant in
    let p = err_from_is_err_and c.from_residual-in_err-tell.result c.from_residual-in_err-tell.ensures.1 in
    let none : drop c.loop-name.name-index c.args.names.now ≡ [] = drop_of_length-le c.args.names.now (omega arith) in
    let notes = c.args.notes.now in
    let last = c.loop-name.outside in
    let s = g.S.Loads.faults last.shelf.now in
    let o = g.O.Sink.faults last.out.now in
    let fell : NoneFell (counts s o (g.E.Sink.faults last.err.now)) (counts s o (g.E.Sink.faults c.tell.new.err)) =
    record { shelf = omega arith; out = omega arith; err = c.in_err-tell.ensures.later } in
    rw (p.1, p.2) (Goes-ends (rw none at inv.goes) inv.fell (told_cut c.args.rules.now.patch.now c.args.rules.now.defined.now c.args.mode
    (course_of c.loop-name.tally notes) fell (c.in_err-tell.ensures.stopped _ _ _ s o s o)))

pub returns-clause-ends : goal.returns-clause-ends
returns-clause-ends g c =
    let inv = c.loop-name.invariant in
    let none : drop c.loop-name.name-index c.args.names.now ≡ [] = drop_of_length-le c.args.names.now (omega arith) in
    let notes = c.args.notes.now in
    let last = c.loop-name.outside in
    let s = g.S.Loads.faults last.shelf.now in
    let o = g.O.Sink.faults last.out.now in
    let fell : NoneFell (counts s o (g.E.Sink.faults last.err.now)) (counts s o (g.E.Sink.faults c.tell.new.err)) =
    record { shelf = omega arith; out = omega arith; err = c.in_ok-tell.ensures.later } in
    rw c.end_status.ensures (Goes-ends (rw none at inv.goes) inv.fell (told_ends c.args.rules.now.patch.now c.args.rules.now.defined.now c.args.mode
    (course_of c.loop-name.tally notes) fell (c.in_ok-tell.ensures.done _ _ _)))
