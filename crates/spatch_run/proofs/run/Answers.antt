-- The shelf and the outputs that `outside` leads to at its end are those that the caller passed.
use Rattle.std.proofs.Common.{rules}
use Rattle.run_acts.specs.Acts.{observed}
use Rattle.run_acts.specs.Breaks.{NoneFell, counts}
use Rattle.run_files.specs.RunStages.Promise.{IsExact, EndsRightly}
use Rattle.run_files.specs.RunStages.Causes.{Causes}
use Rattle.spatch_run.specs.Answer.{answer}
use Rattle.spatch_run.proofs.Exact.{exact, ends_rightly, of_equal}
use Rattle.spatch_run.proofs.run.Goals as goal

pub returns-clause-exact : goal.returns-clause-exact
returns-clause-exact g c =
    let shelf = c.args.shelf.now in let out = c.args.out.now in let err = c.args.err.now in let last = c.follow_words.new.outside in
    rw (c.number.ensures, c.status_of.ensures) (of_equal (λ s o e. IsExact c.args.words.now
    (counts (g.S.Loads.faults shelf) (g.O.Sink.faults out) (g.E.Sink.faults err))
    (counts (g.S.Loads.faults s) (g.O.Sink.faults o) (g.E.Sink.faults e))
    (observed (g.S.Loads.holds shelf) (g.S.Loads.stores shelf) (g.O.Sink.written out) (g.E.Sink.written err))
    (observed (g.S.Loads.holds s) (g.S.Loads.stores s) (g.O.Sink.written o) (g.E.Sink.written e)) (answer c.follow_words.result))
    {s = last.shelf.now} {o = last.out.now} {e = last.err.now}
    (exact c.follow_words.ensures.ends) (search rules) (search rules) (search rules))

pub returns-clause-ends : goal.returns-clause-ends
returns-clause-ends g c =
    let shelf = c.args.shelf.now in let out = c.args.out.now in let err = c.args.err.now in let last = c.follow_words.new.outside in
    rw (c.number.ensures, c.status_of.ensures) (of_equal (λ s o e. EndsRightly c.args.words.now
    (counts (g.S.Loads.faults shelf) (g.O.Sink.faults out) (g.E.Sink.faults err))
    (counts (g.S.Loads.faults s) (g.O.Sink.faults o) (g.E.Sink.faults e))
    (observed (g.S.Loads.holds shelf) (g.S.Loads.stores shelf) (g.O.Sink.written out) (g.E.Sink.written err))
    (observed (g.S.Loads.holds s) (g.S.Loads.stores s) (g.O.Sink.written o) (g.E.Sink.written e)) (answer c.follow_words.result))
    {s = last.shelf.now} {o = last.out.now} {e = last.err.now}
    (ends_rightly c.follow_words.ensures.ends) (search rules) (search rules) (search rules))

pub returns-clause-later : goal.returns-clause-later
returns-clause-later g c =
    let shelf = c.args.shelf.now in let out = c.args.out.now in let err = c.args.err.now in let last = c.follow_words.new.outside in
    of_equal (λ s o e. NoneFell
    (counts (g.S.Loads.faults shelf) (g.O.Sink.faults out) (g.E.Sink.faults err))
    (counts (g.S.Loads.faults s) (g.O.Sink.faults o) (g.E.Sink.faults e)))
    {s = last.shelf.now} {o = last.out.now} {e = last.err.now}
    c.follow_words.ensures.ends.fell (search rules) (search rules) (search rules)

pub returns-clause-causes : goal.returns-clause-causes
returns-clause-causes g c =
    let shelf = c.args.shelf.now in let out = c.args.out.now in let err = c.args.err.now in let last = c.follow_words.new.outside in
    rw (c.number.ensures, c.status_of.ensures) (of_equal (λ s o e. Causes c.args.words.now
    (counts (g.S.Loads.faults shelf) (g.O.Sink.faults out) (g.E.Sink.faults err))
    (counts (g.S.Loads.faults s) (g.O.Sink.faults o) (g.E.Sink.faults e))
    (observed (g.S.Loads.holds shelf) (g.S.Loads.stores shelf) (g.O.Sink.written out) (g.E.Sink.written err))
    (observed (g.S.Loads.holds s) (g.S.Loads.stores s) (g.O.Sink.written o) (g.E.Sink.written e)) (answer c.follow_words.result))
    {s = last.shelf.now} {o = last.out.now} {e = last.err.now}
    (c.statuses_have_a_cause.ensures _ _ _ _ _ _ (ends_rightly c.follow_words.ensures.ends)) (search rules) (search rules) (search rules))
