use Rattle.std.proofs.Common.{refl, sym, ◌∙◌}
use Rattle.std.proofs.lemmas.Bool.{false≢true}
use Rattle.c_lexer.proofs.Walks.{quiet_step, dead_drop, kind_drop}
use Rattle.c_lexer.proofs.between.never_accepts.Goals as goal

pub returns-in-Some-kind_at : goal.returns-in-Some-kind_at
returns-in-Some-kind_at c = (
  (λ e. absurd (false≢true e)),
  (λ quiet. absurd (kind_drop c.loop-b.state _ _ _ c.loop-b.b-index c.loop-b-test.true (sym c.step.ensures ∙ c.in-Some.is)
      (sym c.kind_at.ensures ∙ c.in-Some-kind_at.is) (c.loop-b.invariant.on quiet))),
)

pub returns-in-None : goal.returns-in-None
returns-in-None c = (
  (λ _. c.loop-b.invariant.back (dead_drop _ _ _ c.loop-b-test.true (sym c.step.ensures ∙ c.in-None.is))),
  (λ _. refl),
)

pub loop-b-preserved : goal.loop-b-preserved
loop-b-preserved c =
    let both = quiet_step c.loop-b.state c.in-Some.next c.args.bytes.now c.loop-b.b-index c.loop-b-test.true
    (sym c.step.ensures ∙ c.in-Some.is) (sym c.kind_at.ensures ∙ c.in-None-kind_at.is) in
    record {
      on = λ quiet. both.0 (c.loop-b.invariant.on quiet);
      back = λ quiet. c.loop-b.invariant.back (both.1 quiet);
    }
