use Rattle.std.proofs.Common.{◌<◌, ◌||◌, false, length, arith, ap, sym, ◌∙◌}
use Rattle.std.proofs.lemmas.List.Folds.{list_any_more}
use Rattle.std.proofs.lemmas.Result.{IfOk-weaker}
use Rattle.env_sets.specs.Sets.{set_denotes, set_vars}
use Rattle.ctl_fixpoint.specs.CtlHolds.Rounds.{passes}
use Rattle.ctl_fixpoint.specs.Steps.{has}
use Rattle.ctl_fixpoint.proofs.RowLemmas.{member, take_all, row_vars-at}
use Rattle.ctl_fixpoint.proofs.rows.some_of.Goals as goal

pub set_in-requires : goal.set_in-requires
set_in-requires c =
    let lt : c.loop-k.k-index < length c.args.next.now = omega arith in
    c.requires _ (member c.args.next.now c.loop-k.k-index lt)

pub loop-k-preserved : goal.loop-k-preserved
loop-k-preserved c =
    let lt : c.loop-k.k-index < length c.args.next.now = omega arith in
    let same = c.in_ok-copy.ensures.same ∙ c.set_in.ensures in
    record {
      gives = λ env.
          c.in_ok-put_set.ensures.meaning env
          ∙ (λ i. c.loop-k.invariant.gives env i || set_denotes (same i) env)
          ∙ sym (list_any_more (λ k. has c.args.x.now k env) c.args.next.now c.loop-k.k-index 0 lt);
      vars = λ test all.
          c.in_ok-put_set.ensures.vars test (c.loop-k.invariant.vars test all)
          (ap (set_vars test) same ∙ row_vars-at test c.args.x.now _ all (c.requires _ (member c.args.next.now c.loop-k.k-index lt)));
    }

pub returns-clause-gives : goal.returns-clause-gives
returns-clause-gives c = IfOk-weaker c.union.result _ _
    (λ r h env. h env ∙ c.loop-k.invariant.gives env
    ∙ ap (passes false (λ k. has c.args.x.now k env)) (take_all c.args.next.now c.loop-k.k-index c.loop-k-test.false))
    c.union.ensures.meaning

pub returns-clause-vars : goal.returns-clause-vars
returns-clause-vars c = IfOk-weaker c.union.result _ _
    (λ r h test all. h test (c.loop-k.invariant.vars test all)) c.union.ensures.vars
