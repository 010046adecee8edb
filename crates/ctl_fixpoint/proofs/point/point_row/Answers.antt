use Rattle.std.proofs.Common.{◌≡◌, ◌+◌, ℕ, true, sym, subst, arith}
use Rattle.smpl_terms.specs.Environments.{Environment}
use Rattle.ctl_fixpoint.specs.Steps.{row_of, has, row_vars, step, Gives}
use Rattle.ctl_fixpoint.proofs.RowLemmas.{Gives-push, row_vars-push}
use Rattle.ctl_fixpoint.proofs.point.point_row.Goals as goal

pub loop-s-preserved : goal.loop-s-preserved
loop-s-preserved c =
    let f = c.args.f.now in
    let test = λ (s : ℕ) (env : Environment).
    step f.decls f.tokens c.args.g.now (λ i k. has (row_of c.args.rows.now i) k env) c.args.node.now s env in
    let items = c.in_ok-push.ensures.items in
    let r = c.in_ok-point_set.field-0 in
    record {
      gives = subst (λ s. Gives (c.loop-s.s + 1) s test) (sym items)
          (Gives-push c.loop-s.s c.loop-s.sets.items r test c.loop-s.invariant.gives c.in_ok-point_set.ensures.gives);
      vars = λ t h. subst (λ s. row_vars t s ≡ true) (sym items)
          (row_vars-push t c.loop-s.sets.items r (c.loop-s.invariant.vars t h) (c.in_ok-point_set.ensures.vars t h));
    }
