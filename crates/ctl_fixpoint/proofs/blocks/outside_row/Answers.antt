use Rattle.std.proofs.Common.{◌≡◌, ℕ, suc, ◌+◌, Bool, true, not, ◌&&◌, ◌||◌, sym, ap, ◌∙◌, subst, arith}
use Rattle.smpl_terms.specs.Environments.{Environment}
use Rattle.env_sets.specs.Sets.{set_denotes, set_vars}
use Rattle.ctl_fixpoint.specs.CtlHolds.Holding.{at_node, is_open, is_close, is_brace, open_after, off_block}
use Rattle.ctl_fixpoint.specs.Steps.{row_vars, Gives}
use Rattle.ctl_fixpoint.proofs.BlockLemmas.{twice}
use Rattle.ctl_fixpoint.proofs.RowLemmas.{Gives-push, row_vars-push}
use Rattle.ctl_fixpoint.proofs.blocks.outside_row.Goals as goal

pub loop-s-preserved : goal.loop-s-preserved
loop-s-preserved c =
    let g = c.args.g.now in
    let b = c.args.b.now in
    let s = c.loop-s.s in
    let test = λ (k : ℕ) (env : Environment). off_block g (env b) k in
    let were = λ (env : Environment). ap not (c.loop-s.invariant.shut_gives env) ∙ twice (open_after g (env b) s) in
    let after = λ (env : Environment).
    c.in_ok-shut-2.ensures.gives env
    ∙ (λ i. not (at_node g s (λ l. is_brace is_open (env b) l || (not (is_brace is_close (env b) l) && were env i)))) in
    let here = λ (env : Environment).
    c.in_ok-without_end.ensures.gives env ∙ (λ i. at_node g s (λ l. not (is_brace is_close (env b) l) && after env i)) in
    let next : suc s ≡ s + 1 = omega arith in
    let items = c.in_ok-push.ensures.items in
    let r = c.in_ok-without_end.field-0 in
    record {
      gives = subst (λ row. Gives (s + 1) row test) (sym items)
          (Gives-push s c.loop-s.sets.items r test c.loop-s.invariant.gives here);
      vars = λ t h. subst (λ row. row_vars t row ≡ true) (sym items)
          (row_vars-push t c.loop-s.sets.items r (c.loop-s.invariant.vars t h)
          (c.in_ok-without_end.ensures.vars t h (c.in_ok-shut-2.ensures.vars t h (c.loop-s.invariant.shut_vars t h))));
      shut_gives = λ env. after env ∙ ap (λ k. not (open_after g (env b) k)) next;
      shut_vars = λ t h. c.in_ok-shut-2.ensures.vars t h (c.loop-s.invariant.shut_vars t h);
    }
