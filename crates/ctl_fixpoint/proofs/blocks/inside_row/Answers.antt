use Rattle.std.proofs.Common.{◌≡◌, ℕ, suc, ◌+◌, Bool, true, not, ◌&&◌, ◌||◌, sym, ap, ◌∙◌, subst, arith}
use Rattle.smpl_terms.specs.Environments.{Environment}
use Rattle.env_sets.specs.Sets.{set_denotes, set_vars}
use Rattle.ctl_fixpoint.specs.CtlHolds.Holding.{at_node, is_open, is_close, is_brace, open_after, in_block}
use Rattle.ctl_fixpoint.specs.Steps.{row_vars, Gives}
use Rattle.ctl_fixpoint.proofs.RowLemmas.{Gives-push, row_vars-push}
use Rattle.ctl_fixpoint.proofs.blocks.inside_row.Goals as goal

pub loop-s-preserved : goal.loop-s-preserved
loop-s-preserved c =
    let g = c.args.g.now in
    let b = c.args.b.now in
    let s = c.loop-s.s in
    let test = λ (k : ℕ) (env : Environment). in_block g (env b) k in
    let here = λ (env : Environment).
    c.in_ok-around.ensures.gives env
    ∙ (λ i. at_node g s (λ l. is_brace is_open (env b) l || (not (is_brace is_close (env b) l) && c.loop-s.invariant.around_gives env i))) in
    let next : suc s ≡ s + 1 = omega arith in
    let items = c.in_ok-push.ensures.items in
    let r = c.in_ok-copy.field-0 in
    let same = c.in_ok-copy.ensures.same in
    record {
      gives = subst (λ row. Gives (s + 1) row test) (sym items)
          (Gives-push s c.loop-s.sets.items r test c.loop-s.invariant.gives
          (λ env. ap (λ e. set_denotes e env) same ∙ here env));
      vars = λ t h. subst (λ row. row_vars t row ≡ true) (sym items)
          (row_vars-push t c.loop-s.sets.items r (c.loop-s.invariant.vars t h)
          (ap (set_vars t) same ∙ c.in_ok-around.ensures.vars t h (c.loop-s.invariant.around_vars t h)));
      around_gives = λ env. here env ∙ ap (open_after g (env b)) next;
      around_vars = λ t h. c.in_ok-around.ensures.vars t h (c.loop-s.invariant.around_vars t h);
    }
