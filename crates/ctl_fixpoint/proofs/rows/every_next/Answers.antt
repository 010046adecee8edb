use Rattle.std.proofs.Common.{◌<◌, ◌&&◌, ap, sym, ◌∙◌, length, arith}
use Rattle.std.proofs.lemmas.List.Folds.{list_all_more}
use Rattle.env_sets.specs.Sets.{set_denotes, set_vars}
use Rattle.ctl_fixpoint.specs.Steps.{has}
use Rattle.ctl_fixpoint.proofs.RowLemmas.{member, row_vars-at}
use Rattle.ctl_fixpoint.proofs.rows.every_next.Goals as goal

pub set_in-requires : goal.set_in-requires
set_in-requires c =
    let lt : c.loop-k.k-index < length c.args.next.now = omega arith in
    c.requires _ (member c.args.next.now c.loop-k.k-index lt)

pub loop-k-preserved : goal.loop-k-preserved
loop-k-preserved c =
    let lt : c.loop-k.k-index < length c.args.next.now = omega arith in
    record {
      gives = λ env.
          c.in_ok-out-2.ensures.meaning env
          ∙ (λ i. c.loop-k.invariant.gives env i && set_denotes (c.set_in.ensures i) env)
          ∙ sym (list_all_more (λ k. has c.args.x.now k env) c.args.next.now c.loop-k.k-index 0 lt);
      vars = λ test all.
          c.in_ok-out-2.ensures.vars test (c.loop-k.invariant.vars test all)
          (ap (set_vars test) c.set_in.ensures ∙ row_vars-at test c.args.x.now _ all (c.requires _ (member c.args.next.now c.loop-k.k-index lt)));
    }
