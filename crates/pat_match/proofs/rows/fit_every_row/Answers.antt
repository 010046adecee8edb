use Rattle.std.proofs.Common.{refl, sym, ap, ◌∙◌, ◌-◌, arith, length}
use Rattle.std.specs.List.{list_all}
use Rattle.smpl_terms.specs.Environments.{Environment}
use Rattle.env_sets.specs.Sets.{set_vars}
use Rattle.pat_match.specs.Rows.{row_at, set_at, row_vars}
use Rattle.pat_match.proofs.EveryLemmas.{tail_end, tail_none, tail_set, tail_put, tail_done}
use Rattle.pat_match.proofs.rows.fit_every_row.Goals as goal

pub loop-from-init : goal.loop-from-init
loop-from-init c = record {
  within = omega arith;
  set = λ env. c.none-set.ensures.meaning env ∙ sym (tail_end c.args.count c.args.row.now _ env (omega arith));
  out = λ n env lt. ap (λ l. row_at l n env) c.new-out.ensures.items ∙ tail_none c.args.count n _ _ lt refl;
  set_vars = λ t all. ap (set_vars t) c.none-set.ensures.entries;
  out_vars = λ t all. ap (row_vars t) c.new-out.ensures.items;
}

pub put_from-requires : goal.put_from-requires
put_from-requires c = omega (arith, c.in_ok-sets.ensures.even, c.loop-from.invariant.within, c.loop-from-test.true, ap length c.as_slice.ensures.value)

pub loop-from-preserved : goal.loop-from-preserved
loop-from-preserved c =
    let set = λ (env : Environment). tail_set c.args.count c.args.row.now (c.loop-from.from - 1) c.loop-from.from env _ _ _
    (omega (arith, c.loop-from-test.true))
    (omega (arith, c.loop-from.invariant.within, c.loop-from-test.true)) (c.in_ok-set.ensures.set env) (c.loop-from.invariant.set env)
    (ap (λ l. set_at l (c.loop-from.from - 1) env) c.as_slice.ensures.value
    ∙ c.in_ok-sets.ensures.meaning (c.loop-from.from - 1) env (omega (arith, c.loop-from.invariant.within, c.loop-from-test.true))) in
    record {
      within = omega (arith, c.loop-from.invariant.within);
      set = set;
      out = λ n env lt. tail_put c.args.row.now _ _ c.args.count (c.loop-from.from - 1) c.loop-from.from n env _
          (omega (arith, c.loop-from-test.true)) (c.in_ok-set.ensures.row n env) (c.loop-from.invariant.out n env lt) (set env);
      set_vars = λ t all. c.in_ok-set.ensures.vars t (c.loop-from.invariant.set_vars t all)
          (ap (list_all (set_vars t)) c.as_slice.ensures.value ∙ c.in_ok-sets.ensures.vars t all);
      out_vars = λ t all. c.in_ok-set.ensures.row_vars t (c.loop-from.invariant.out_vars t all)
          (c.in_ok-set.ensures.vars t (c.loop-from.invariant.set_vars t all)
          (ap (list_all (set_vars t)) c.as_slice.ensures.value ∙ c.in_ok-sets.ensures.vars t all));
    }

pub returns-clause-meaning : goal.returns-clause-meaning
returns-clause-meaning c = λ n env lt. tail_done n c.loop-from.from _ _ (omega (arith, c.loop-from-test.false)) (c.loop-from.invariant.out n env lt)
