use Rattle.std.proofs.Common.{◌≡◌, ap, ◌∙◌, sym, subst, arith, take, length}
use Rattle.std.proofs.lemmas.List.{take_all}
use Rattle.env_sets.specs.Sets.{set_vars}
use Rattle.env_sets.specs.Splits.{HaveVars}
use Rattle.env_sets.proofs.GroupLemmas.{groups_read, groups_next, vars_next}
use Rattle.env_sets.proofs.PartLemmas.{written_back}
use Rattle.env_sets.proofs.groups.groups_by.Goals as goal

pub loop-e-preserved : goal.loop-e-preserved
loop-e-preserved c =
    let x = c.args.x.now in
    let b = c.args.b.now in
    let i = c.loop-e.e-index in
    let e = c.e-item.result in
    let values = c.values.inside.items.items in
    let new = c.put_in_group.new.groups in
    let h = c.deref_mut.ensures in
    let more = groups_read x values c.as_slice-in-loop-e.result.now
    (take i b) e c.loop-e.groups.items c.deref_mut.result.now new c.loop-e.others.items c.put_in_group.new.others.items
    (c.as_slice-in-loop-e.ensures.items ∙ sym c.values.view_is) h.value (c.in_ok-put_in_group.ensures.meaning (take i b)) c.loop-e.invariant.meaning in
    let back = written_back new c.loop-e.groups.items c.loop-e.groups.len (sym h.len ∙ ap length h.value ∙ c.loop-e.invariant.meaning.0 ∙ sym more.0) in
    record {
      meaning = groups_next x values b i e new _ c.put_in_group.new.others.items (omega arith) c.e-item.is back more;
      vars = λ t. vars_next t b i e c.loop-e.groups.items c.deref_mut.result.now new _ c.loop-e.others.items
          c.put_in_group.new.others.items (omega arith) c.e-item.is h.value back
          (c.in_ok-put_in_group.ensures.vars t) (c.loop-e.invariant.vars t);
    }

pub returns-clause-vars : goal.returns-clause-vars
returns-clause-vars c = λ t all.
    let read : take c.loop-e.e-index c.args.b.now ≡ c.args.b.now = take_all c.loop-e.e-index c.args.b.now (omega (arith, c.loop-e-test.false)) in
    subst (λ os. HaveVars t c.loop-e.groups.items os) (sym c.of.ensures.entries) (c.loop-e.invariant.vars t (ap (set_vars t) read ∙ all))
