use Rattle.std.proofs.Common.{◌++◌, ap, sym, subst, arith, List}
use Rattle.std.proofs.lemmas.Result.{IfOk-weaker}
use Rattle.smpl_patch.specs.declared.elem.Elem.{Elem}
use Rattle.smpl_patch.specs.Bodies.{body}
use Rattle.smpl_patch.proofs.BodyLemmas.{bodies}
use Rattle.ctl_table.specs.Table as table
use Rattle.ctl_table.specs.Settings.{setting_at}
use Rattle.ctl_table.specs.EndAtoms.{MakesEachEndAtoms}
use Rattle.smpl_patch.proofs.Weights.{weight_body, body-at, bodies-at, weight-first}
use Rattle.ctl_table.proofs.RowLemmas.{taken}
use Rattle.ctl_table.proofs.EndLemmas.{none-end_atoms, no-each_end_atoms, ends_of-none, ends_of-at, ends_of-step}
use Rattle.ctl_table.proofs.EndLemmas.{ends_of_first-none, ends_of_first-at, end_atoms-as, any-made}
use Rattle.ctl_table.proofs.ends_of.+ends_of.Goals as goal

pub ends_of_body-ends_of-requires : goal.ends_of_body-ends_of-requires
ends_of_body-ends_of-requires t c =
    let w = body-at c.args.b.now c.end_of-i.result c.index-b-i.result c.end_of-i.ensures.within c.index-b-i.is in
    (omega (arith, w), tt)

pub ends_of_body-returns-then-b-eq0 : goal.ends_of_body-returns-then-b-eq0
ends_of_body-returns-then-b-eq0 t c = record {
  made = none-end_atoms c.args.parts.now _ (λ more. ends_of-none (setting_at c.args.m.now) c.args.last c.args.b.now (c.args.scope.now ++ more) c.if-b-eq0.true);
}

pub ends_of_body-returns : goal.ends_of_body-returns
ends_of_body-returns t c = record {
  made = IfOk-weaker c.ends_of.result _ _
      (λ o h. end_atoms-as c.args.parts.now c.ends_of.new.parts o _ _
      (λ more. sym (ends_of-at (setting_at c.args.m.now) c.args.last c.args.b.now
      (c.args.scope.now ++ more) c.end_of-i.result c.index-b-i.result c.end_of-i.ensures.within c.end_of-i.ensures.value c.index-b-i.is)) h)
      c.ends_of.ensures.made;
}

pub ends_of_any-ends_of_body-requires : goal.ends_of_any-ends_of_body-requires
ends_of_any-ends_of_body-requires t c =
    let w = bodies-at c.args.bs.now c.loop-b.b-index c.b-item.result c.loop-b-test.true c.b-item.is in
    let e = ap (λ z. weight_body (body z)) c.as_slice-body.ensures in
    (omega (arith, w, e), tt)

pub ends_of_any-loop-b-init : goal.ends_of_any-loop-b-init
ends_of_any-loop-b-init t c = no-each_end_atoms c.args.parts.now _ (cc)

pub ends_of_any-loop-b-preserved : goal.ends_of_any-loop-b-preserved
ends_of_any-loop-b-preserved t c =
    ends_of-step (setting_at c.args.m.now) c.args.last c.args.parts.now c.loop-b.parts c.ends_of_body.new.parts c.args.scope.now c.args.bs.now
    c.b-item.result c.as_slice-body.result.now c.loop-b.found.items c.push_end_atoms.new.found.items c.loop-b.b-index c.in_ok-end_atoms.end_atoms
    c.loop-b-test.true c.b-item.is c.as_slice-body.ensures c.in_ok-push_end_atoms.ensures c.loop-b.invariant c.in_ok-end_atoms.ensures.made

pub ends_of_any-returns : goal.ends_of_any-returns
ends_of_any-returns t c = record {
  made = any-made (setting_at c.args.m.now) c.args.last c.args.parts.now c.loop-b.parts c.args.scope.now c.loop-b.found.items _ c.args.bs.now c.from_vec.ensures
      (subst (λ (z : List (List Elem)). MakesEachEndAtoms c.args.parts.now c.loop-b.parts c.loop-b.found.items
      (λ more. table.ends_of_each (setting_at c.args.m.now) c.args.last (bodies z) (c.args.scope.now ++ more)))
      (taken c.loop-b.b-index c.args.bs.now (omega arith)) c.loop-b.invariant);
}

pub ends_of_all-ends_of_body-requires : goal.ends_of_all-ends_of_body-requires
ends_of_all-ends_of_body-requires t c =
    let w = weight-first c.args.bs.now c.b-item.result c.in-len1-up.len_at_least c.b-item.is in
    let e = ap (λ z. weight_body (body z)) c.as_slice.ensures in
    (omega (arith, w, e), tt)

pub ends_of_all-returns-in-empty : goal.ends_of_all-returns-in-empty
ends_of_all-returns-in-empty t c = record {
  made = none-end_atoms c.args.parts.now _
      (λ more. ends_of_first-none (setting_at c.args.m.now) c.args.last c.args.bs.now (c.args.scope.now ++ more) (omega arith));
}

pub ends_of_all-returns-in-len1-up : goal.ends_of_all-returns-in-len1-up
ends_of_all-returns-in-len1-up t c = record {
  made = IfOk-weaker c.ends_of_body.result _ _
      (λ o h. end_atoms-as c.args.parts.now c.ends_of_body.new.parts o _ _
      (λ more. ends_of_first-at (setting_at c.args.m.now) c.args.last c.args.bs.now c.b-item.result c.as_slice.result.now
      (c.args.scope.now ++ more) c.in-len1-up.len_at_least c.b-item.is c.as_slice.ensures) h)
      c.ends_of_body.ensures.made;
}
