use Rattle.std.proofs.Common.{◌≡◌, ◌<◌, ◌≤◌, ◌||◌, ap, ◌∙◌, subst, sym, arith, length, true, false}
use Rattle.std.proofs.lemmas.Option.{get_or_from_slice_get}
use Rattle.std.proofs.lemmas.Result.{IfOk-weaker, err_from_is_err_and}
use Rattle.std.specs.List.{list_any}
use Rattle.smpl_terms.specs.Values.{same}
use Rattle.smpl_terms.specs.Environments.{total}
use Rattle.smpl_patch.specs.declared.witness.Witness.TheVariants.{Bind}
use Rattle.ctl_formula.specs.Tables.{plains, plain_of}
use Rattle.wit_forest.specs.WitOrder.Forests.{has, HaveSame, Rise}
use Rattle.wit_forest.specs.WitOrder.Same.{same_forest, same_witness}
use Rattle.wit_forest.specs.WitOrder.Sizes.{forest_size}
use Rattle.wit_forest.specs.WitTrees.Forest.{is_hidden}
use Rattle.wit_forest.specs.Gathered.{Adds, Grows, HasTooMany, IsExplored, IsHiddenDone, IsShownDone, forest_at, is_there, quantified}
use Rattle.wit_forest.proofs.GatherLemmas.{gathered_more, gathered_all, root_rises, state_in_range, state_low, large_state, large_all}
use Rattle.wit_forest.proofs.GrowLemmas.{grows_more}
use Rattle.wit_forest.proofs.LargeLemmas.{one_forest}
use Rattle.wit_forest.proofs.ReadyLemmas.{of_both, node_read, no_quantifier, part_stands, own_in_range, own_below, own_bound}
use Rattle.wit_forest.proofs.VisitLemmas.{quantifier_adds, quantifier_explored, quantifier_large, own_large, step_adds, step_explored, step_grows}
use Rattle.wit_forest.proofs.ShownLemmas.{shown_none, shown_more, shown_there, shown_all, large_shown, large_so_far}
use Rattle.wit_forest.proofs.gather.+forest.Goals as goal

pub visit_values-loop-v-init : goal.visit_values-loop-v-init
visit_values-loop-v-init t c =
    shown_none c.args.g.now c.args.f.now c.args.x.now c.args.part c.args.node (total c.args.env.now) c.deref-v-items.result.now c.args.found.now

pub visit_values-loop-v-preserved : goal.visit_values-loop-v-preserved
visit_values-loop-v-preserved t c =
    let g = c.args.g.now in
    let f = c.args.f.now in
    let us = c.deref-v-items.result.now in
    let lt : c.loop-v.v-index < length us = omega arith in
    shown_more g f c.args.x.now c.args.part c.args.node (total c.args.env.now) us c.loop-v.v-index c.args.found.now c.loop-v.found c.put.new.self
    c.v-item.result c.in_ok-copy-2.field-0 c.in_ok-copy.field-0 (total c.in_ok-inner.inner) c.from_vec.result
    lt c.v-item.is c.in_ok-copy-2.ensures.same c.in_ok-copy.ensures.same (λ i y. c.in_ok-inner.ensures.value y i)
    (subst (λ ws. same_forest ws (forest_at g f c.args.part c.args.node (total c.in_ok-inner.inner)) ≡ true)
    (sym c.from_vec.ensures) c.in_ok-under.ensures.trees)
    c.in_ok-put.ensures.trees c.loop-v.invariant

pub visit_values-returns-in_err-under-clause-too_many : goal.visit_values-returns-in_err-under-clause-too_many
visit_values-returns-in_err-under-clause-too_many t c = λ h.
    let us = c.deref-v-items.result.now in
    let lt : c.loop-v.v-index < length us = omega arith in
    let is = c.v-item.is in
    let p = err_from_is_err_and c.from_residual-in_err-under.result c.from_residual-in_err-under.ensures.1 in
    large_shown c.args.g.now c.args.f.now c.args.x.now c.args.part c.args.node (total c.args.env.now) c.requires.ready.sound c.requires.range.node
    (part_stands c.args.g.now c.args.f.now c.args.sets.now c.requires.ready c.args.part c.args.part c.args.node c.requires.range) c.requires.bound us
    (λ v. ap (λ l. list_any (λ u. same u v) l) c.deref-v-items.ensures.value ∙ c.in_ok-values.ensures.values v) c.requires.shown
    c.args.found.now c.v-item.result (c.loop-v.v-index, lt, sym is) (total c.in_ok-inner.inner) (λ i y. c.in_ok-inner.ensures.value y i)
    (c.in_err-under.ensures.too_many (cc (h, p.1, p.2)))

pub visit_values-returns-in_err-put-clause-too_many : goal.visit_values-returns-in_err-put-clause-too_many
visit_values-returns-in_err-put-clause-too_many t c = λ h.
    let g = c.args.g.now in
    let f = c.args.f.now in
    let us = c.deref-v-items.result.now in
    let lt : c.loop-v.v-index < length us = omega arith in
    let p = err_from_is_err_and c.from_residual-in_err-put.result c.from_residual-in_err-put.ensures.1 in
    large_so_far g f c.args.x.now c.args.part c.args.node (total c.args.env.now) c.requires.ready.sound c.requires.range.node
    (part_stands g f c.args.sets.now c.requires.ready c.args.part c.args.part c.args.node c.requires.range) c.requires.bound us
    (λ v. ap (λ l. list_any (λ u. same u v) l) c.deref-v-items.ensures.value ∙ c.in_ok-values.ensures.values v) c.requires.shown
    c.loop-v.v-index c.args.found.now c.loop-v.found c.v-item.result c.in_ok-copy-2.field-0 c.in_ok-copy.field-0 (total c.in_ok-inner.inner) c.from_vec.result
    lt c.v-item.is c.in_ok-copy-2.ensures.same c.in_ok-copy.ensures.same (λ i y. c.in_ok-inner.ensures.value y i)
    (subst (λ ws. same_forest ws (forest_at g f c.args.part c.args.node (total c.in_ok-inner.inner)) ≡ true)
    (sym c.from_vec.ensures) c.in_ok-under.ensures.trees)
    c.loop-v.invariant
    (subst (λ d. HasTooMany d (λ z. has c.loop-v.found z || same_witness (Bind c.args.node c.in_ok-copy.field-0 c.in_ok-copy-2.field-0 c.from_vec.result) z))
    c.decls.ensures.decls (c.in_err-put.ensures.too_many (cc (h, p.1, p.2))))

pub visit_values-returns-clause-there : goal.visit_values-returns-clause-there
visit_values-returns-clause-there t c =
    let us = c.deref-v-items.result.now in
    let le : length us ≤ c.loop-v.v-index = omega arith in
    shown_there c.args.g.now c.args.f.now c.args.x.now c.args.part c.args.node (total c.args.env.now) c.requires.ready.sound c.requires.range.node
    (part_stands c.args.g.now c.args.f.now c.args.sets.now c.requires.ready c.args.part c.args.part c.args.node c.requires.range) c.requires.bound us
    (λ v. ap (λ l. list_any (λ u. same u v) l) c.deref-v-items.ensures.value ∙ c.in_ok-values.ensures.values v) c.requires.shown
    c.loop-v.v-index c.args.found.now c.loop-v.found le c.loop-v.invariant

pub visit_values-returns-clause-done : goal.visit_values-returns-clause-done
visit_values-returns-clause-done t c =
    let us = c.deref-v-items.result.now in
    let le : length us ≤ c.loop-v.v-index = omega arith in
    shown_all c.args.g.now c.args.f.now c.args.x.now c.args.part c.args.node (total c.args.env.now) c.requires.ready.sound c.requires.range.node
    (part_stands c.args.g.now c.args.f.now c.args.sets.now c.requires.ready c.args.part c.args.part c.args.node c.requires.range) c.requires.bound us
    (λ v. ap (λ l. list_any (λ u. same u v) l) c.deref-v-items.ensures.value ∙ c.in_ok-values.ensures.values v) c.requires.shown
    c.loop-v.v-index c.args.found.now c.loop-v.found le c.loop-v.invariant

pub visit-visit_quantifier-requires : goal.visit-visit_quantifier-requires
visit-visit_quantifier-requires t c =
    let g = c.args.g.now in
    let f = c.args.f.now in
    let rows = c.args.sets.now in
    let low = own_below g f rows c.requires.ready c.args.part c.args.part c.args.node c.requires.range c.node.result.now
    c.node.ensures.is c.node.ensures.kids c.in-Exists.x c.in-Exists.i c.in-Exists.is in (
      omega (arith, low),
      (
        own_in_range g f rows c.requires.ready c.args.part c.args.part c.args.node c.requires.range c.node.result.now
            c.node.ensures.is c.node.ensures.kids c.in-Exists.x c.in-Exists.i c.in-Exists.is,
        (
          c.requires.ready,
          own_bound g f rows c.requires.ready c.args.part c.args.part c.args.node c.requires.range
              c.node.result.now c.node.ensures.is c.node.ensures.kids c.in-Exists.x c.in-Exists.i c.in-Exists.is,
        ),
      ),
    )

pub visit-returns-in-Exists-clause-there : goal.visit-returns-in-Exists-clause-there
visit-returns-in-Exists-clause-there t c =
    let g = c.args.g.now in
    let f = c.args.f.now in
    let env = total c.args.env.now in
    let new = c.visit_quantifier.new.states in
    let trees = c.visit_quantifier.new.found in
    IfOk-weaker c.visit_quantifier.result
    (λ _. Adds g f c.args.states.now new c.args.found.now trees (quantified g f c.in-Exists.x c.in-Exists.i c.args.node env))
    (λ _. Adds g f c.args.states.now new c.args.found.now trees (forest_at g f c.args.part c.args.node env))
    (λ _ a. quantifier_adds g f c.args.part c.args.node env c.args.states.now new c.args.found.now trees c.in-Exists.x c.in-Exists.i
    (c.node.ensures.is ∙ ap (plain_of (plains f.nodes)) c.in-Exists.is) a)
    c.visit_quantifier.ensures.there

pub visit-returns-in-Exists-clause-explored : goal.visit-returns-in-Exists-clause-explored
visit-returns-in-Exists-clause-explored t c =
    let g = c.args.g.now in
    let f = c.args.f.now in
    let env = total c.args.env.now in
    let x = c.in-Exists.x in
    let j = c.in-Exists.i in
    let new = c.visit_quantifier.new.states in
    let trees = c.visit_quantifier.new.found in
    of_both c.visit_quantifier.result
    (λ _. is_hidden x ≡ true → IsHiddenDone g f new x j c.args.node env)
    (λ _. is_hidden x ≡ false → IsShownDone g f trees x j c.args.node env)
    (λ _. IsExplored g f new trees c.args.part c.args.node env)
    (λ _ h s. quantifier_explored g f c.args.part c.args.node env new trees x j
    (node_read g f c.args.part c.node.result.now c.node.ensures.node ∙ c.in-Exists.is) h s)
    c.visit_quantifier.ensures.hidden c.visit_quantifier.ensures.shown

pub visit-returns-in-Exists-clause-grows : goal.visit-returns-in-Exists-clause-grows
visit-returns-in-Exists-clause-grows t c =
    let g = c.args.g.now in
    let f = c.args.f.now in
    let new = c.visit_quantifier.new.states in
    let trees = c.visit_quantifier.new.found in
    let low = own_below g f c.args.sets.now c.requires.ready c.args.part c.args.part c.args.node c.requires.range
    c.node.result.now c.node.ensures.is c.node.ensures.kids c.in-Exists.x c.in-Exists.i c.in-Exists.is in
    let le : c.in-Exists.i ≤ c.args.part = omega (arith, low) in
    IfOk-weaker c.visit_quantifier.result
    (λ _. Grows g f c.in-Exists.i c.args.states.now new c.args.found.now trees)
    (λ _. Grows g f c.args.part c.args.states.now new c.args.found.now trees)
    (λ _ r. grows_more g f c.in-Exists.i c.args.part c.args.states.now new c.args.found.now trees le r)
    c.visit_quantifier.ensures.grows

pub visit-returns-in-Exists-clause-too_many : goal.visit-returns-in-Exists-clause-too_many
visit-returns-in-Exists-clause-too_many t c = λ h.
    let f = c.args.f.now in
    quantifier_large c.args.g.now f c.args.part c.args.node (total c.args.env.now) c.args.states.now c.args.found.now c.in-Exists.x c.in-Exists.i
    (c.node.ensures.is ∙ ap (plain_of (plains f.nodes)) c.in-Exists.is) (c.visit_quantifier.ensures.too_many h)

pub visit-returns-in_err-put_touches-in_default-clause-too_many : goal.visit-returns-in_err-put_touches-in_default-clause-too_many
visit-returns-in_err-put_touches-in_default-clause-too_many t c = λ h.
    let p = err_from_is_err_and c.from_residual.result c.from_residual.ensures.1 in
    own_large c.args.g.now c.args.f.now c.args.part c.args.node (total c.args.env.now) c.node.result.now c.node.ensures.is
    (no_quantifier c.node.result.now c.in_default.not-Exists) c.requires.ready.sound c.requires.range.node c.args.states.now c.args.found.now
    (c.in_err-put_touches-in_default.ensures.too_many (cc (h, p.1, p.2)))

pub visit-returns-in_ok-visit_kids-in_default : goal.visit-returns-in_ok-visit_kids-in_default
visit-returns-in_ok-visit_kids-in_default t c =
    let g = c.args.g.now in
    let f = c.args.f.now in
    let env = total c.args.env.now in
    let x = c.node.result.now in
    let is = node_read g f c.args.part x c.node.ensures.node in
    let q = no_quantifier x c.in_default.not-Exists in
    let new = c.visit_kids.new.states in
    let trees = c.put_touches.new.self in
    let own = c.in_ok-put_touches-in_default.ensures.trees in
    record {
      there = step_adds g f c.args.part c.args.node env x is c.node.ensures.is q c.args.states.now new c.args.found.now trees own
          c.requires.ready.sound c.requires.range.node c.in_ok-visit_kids-in_default.ensures.there;
      explored = step_explored g f c.args.part c.args.node env x is c.node.ensures.is q c.args.states.now new c.args.found.now trees own
          c.in_ok-visit_kids-in_default.ensures.done;
      grows = step_grows g f c.args.part c.args.node env x is c.node.ensures.is q c.args.states.now new c.args.found.now trees own
          c.args.part (c.in_ok-visit_kids-in_default.ensures.grows trees);
      too_many = λ h. absurd (cc);
    }

pub forest_at-visit-requires : goal.forest_at-visit-requires
forest_at-visit-requires t c =
    let g = c.args.g.now in
    let f = c.args.f.now in
    let one = c.get-one.result.now in
    let states = c.loop-at.states in
    let lt : c.loop-at.at < length states = omega arith in
    let is = get_or_from_slice_get states c.loop-at.at one one c.get-one.ensures in
    let low = state_low g f c.args.part c.args.node (total c.args.env.now) c.loop-at.at states c.loop-at.found c.loop-at.invariant one lt is in (
      omega (arith, low),
      (
        state_in_range g f c.args.part c.args.node
            (total c.args.env.now) c.loop-at.at states c.loop-at.found c.loop-at.invariant one lt is,
        c.requires.ready,
      ),
    )

pub forest_at-loop-at-preserved : goal.forest_at-loop-at-preserved
forest_at-loop-at-preserved t c =
    let g = c.args.g.now in
    let f = c.args.f.now in
    let one = c.get-one.result.now in
    let states = c.loop-at.states in
    let found = c.loop-at.found in
    let more = c.visit.new.states in
    let trees = c.visit.new.found in
    let same_env = c.in_ok-env.ensures.same in
    let lt : c.loop-at.at < length states = omega arith in
    let is = get_or_from_slice_get states c.loop-at.at one one c.get-one.ensures in
    gathered_more g f c.args.part c.args.node (total c.args.env.now) c.loop-at.at states found c.loop-at.invariant one lt is more trees
    (subst (λ d. Adds g f states more found trees (forest_at g f one.part one.node (total d))) same_env c.in_ok-visit.ensures.there)
    (subst (λ d. IsExplored g f more trees one.part one.node (total d)) same_env c.in_ok-visit.ensures.explored)
    c.in_ok-visit.ensures.grows

pub forest_at-returns-then-at-len-clause-trees : goal.forest_at-returns-then-at-len-clause-trees
forest_at-returns-then-at-len-clause-trees t c =
    let g = c.args.g.now in
    let f = c.args.f.now in
    let env = total c.args.env.now in
    let root = forest_at g f c.args.part c.args.node env in
    let le : length c.loop-at.states ≤ c.loop-at.at = omega arith in
    of_both c.into_forest.result
    (λ r. HaveSame r.items c.loop-at.found)
    (λ r. Rise c.decls.result.now r.items)
    (λ r. same_forest r.items root ≡ true)
    (λ r h rise. (one_forest f.decls r.items c.loop-at.found root h (subst (λ d. Rise d r.items) c.decls.ensures.decls rise)
    (root_rises g f c.args.part c.args.node env)
    (gathered_all g f c.args.part c.args.node env c.requires.ready.sound c.requires.ready.formula c.loop-at.at c.loop-at.states
    c.loop-at.found le c.loop-at.invariant)).0)
    c.into_forest.ensures.trees c.into_forest.ensures.rise

pub forest_at-returns-then-at-len-clause-few : goal.forest_at-returns-then-at-len-clause-few
forest_at-returns-then-at-len-clause-few t c =
    let g = c.args.g.now in
    let f = c.args.f.now in
    let env = total c.args.env.now in
    let root = forest_at g f c.args.part c.args.node env in
    let le : length c.loop-at.states ≤ c.loop-at.at = omega arith in
    of_both c.into_forest.result
    (λ r. (HaveSame r.items c.loop-at.found) × (Rise c.decls.result.now r.items))
    (λ r. forest_size r.items ≤ 1000000)
    (λ r. forest_size root ≤ 1000000)
    (λ r h few.
    let sizes = (one_forest f.decls r.items c.loop-at.found root h.0 (subst (λ d. Rise d r.items) c.decls.ensures.decls h.1)
    (root_rises g f c.args.part c.args.node env)
    (gathered_all g f c.args.part c.args.node env c.requires.ready.sound c.requires.ready.formula c.loop-at.at c.loop-at.states
    c.loop-at.found le c.loop-at.invariant)).1 in
    omega (arith, sizes, few))
    (of_both c.into_forest.result (λ r. HaveSame r.items c.loop-at.found) (λ r. Rise c.decls.result.now r.items)
    (λ r. (HaveSame r.items c.loop-at.found) × (Rise c.decls.result.now r.items)) (λ r h k. (h, k)) c.into_forest.ensures.trees c.into_forest.ensures.rise)
    c.into_forest.ensures.few

pub forest_at-returns-then-at-len-clause-too_many : goal.forest_at-returns-then-at-len-clause-too_many
forest_at-returns-then-at-len-clause-too_many t c = λ h.
    let g = c.args.g.now in
    let f = c.args.f.now in
    let le : length c.loop-at.states ≤ c.loop-at.at = omega arith in
    large_all g f c.args.part c.args.node (total c.args.env.now) c.requires.ready.sound c.requires.ready.formula c.loop-at.at
    c.loop-at.states c.loop-at.found le c.loop-at.invariant
    (subst (λ d. HasTooMany d (has c.loop-at.found)) c.decls.ensures.decls (c.into_forest.ensures.too_many h))

pub forest_at-returns-in_err-visit-clause-too_many : goal.forest_at-returns-in_err-visit-clause-too_many
forest_at-returns-in_err-visit-clause-too_many t c = λ h.
    let g = c.args.g.now in
    let f = c.args.f.now in
    let one = c.get-one.result.now in
    let states = c.loop-at.states in
    let lt : c.loop-at.at < length states = omega arith in
    let is = get_or_from_slice_get states c.loop-at.at one one c.get-one.ensures in
    let p = err_from_is_err_and c.from_residual-in_err-visit.result c.from_residual-in_err-visit.ensures.1 in
    large_state g f c.args.part c.args.node (total c.args.env.now) c.loop-at.at states c.loop-at.found c.loop-at.invariant one lt is
    (subst (λ d. HasTooMany f.decls (λ z. is_there g f states c.loop-at.found z || has (forest_at g f one.part one.node (total d)) z)) c.in_ok-env.ensures.same
    (c.in_err-visit.ensures.too_many (cc (h, p.1, p.2))))
