use Rattle.std.proofs.Common.{◌≡◌, min, length, sym, ◌∙◌, arith}
use Rattle.std.specs.declared.cmp.Ordering.TheVariants.{Equal}
use Rattle.std.specs.Ordering.{nat_cmp, ordering_then}
use Rattle.smpl_terms.specs.Values.{value_order}
use Rattle.wit_forest.specs.WitOrder.Order.{witness_order, declared_order}
use Rattle.c_terms.proofs.OrderLemmas.{slice_cmp_end}
use Rattle.wit_forest.proofs.WitOrder.WitnessLemmas.{order-one-value, order-by-value}
use Rattle.wit_forest.proofs.wit_order.order.+order.Goals as goal

pub witness_order-returns-in-Equal-order_of_values : goal.witness_order-returns-in-Equal-order_of_values
witness_order-returns-in-Equal-order_of_values t c =
    let a = c.in-Bind in
    let b = c.in-Bind-b-2 in
    let e : Equal ≡ nat_cmp a.n b.m = cc in
    let f : Equal ≡ ordering_then (declared_order c.args.decls.now a.x b.y) (value_order a.v b.u) = cc in
    let h = order-one-value c.args.decls.now a.n a.x a.v a.fs b.m b.y b.u b.us e f in
    record { value = cc }

pub witness_order-returns-in_default-order_of_values : goal.witness_order-returns-in_default-order_of_values
witness_order-returns-in_default-order_of_values t c =
    let a = c.in-Bind in
    let b = c.in-Bind-b-2 in
    let e : Equal ≡ nat_cmp a.n b.m = cc in
    let h = order-by-value c.args.decls.now a.n a.x a.v a.fs b.m b.y b.u b.us e c.order_of_values.result
    c.order_of_values.ensures c.in_default-order_of_values.not-Equal in
    record { value = cc }

pub order_of_forests-returns : goal.order_of_forests-returns
order_of_forests-returns t c =
    let e : c.loop-i.i ≡ min (length c.args.xs.now) (length c.args.ys.now) = omega arith in
    c.cmp.ensures ∙ sym (slice_cmp_end (witness_order c.args.decls.now) c.args.xs.now c.args.ys.now c.loop-i.i e) ∙ c.loop-i.invariant.rest
