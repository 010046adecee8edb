use Rattle.std.proofs.Common.{◌≡◌, min, length, sym, ◌∙◌, arith}
use Rattle.std.specs.declared.cmp.Ordering.TheVariants.{Equal}
use Rattle.std.specs.Ordering.{nat_cmp}
use Rattle.c_terms.specs.Numbers.{label_number}
use Rattle.c_terms.specs.Order.{tree_order}
use Rattle.c_terms.proofs.OrderLemmas.{order-one-label, slice_cmp_end}
use Rattle.c_terms.proofs.order.+order.Goals as goal

pub term_order-returns-in-Equal : goal.term_order-returns-in-Equal
term_order-returns-in-Equal t c =
    let e : Equal ≡ nat_cmp (label_number c.in-Branch.l) (label_number c.in-Branch-b-2.k) = cc in
    let h = order-one-label c.in-Branch.l c.in-Branch.xs c.in-Branch-b-2.k c.in-Branch-b-2.ys e in
    record { value = cc }

pub order_of_lists-returns : goal.order_of_lists-returns
order_of_lists-returns t c =
    let e : c.loop-i.i ≡ min (length c.args.xs.now) (length c.args.ys.now) = omega arith in
    c.cmp.ensures ∙ sym (slice_cmp_end tree_order c.args.xs.now c.args.ys.now c.loop-i.i e) ∙ c.loop-i.invariant.rest
