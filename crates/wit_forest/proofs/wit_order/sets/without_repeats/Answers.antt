use Rattle.std.proofs.Common.{◌≡◌, ◌+◌, ◌||◌, ◌++◌, ◌∷◌, [], not, ap, sym, ◌∙◌, arith, length, take, get_or, rules}
use Rattle.std.specs.List.{list_all}
use Rattle.std.specs.Ordering.{is_lt}
use Rattle.std.proofs.lemmas.List.{length_push}
use Rattle.std.proofs.lemmas.List.MinMax.{ranks_by}
use Rattle.std.proofs.lemmas.List.Sorted.{sorted_far}
use Rattle.std.proofs.lemmas.Iterator.Adapters.{YieldsList-from_vec}
use Rattle.std.proofs.lemmas.Iterator.Consumers.{YieldsList-turn}
use Rattle.wit_forest.specs.WitOrder.Same.{same_witness}
use Rattle.wit_forest.specs.WitOrder.Order.{witness_order}
use Rattle.wit_forest.proofs.WitOrder.OrderLaws.{witness_order_total}
use Rattle.wit_forest.proofs.WitOrder.RiseLemmas.{all_step, both_parts, any_push, none_above}
use Rattle.wit_forest.proofs.wit_order.sets.without_repeats.Goals as goal

pub loop-w-preserved : goal.loop-w-preserved
loop-w-preserved c =
    let w = c.in-Some.w in
    let decls = c.args.decls.now in
    let items = c.args.trees.items in
    let n = length c.loop-w.yielded in
    let t = YieldsList-turn (YieldsList-from_vec items (search rules) (search rules)) c.loop-w.yielded c.loop-w.w-iterator
    c.loop-w.yielded_by c.next.result c.next.new.self w c.in-Some.is c.next.ensures.steps in
    let next : length (c.loop-w.yielded ++ w ∷ []) ≡ n + 1 = length_push c.loop-w.yielded w in
    record {
      trees = λ z. c.in_ok-put_new.ensures.trees z ∙ ap (λ b. b || same_witness w z) (c.loop-w.invariant.trees z)
          ∙ sym (any_push (λ u. same_witness u z) c.loop-w.yielded w);
      among = λ q h.
          let parts = both_parts _ _ (sym (ap (λ k. list_all q (take k items)) next ∙ all_step q items w n t.0 t.1) ∙ h) in
          c.in_ok-put_new.ensures.among q (c.loop-w.invariant.among q parts.0) parts.1;
      rise = c.in_ok-put_new.ensures.rise
          (c.loop-w.invariant.among (λ u. not (is_lt (witness_order decls w u)))
          (none_above decls items n w (λ i lt. ap (λ a. is_lt (witness_order decls a (get_or items i w))) t.1
          ∙ sorted_far (λ x y. is_lt (witness_order decls x y))
          (ranks_by (witness_order_total decls) (λ u. u)) items c.requires.sorted i n w (omega arith) t.0) (omega (arith, t.0))))
          c.loop-w.invariant.rise;
    }
