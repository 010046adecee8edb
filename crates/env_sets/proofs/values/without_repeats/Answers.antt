use Rattle.std.proofs.Common.{◌≡◌, ◌+◌, ◌||◌, ◌++◌, ◌∷◌, [], not, ap, sym, ◌∙◌, arith, length, take, get_or, rules}
use Rattle.std.specs.List.{list_all}
use Rattle.std.specs.Ordering.{is_lt}
use Rattle.std.proofs.lemmas.List.{length_push}
use Rattle.std.proofs.lemmas.List.MinMax.{ranks_by}
use Rattle.std.proofs.lemmas.List.Sorted.{sorted_far}
use Rattle.std.proofs.lemmas.Iterator.Adapters.{YieldsList-from_vec}
use Rattle.std.proofs.lemmas.Iterator.Consumers.{YieldsList-turn}
use Rattle.smpl_terms.specs.Values.{same, value_order}
use Rattle.smpl_terms.proofs.ValueLaws.{value_order_total}
use Rattle.env_sets.proofs.LoopLemmas.{all_step, both_parts, any_push}
use Rattle.env_sets.proofs.RisingLemmas.{none_above}
use Rattle.env_sets.proofs.values.without_repeats.Goals as goal

pub loop-v-preserved : goal.loop-v-preserved
loop-v-preserved c =
    let v = c.in-Some.v in
    let items = c.args.values.items in
    let n = length c.loop-v.yielded in
    let t = YieldsList-turn (YieldsList-from_vec items (search rules) (search rules)) c.loop-v.yielded c.loop-v.v-iterator
    c.loop-v.yielded_by c.next.result c.next.new.self v c.in-Some.is c.next.ensures.steps in
    let next : length (c.loop-v.yielded ++ v ∷ []) ≡ n + 1 = length_push c.loop-v.yielded v in
    record {
      meaning = λ z. c.in_ok-put_new.ensures.meaning z ∙ ap (λ b. b || same v z) (c.loop-v.invariant.meaning z)
          ∙ sym (any_push (λ w. same w z) c.loop-v.yielded v);
      among = λ q h.
          let parts = both_parts _ _ (sym (ap (λ k. list_all q (take k items)) next ∙ all_step q items n v t.0 t.1) ∙ h) in
          c.in_ok-put_new.ensures.among q (c.loop-v.invariant.among q parts.0) parts.1;
      rise = c.in_ok-put_new.ensures.rise
          (c.loop-v.invariant.among (λ u. not (is_lt (value_order v u)))
          (none_above items n v (λ i lt. ap (λ a. is_lt (value_order a (get_or items i v))) t.1
          ∙ sorted_far (λ x y. is_lt (value_order x y)) (ranks_by value_order_total (λ u. u)) items c.requires.sorted i n v
          (omega arith) t.0) (omega (arith, t.0))))
          c.loop-v.invariant.rise;
    }
