use Rattle.std.proofs.Common.{◌≡◌, ◌++◌, ◌+◌, sym, ap, ◌∙◌, subst, arith, drop}
use Rattle.std.proofs.lemmas.List.{drop_all}
use Rattle.env_sets.specs.Runs.{with_values, unless_first}
use Rattle.env_sets.specs.Rising.{Rise}
use Rattle.env_sets.proofs.RunLemmas.{merge_turn, Rise-drop, Rise-with_values}
use Rattle.env_sets.proofs.runs.merged.Goals as goal

pub loop-v-preserved : goal.loop-v-preserved
loop-v-preserved c =
    let few = c.args.few.now in
    let rest = c.loop-v.rest.now in
    let n = c.front_len.result in
    let v = c.v-item.result in
    let i = c.loop-v.v-index in
    record {
      rise = subst Rise (sym c.split_at.ensures.back) (Rise-drop n rest c.loop-v.invariant.rise);
      items = ap (λ xs. c.put_unless_first.new.out.items ++ with_values (drop (i + 1) few) xs) c.split_at.ensures.back
          ∙ merge_turn few c.args.many.now rest c.loop-v.out.items c.put_all.new.out.items c.put_unless_first.new.out.items i n v
          c.requires.few (omega arith) c.v-item.is c.front_len.ensures.front c.front_len.ensures.next
          (c.in_ok-put_all.ensures ∙ ap (λ xs. c.loop-v.out.items ++ xs) c.split_at.ensures.front)
          (c.in_ok-put_unless_first.ensures ∙ ap (λ xs. c.put_all.new.out.items ++ unless_first v xs) c.split_at.ensures.back)
          c.loop-v.invariant.items;
    }

pub returns : goal.returns
returns c =
    let few = c.args.few.now in
    let all : c.put_all-2.new.out.items ≡ with_values few c.args.many.now =
    c.in_ok-put_all-2.ensures
    ∙ ap (λ xs. c.loop-v.out.items ++ with_values xs c.loop-v.rest.now) (sym (drop_all c.loop-v.v-index few (omega (arith, c.loop-v-test.false))))
    ∙ c.loop-v.invariant.items in
    record { items = all; rise = subst Rise (sym all) (Rise-with_values few c.args.many.now c.requires.many) }
