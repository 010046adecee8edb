use Rattle.std.proofs.Common.{ap, false, map, sym, ◌∙◌, rules}
use Rattle.std.specs.Prelude.{filter, nat_eq}
use Rattle.std.proofs.lemmas.List.Sorted.{IsNonDecreasingBy-from_sort, answers_always}
use Rattle.edit_unparse.specs.declared.tidy.commas.CommaList.{CommaList}
use Rattle.edit_bodies.specs.Calm.{is_calm}
use Rattle.edit_bodies.specs.Laid.{comma_list}
use Rattle.edit_bodies.proofs.LayoutLemmas.{tied_same}
use Rattle.edit_bodies.proofs.lay.comma_lists.Goals as goal

pub returns : goal.returns
returns c =
    let all = c.as_slice.ensures.value ∙ c.in_ok-all.ensures
    ∙ (λ j. map (comma_list (c.as_slice-leaves.ensures.value j)) (c.as_slice-listed.ensures.value j)) in
    let made = c.in_ok-lists.ensures ∙ ap (filter (is_calm c.args.lexed.now)) all in
    record {
      rise = IsNonDecreasingBy-from_sort (λ l. l.opening) c.sort_by_key.new.self.items
          (c.in_ok-sort_by_key.ensures.sorted (λ l. l.opening) (answers_always _ _ _ (λ f a r g h. search rules)));
      same = λ n.
          sym (λ i. filter (λ (l : CommaList). tied_same n l.opening i) c.sort_by_key.new.self.items)
          ∙ c.sort_by_key.ensures.stable (λ l. l.opening) (answers_always _ _ _ (λ f a r g h. search rules))
          (record { opening = n; closing = 0; may_end = false })
          ∙ (λ i. filter (λ (l : CommaList). tied_same n l.opening i) c.in_ok-lists.lists.items)
          ∙ ap (filter (λ (l : CommaList). nat_eq l.opening n)) made;
    }
