use Rattle.std.proofs.Common.{◌≡◌, ◌≤◌, ◌++◌, ap, sym, ◌∙◌, rules, List, fold, max, subst}
use Rattle.std.specs.List.{All}
use Rattle.std.specs.List.Sorted.{IsSortedBy, IsStableBy}
use Rattle.std.proofs.lemmas.List.Sorted.{answers_always}
use Rattle.edit_marks.specs.declared.edit_conflict.edit.Side.TheVariants.{After}
use Rattle.edit_unparse.specs.declared.tidy.plan.Placed.{Placed}
use Rattle.edit_unparse.specs.Tidy.Found.{placed_marks}
use Rattle.edit_unparse.specs.Tidy.Spots.{deepest_from}
use Rattle.edit_unparse.proofs.DepthLemmas.{deeper, sorted_is}
use Rattle.edit_unparse.proofs.PlacedLemmas.{marks_depth}
use Rattle.edit_unparse.proofs.tidy.places.put_deepest.Goals as goal

pub returns : goal.returns
returns c =
    let depths = c.args.depths.now in
    let own = c.put_placed.new.found.items in
    let sorted = c.sort_by_key.new.self.items in
    let marks = placed_marks depths After c.args.spot c.args.marks.now in
    let is : own ≡ marks = c.in_ok-put_placed.ensures ∙ ap (λ (l : List Placed). l ++ marks) c.new-own.ensures.items in
    let most : All (λ p. p.depth ≤ fold max 0 depths) own =
    subst (All (λ p. p.depth ≤ fold max 0 depths)) (sym is) (marks_depth depths After c.args.spot c.args.marks.now) in
    let up : IsSortedBy deeper sorted = c.in_ok-sort_by_key.ensures.sorted (λ p. record { 0 = p.depth }) (answers_always _ _ _ (λ f a r g h. search rules)) in
    let stable : IsStableBy deeper own sorted = c.sort_by_key.ensures.stable (λ p. record { 0 = p.depth }) (answers_always _ _ _ (λ f a r g h. search rules)) in
    c.in_ok-extend_from_slice.ensures.items
    ∙ ap (λ (l : List Placed). c.args.found.now.items ++ l) (c.deref.ensures.value
    ∙ sorted_is (fold max 0 depths) own sorted most c.sort_by_key.ensures.permutation up stable
    ∙ ap (deepest_from (fold max 0 depths)) is)
