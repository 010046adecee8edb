use Rattle.std.proofs.Common.{◌≡◌, ℕ, ◌==◌, ◌&&◌, not, filter, sym, ap, ◌∙◌, arith, rules}
use Rattle.std.specs.Ordering.{is_lt, nat_cmp}
use Rattle.std.proofs.lemmas.Bool.Decides.{nat_tests}
use Rattle.std.proofs.lemmas.List.Sorted.{IsNonDecreasingBy-from_sort, answers_always}
use Rattle.edit_unparse.specs.declared.tidy.plan.Placed.{Placed}
use Rattle.edit_unparse.specs.Tidy.Spots.{is_number, placed_number, spot, spot_number}
use Rattle.edit_unparse.proofs.tidy.places.placed_inserts.Goals as goal

tied : (t n : ℕ) → (not (is_lt (nat_cmp t n)) && not (is_lt (nat_cmp n t))) ≡ (n == t)
tied t n = grind (arith, nat_tests)

pub returns-clause-rise : goal.returns-clause-rise
returns-clause-rise c =
    IsNonDecreasingBy-from_sort placed_number c.sort_by_key.new.self.items
    (c.in_ok-sort_by_key.ensures.sorted placed_number (answers_always _ _ _ (λ f a r g h. search rules)))

pub returns-clause-all : goal.returns-clause-all
returns-clause-all c = λ token after.
    let number = spot_number (spot token after) in
    let found = c.in_ok-found.found.items in
    let probe : Placed = record { spot = spot token after; edit = 0; insert = 0; depth = 0 } in
    sym (λ i. filter (λ (p : Placed). tied number (placed_number p) i) c.sort_by_key.new.self.items)
    ∙ c.sort_by_key.ensures.stable placed_number (answers_always _ _ _ (λ f a r g h. search rules)) probe
    ∙ (λ i. filter (λ (p : Placed). tied number (placed_number p) i) found)
    ∙ ap (filter (is_number number)) c.in_ok-found.ensures
