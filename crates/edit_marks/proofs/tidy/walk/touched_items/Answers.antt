use Rattle.std.proofs.Common.{ℕ, sym, subst, List, Contains, eqb}
use Rattle.std.specs.List.Sorted.{IsStrictlyIncreasing}
use Rattle.std.proofs.lemmas.List.Filters.{dedup_is}
use Rattle.std.proofs.lemmas.List.Kept.{Contains-dedup_nat, Contains-from_dedup}
use Rattle.std.proofs.lemmas.List.Sorted.{Contains-permutation, IsPermutation-sym}
use Rattle.std.proofs.lemmas.Map.Keys.{IsStrictlyIncreasing-dedup}
use Rattle.edit_marks.proofs.tidy.walk.touched_items.Goals as goal

pub returns : goal.returns
returns c =
    let all = c.in_ok-items.items.items in
    let sorted = c.sort_unstable.new.self.items in
    let is = dedup_is eqb sorted c.dedup.new.self.items c.dedup.ensures.filtered in
    let from = c.in_ok-items.ensures in
    record {
      rise = subst IsStrictlyIncreasing (sym is) (IsStrictlyIncreasing-dedup sorted c.sort_unstable.ensures.sorted);
      same = λ n. (
        (λ h. subst (λ (l : List ℕ). Contains l n) from
            (Contains-permutation sorted all n (IsPermutation-sym all sorted c.sort_unstable.ensures.permutation)
            (Contains-from_dedup eqb sorted n (subst (λ (l : List ℕ). Contains l n) is h)))),
        (λ h. subst (λ (l : List ℕ). Contains l n) (sym is)
            (Contains-dedup_nat sorted n (Contains-permutation all sorted n c.sort_unstable.ensures.permutation
            (subst (λ (l : List ℕ). Contains l n) (sym from) h)))),
      );
    }
