use Rattle.std.proofs.Common.{◌≡◌, sym, ap, ◌∙◌, subst, List, rules}
use Rattle.std.proofs.lemmas.Fn.{always_returns_same, dedup_same}
use Rattle.std.proofs.lemmas.List.Kept.{Any-dedup, Contains-from_dedup, IsStrictlySortedBy-dedup}
use Rattle.std.proofs.lemmas.List.MinMax.{ranks_by}
use Rattle.std.proofs.lemmas.List.Sorted.{list_any-IsPermutation}
use Rattle.std.specs.Cmp.{IsEquivalence}
use Rattle.std.specs.List.{dedup, list_any}
use Rattle.std.specs.List.Sorted.{IsSorted, IsStrictlySortedBy}
use Rattle.std.specs.Ordering.{is_lt}
use Rattle.smpl_terms.specs.declared.value.Value.{Value}
use Rattle.smpl_terms.specs.Values.{same, value_order}
use Rattle.smpl_terms.proofs.ValueLaws.{same-refl, same-sym, same-along, is_eq-value_order, value_order_total}
use Rattle.ctl_fixpoint.proofs.CtlHolds.TestLemmas.{any_found, any_has, same_bool}
use Rattle.wit_forest.proofs.gather.different.Goals as goal

same_equiv : IsEquivalence same
same_equiv = record {
  refl = same-refl;
  symm = same-sym;
  congr = λ u v w h. same-sym u w ∙ same-along u v h w ∙ same-sym w v;
}

-- of equal values one is kept
kept : (vs : List Value) (z : Value) → list_any (λ u. same u z) (dedup same vs) ≡ list_any (λ u. same u z) vs
kept vs z = same_bool
    (λ h.
    let u = any_found (λ u. same u z) (dedup same vs) h in
    any_has (λ u. same u z) u.0 vs (Contains-from_dedup same vs u.0 u.1) u.2)
    (λ h.
    let u = any_found (λ u. same u z) vs h in
    let k = Any-dedup same_equiv vs u.0 u.1 in
    any_has (λ u. same u z) k.1 (dedup same vs) (k.0, k.2, k.3) (sym (same_equiv.congr u.0 k.1 z k.4) ∙ u.2))

pub returns : goal.returns
returns c =
    let sorted : IsSorted value_order c.sort_unstable_by.new.self.items =
    c.sort_unstable_by.ensures.sorted (λ v w. is_lt (value_order v w)) (ranks_by value_order_total (λ v. v))
    (always_returns_same _ _ _ (λ a r f k. search rules)) in
    let is : c.dedup_by.new.self.items ≡ dedup same c.sort_unstable_by.new.self.items =
    dedup_same _ same _ (λ x y b f' x' y' k. search rules) _ _ c.dedup_by.ensures.filtered in
    record {
      values = λ z.
          ap (λ l. list_any (λ u. same u z) l) is ∙ kept c.sort_unstable_by.new.self.items z
          ∙ sym (list_any-IsPermutation (λ u. same u z) c.args.values.items c.sort_unstable_by.new.self.items c.sort_unstable_by.ensures.permutation);
      rise = subst (IsStrictlySortedBy value_order) (sym is)
          (IsStrictlySortedBy-dedup value_order_total (λ v w. sym (is_eq-value_order v w)) c.sort_unstable_by.new.self.items sorted);
    }
