-- Marks by the groups of their variables.
use Rattle.std.proofs.Common.{◌≡◌, ℕ, zero, suc, ◌/◌, ◌<◌, Bool, false, ◌&&◌, ◌||◌, inl, inr, arith, refl, sym, ap, ◌∙◌}
use Rattle.std.proofs.Common.{List, [], ◌∷◌, ◌++◌, length, get_or}
use Rattle.std.specs.Prelude.{nat_eq, Vec}
use Rattle.std.proofs.Math.ListN.{set}
use Rattle.std.proofs.lemmas.Bool.{cases_eq, ne_eqb, and_right}
use Rattle.std.proofs.lemmas.List.{get_or-map, get_or-set_same, get_or-set_other, map-set, length-map}
use Rattle.std.proofs.lemmas.List.Folds.{list_any-append}
use Rattle.pattern_vars.proofs.SetLemmas.{or_false, put-none}
use Rattle.ctl_translate.specs.declared.ctl_bound.naming.Mark.{Mark}
use Rattle.ctl_translate.specs.CtlBound.Naming.{is_marked, lists_of, group_of}

-- one more group without marks
pub empty-more : {Z : Type 0} (groups : List (Vec Mark Z)) (v : Vec Mark Z) → v.items ≡ []
    → ((j : ℕ) → get_or (lists_of groups) j [] ≡ []) → (j : ℕ) → get_or (lists_of (groups ++ v ∷ [])) j [] ≡ []
empty-more [] v e h zero = e
empty-more [] v e h (suc j) = refl
empty-more (g ∷ gs) v e h zero = h zero
empty-more (g ∷ gs) v e h (suc j) = empty-more gs v e (λ n. h (suc n)) j

-- a mark of another variable
apart : (m : Mark) (i k : ℕ) → (m.variable ≡ k → ⊥) → (nat_eq m.part i && nat_eq m.variable k) ≡ false
apart m i k d = and_right (nat_eq m.part i) (nat_eq m.variable k) (ne_eqb m.variable k d)

-- a mark goes to its group
pub group-put : {Z : Type 0} (groups : List (Vec Mark Z)) (m : Mark) (old new : Vec Mark Z) → m.variable / 64 < length groups
    → old ≡ get_or groups (m.variable / 64) old → new.items ≡ old.items ++ m ∷ [] → (i k : ℕ)
    → is_marked (group_of (lists_of (set groups (m.variable / 64) new)) k) i k
    ≡ (is_marked (group_of (lists_of groups) k) i k || (nat_eq m.part i && nat_eq m.variable k))
group-put {Z} groups m old new l o n i k =
    let g = m.variable / 64 in
    let items = λ (v : Vec Mark Z). v.items in
    let lists = lists_of groups in
    let test : Mark → Bool = λ z. nat_eq z.part i && nat_eq z.variable k in
    let inside : g < length lists = omega (arith, l, length-map groups items) in
    let before : old.items ≡ get_or lists g [] = ap items o ∙ sym (get_or-map items groups g old [] l) in
    ap (λ (z : List (List Mark)). is_marked (group_of z k) i k) (map-set items groups g new)
    ∙ elim (cases_eq (k / 64) g) [
      | inl same ↦
          ap (λ z. is_marked (get_or (set lists g new.items) z []) i k) same
          ∙ ap (λ (z : List Mark). is_marked z i k) (get_or-set_same lists g new.items [] inside ∙ n)
          ∙ list_any-append test old.items (m ∷ [])
          ∙ ap (λ (z : Bool). is_marked old.items i k || z) (or_false (test m))
          ∙ ap (λ (z : List Mark). is_marked z i k || test m) (before ∙ ap (λ z. get_or lists z []) (sym same))
      | inr other ↦
          ap (λ (z : List Mark). is_marked z i k) (get_or-set_other lists g (k / 64) new.items [] other)
          ∙ put-none (is_marked (group_of lists k) i k) (test m) (apart m i k (λ e. other (ap (λ z. z / 64) (sym e))))
    ]
