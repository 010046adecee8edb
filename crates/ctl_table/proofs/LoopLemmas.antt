-- Parts that are joined one after another.
use Rattle.std.proofs.Common.{◌≡◌, ℕ, ◌+◌, ◌<◌, true, refl, sym, ap, ◌∙◌, List, ◌∷◌, length, drop, get_or, nat_lt}
use Rattle.std.proofs.Common.{add-one}
use Rattle.std.proofs.Math.Seq.{drop-cons}
use Rattle.std.specs.List.{list_all}
use Rattle.ctl_formula.specs.Plain.{Plain, And, Or}
use Rattle.ctl_formula.specs.declared.node.Node.{Node}
use Rattle.ctl_formula.specs.Tables.{at, plains, Grows, Makes}
use Rattle.ctl_formula.proofs.TableLemmas.{grows-trans}
use Rattle.ctl_table.specs.Table as table
use Rattle.ctl_table.specs.Settings.{parts_at}
use Rattle.ctl_table.proofs.MakingLemmas.{stays}
use Rattle.ctl_table.proofs.RowLemmas.{all-at}

-- some parts are joined to the first, and the rest is left
pub record IsJoined (joins : Plain → List Plain → Plain) (a b : List Node) (f found : ℕ) (rest more : List ℕ) : Type 0 where
  pub within : found < length b
  pub grows : Grows a b
  pub are : joins (at (plains b) found) (parts_at a rest) ≡ joins (at (plains a) f) (parts_at a more)

-- one more is joined
joined-step : (joins : Plain → List Plain → Plain) (joint : Plain → Plain → Plain) → ((p q : Plain) (r : List Plain) → joins (joint p q) r ≡ joins p (q ∷ r))
    → (a b c : List Node) (more : List ℕ) (i f found next : ℕ) → i < length more → list_all (λ j. nat_lt j (length a)) more ≡ true
    → IsJoined joins a b f found (drop i more) more → Makes b c next (joint (at (plains b) found) (at (plains b) (get_or more i 0)))
    → IsJoined joins a c f next (drop (i + 1) more) more
joined-step joins joint unrolled a b c more i f found next l h j n =
    let g = get_or more i 0 in
    let s = stays a b g j.grows (all-at (length a) more i 0 g l refl h) in
    let d : drop i more ≡ g ∷ drop (i + 1) more = drop-cons more i 0 l ∙ ap (λ k. g ∷ drop k more) (sym (add-one i)) in
    let r = parts_at a (drop (i + 1) more) in
    record {
      within = n.within;
      grows = grows-trans a b c j.grows n.grows;
      are = ap (λ z. joins z r) (n.is ∙ ap (joint (at (plains b) found)) s)
          ∙ unrolled (at (plains b) found) (at (plains a) g) r
          ∙ ap (λ (z : List ℕ). joins (at (plains b) found) (parts_at a z)) (sym d)
          ∙ j.are;
    }

pub and-step : (a b c : List Node) (more : List ℕ) (i f found next : ℕ) → i < length more → list_all (λ j. nat_lt j (length a)) more ≡ true
    → IsJoined table.and_all a b f found (drop i more) more → Makes b c next (And (at (plains b) found) (at (plains b) (get_or more i 0)))
    → IsJoined table.and_all a c f next (drop (i + 1) more) more
and-step = joined-step table.and_all And (λ p q r. refl)

pub or-step : (a b c : List Node) (more : List ℕ) (i f found next : ℕ) → i < length more → list_all (λ j. nat_lt j (length a)) more ≡ true
    → IsJoined table.or_all a b f found (drop i more) more → Makes b c next (Or (at (plains b) found) (at (plains b) (get_or more i 0)))
    → IsJoined table.or_all a c f next (drop (i + 1) more) more
or-step = joined-step table.or_all Or (λ p q r. refl)
