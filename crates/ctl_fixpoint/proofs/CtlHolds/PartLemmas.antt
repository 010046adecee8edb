-- Each part of a formula is some node of its table: by induction on the numbers, since parts have smaller ones.
use Rattle.std.proofs.Common.{◌≡◌, ℕ, suc, zero, ◌+◌, ◌<◌, true, ◌&&◌, nat_lt, refl, sym, ap, ◌∙◌, subst, arith, List, [], ◌∷◌}
use Rattle.std.proofs.Common.{length, Some, slice_get, ◌⊎◌, ⊎_elim}
use Rattle.ctl_formula.specs.Plain.{Plain}
use Rattle.ctl_formula.specs.declared.node.Node.{Node}
use Rattle.ctl_formula.specs.declared.node.Node.TheVariants as node
use Rattle.ctl_formula.specs.Tables.{at, plain_of, plains, below, ordered_from, ordered}
use Rattle.ctl_formula.specs.Formulas.{FormulaOf, IsFormula}
use Rattle.ctl_formula.specs.Formulas as formulas
use Rattle.ctl_formula.proofs.TableLemmas.{lt-true, at-node}
use Rattle.ctl_fixpoint.specs.CtlHolds.Parts.{IsPart, HasNumber}
use Rattle.ctl_fixpoint.proofs.CtlHolds.TestLemmas.{and_left, and_right}
use Rattle.ctl_fixpoint.proofs.CtlHolds.StandLemmas.{fst, snd}

some_node : (ns : List Node) (i : ℕ) → i < length ns → (n : Node) × (slice_get ns i ≡ Some n)
some_node [] i lt = absurd (omega (arith, lt))
some_node (n ∷ ns) zero lt = (n, refl)
some_node (n ∷ ns) (suc i) lt = some_node ns i (omega (arith, lt))

below_from : (k : ℕ) (ns : List Node) (i : ℕ) (n : Node) → ordered_from k ns ≡ true → slice_get ns i ≡ Some n
    → below (k + i) n ≡ true
below_from k [] i n o e = absurd (cc)
below_from k (x ∷ ns) zero n o e =
    let same : x ≡ n = cc in
    let is : k + 0 ≡ k = omega arith in
    ap (λ j. below j n) is ∙ ap (below k) (sym same) ∙ and_left (below k x) (ordered_from (suc k) ns) o
below_from k (x ∷ ns) (suc i) n o e =
    let is : k + suc i ≡ suc k + i = omega arith in
    ap (λ j. below j n) is ∙ below_from (suc k) ns i n (and_right (below k x) (ordered_from (suc k) ns) o) e

module _ (h : Plain) (Found : Type 0) (fs : List Plain) (i : ℕ) (inside : (j : ℕ) → j < i → IsPart h (at fs j) → Found) where
  two : (j k : ℕ) → (nat_lt j i && nat_lt k i) ≡ true → (IsPart h (at fs j) ⊎ IsPart h (at fs k)) → Found
  two j k b p = ⊎_elim (inside j (fst j k i b)) (inside k (snd j k i b)) p

  by_node : (n : Node) → below i n ≡ true → (h ≡ plain_of fs n → Found) → IsPart h (plain_of fs n) → Found
  by_node node.True b own p = own p
  by_node (node.Atom q) b own p = own p
  by_node node.EarlyExit b own p = own p
  by_node (node.BraceOpen q y) b own p = own p
  by_node (node.BraceClose q y) b own p = own p
  by_node (node.Inside y) b own p = own p
  by_node (node.Outside y) b own p = own p
  by_node (node.Not j) b own p = ⊎_elim own (inside j (lt-true j i b)) p
  by_node (node.And j k) b own p = ⊎_elim own (two j k b) p
  by_node (node.Or j k) b own p = ⊎_elim own (two j k b) p
  by_node (node.AX j) b own p = ⊎_elim own (inside j (lt-true j i b)) p
  by_node (node.EX j) b own p = ⊎_elim own (inside j (lt-true j i b)) p
  by_node (node.AU j k) b own p = ⊎_elim own (two j k b) p
  by_node (node.EU j k) b own p = ⊎_elim own (two j k b) p
  by_node (node.After j) b own p = ⊎_elim own (inside j (lt-true j i b)) p
  by_node (node.InBranch y j) b own p = ⊎_elim own (inside j (lt-true j i b)) p
  by_node (node.Exists x j) b own p = ⊎_elim own (inside j (lt-true j i b)) p

module _ (ns : List Node) (o : ordered ns ≡ true) (h : Plain) where
  found : (n i : ℕ) → i < n → i < length ns → IsPart h (at (plains ns) i) → HasNumber ns h
  found zero i lt within p = absurd (omega (arith, lt))
  found (suc n) i lt within p =
      let x = some_node ns i within in
      let e = at-node ns i x.0 o x.1 in
      let is : 0 + i ≡ i = omega arith in
      let b : below i x.0 ≡ true = ap (λ j. below j x.0) (sym is) ∙ below_from 0 ns i x.0 o x.1 in
      by_node h (HasNumber ns h) (plains ns) i
      (λ j l q. found n j (omega (arith, l, lt)) (omega (arith, l, within)) q)
      x.0 b (λ own. (i, within, e ∙ sym own)) (subst (IsPart h) e p)

pub has_number : (f : FormulaOf) → IsFormula f → (h : Plain) → IsPart h (formulas.plain f) → HasNumber f.nodes h
has_number f a h p = found f.nodes a.in_order h (suc f.root) f.root (omega arith) a.within p
