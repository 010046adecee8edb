-- The node with a part's number.
use Rattle.std.proofs.Common.{◌≡◌, ℕ, suc, zero, ◌+◌, ◌<◌, true, refl, ap, ◌∙◌, arith, List, [], ◌∷◌, length, Some}
use Rattle.std.specs.Prelude.{slice_get, slice_index_or}
use Rattle.ctl_formula.specs.Tables.{at, plains, plain_of, below, ordered, ordered_from}
use Rattle.ctl_formula.specs.declared.node.Node.{Node}
use Rattle.ctl_formula.specs.declared.node.Node.TheVariants as node
use Rattle.ctl_formula.proofs.TableLemmas.{at-node, and-left, and-right}

got_node : (ns : List Node) (i : ℕ) → i < length ns → slice_get ns i ≡ Some (slice_index_or ns i node.True)
got_node [] i lt = absurd (omega (arith, lt))
got_node (n ∷ ns) zero lt = refl
got_node (n ∷ ns) (suc i) lt = got_node ns i (omega (arith, lt))

below_from : (k : ℕ) (ns : List Node) (i : ℕ) → ordered_from k ns ≡ true → i < length ns → below (k + i) (slice_index_or ns i node.True) ≡ true
below_from k [] i o lt = absurd (omega (arith, lt))
below_from k (m ∷ ns) zero o lt =
    let z : k + 0 ≡ k = omega arith in
    ap (λ q. below q m) z ∙ and-left (below k m) _ o
below_from k (m ∷ ns) (suc i) o lt =
    let z : k + suc i ≡ suc k + i = omega arith in
    ap (λ q. below q (slice_index_or ns i node.True)) z ∙ below_from (suc k) ns i (and-right (below k m) _ o) (omega (arith, lt))

pub node_is : (ns : List Node) → ordered ns ≡ true → (i : ℕ) → i < length ns
    → (at (plains ns) i ≡ plain_of (plains ns) (slice_index_or ns i node.True)) × (below i (slice_index_or ns i node.True) ≡ true)
node_is ns o i lt = (
  at-node ns i (slice_index_or ns i node.True) o (got_node ns i lt),
  (let z : i ≡ 0 + i = omega arith in ap (λ q. below q (slice_index_or ns i node.True)) z ∙ below_from 0 ns i o lt),
)
