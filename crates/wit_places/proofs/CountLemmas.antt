-- A forest has as many paths as touches.
use Rattle.std.proofs.Common.{◌≡◌, ◌∙◌, ◌+◌, ℕ, List, [], ◌∷◌, map, length, refl, sym, ap, length-append}
use Rattle.std.proofs.lemmas.List.{length-map}
use Rattle.std.proofs.lemmas.List.Sums.{sum_by-cons}
use Rattle.c_terms.specs.declared.tree.Tree.{Tree}
use Rattle.smpl_terms.specs.declared.var.Var.{Var}
use Rattle.smpl_terms.specs.declared.value.Value.{Value}
use Rattle.smpl_patch.specs.declared.witness.Witness.{Witness}
use Rattle.smpl_patch.specs.declared.witness.Witness.TheVariants.{Touch, Bind, rolls-Touch, rolls-Bind}
use Rattle.smpl_patch.specs.declared.witness.Witness.TheFolds.{fold-Witness, fold-roll-Witness}
use Rattle.wit_places.specs.Touches.{paths, touch_paths, count_step, touch_count}
use Rattle.wit_places.specs.Spans.{span_at, touch_spans}
use Rattle.wit_places.proofs.Induct.{Each, witness_induction}
use Rattle.wit_places.proofs.TouchLemmas.{paths-Touch, paths-Bind}

-- how many touches a tree has
abbrev count : Witness → ℕ
count = fold-Witness ℕ count_step

count-Touch : (node atom : ℕ) (path : List ℕ) → count (Touch node atom path) ≡ 1
count-Touch node atom path = ap count (sym (rolls-Touch node atom path)) ∙ fold-roll-Witness ℕ count_step _

count-Bind : (node : ℕ) (x : Var) (v : Value) (under : List Witness) → count (Bind node x v under) ≡ touch_count under
count-Bind node x v under = ap count (sym (rolls-Bind node x v under)) ∙ fold-roll-Witness ℕ count_step _

abbrev IsCounted : Witness → Type 0
IsCounted w = length (paths w) ≡ count w

row_counted : (ws : List Witness) → Each IsCounted ws → length (touch_paths ws) ≡ touch_count ws
row_counted [] each = refl
row_counted (w ∷ ws) each =
    length-append (paths w) (touch_paths ws) ∙ ap (λ n. n + length (touch_paths ws)) each.0 ∙ ap (λ n. count w + n) (row_counted ws each.1)
    ∙ sym (sum_by-cons (λ (n : ℕ). n) (count w) (map count ws))

counted : (w : Witness) → IsCounted w
counted = witness_induction IsCounted
    (λ node atom path. ap length (paths-Touch node atom path) ∙ sym (count-Touch node atom path))
    (λ node x v under each. ap length (paths-Bind node x v under) ∙ row_counted under each ∙ sym (count-Bind node x v under))

all_counted : (ws : List Witness) → Each IsCounted ws
all_counted [] = tt
all_counted (w ∷ ws) = (counted w, all_counted ws)

pub spans_counted : (loaded : ℕ) (t : Tree) (forest : List Witness) → length (touch_spans loaded t forest) ≡ touch_count forest
spans_counted loaded t forest = length-map (touch_paths forest) (span_at loaded t) ∙ row_counted forest (all_counted forest)
