-- When two trees of witnesses are the same: they have the same node, and the same atom and place, or the same variable, the
-- same value and the same trees under it. Values are the same if their terms are, ids aside.
use Rattle.std.specs.Prelude.{Bool, true, false, ◌&&◌, eqb, List, [], ◌∷◌}
use Rattle.c_terms.specs.Same.{same_bytes}
use Rattle.smpl_terms.specs.Vars.{same_var}
use Rattle.smpl_terms.specs.Values.{same}
use Rattle.smpl_patch.specs.declared.witness.Witness.{Witness, out-Witness}
use Rattle.smpl_patch.specs.declared.witness.Witness.TheOpen.{Witness-F}
use Rattle.smpl_patch.specs.declared.witness.Witness.TheFolds.{fold-Witness}

-- each test passes the element at its place
abbrev pub all_pass : {T : Type 0} → List (T → Bool) → List T → Bool
all_pass [] [] = true
all_pass [] (t ∷ ts) = false
all_pass (f ∷ fs) [] = false
all_pass (f ∷ fs) (t ∷ ts) = f t && all_pass fs ts

abbrev pub same_at : Witness-F (Witness → Bool) → Witness-F Witness → Bool
same_at (Witness-F.Touch n a p) (Witness-F.Touch m b q) = eqb n m && (eqb a b && same_bytes p q)
same_at (Witness-F.Touch n a p) (Witness-F.Bind m y u us) = false
same_at (Witness-F.Bind n x v fs) (Witness-F.Touch m b q) = false
same_at (Witness-F.Bind n x v fs) (Witness-F.Bind m y u us) = eqb n m && (same_var x y && (same v u && all_pass fs us))

abbrev pub same_step : Witness-F (Witness → Bool) → Witness → Bool
same_step layer w = same_at layer (out-Witness w)

abbrev pub same_witness : Witness → Witness → Bool
same_witness = fold-Witness (Witness → Bool) same_step

-- the same trees, one by one
abbrev pub same_forest : List Witness → List Witness → Bool
same_forest [] [] = true
same_forest [] (w ∷ ws) = false
same_forest (v ∷ vs) [] = false
same_forest (v ∷ vs) (w ∷ ws) = same_witness v w && same_forest vs ws
