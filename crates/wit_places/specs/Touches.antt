-- The touches of a forest.
use Rattle.std.specs.Prelude.{ℕ, List, [], ◌∷◌, map}
use Rattle.std.specs.List.{sum}
use Rattle.c_terms.specs.Trees.{join}
use Rattle.smpl_patch.specs.declared.witness.Witness.{Witness}
use Rattle.smpl_patch.specs.declared.witness.Witness.TheOpen.{Witness-F}
use Rattle.smpl_patch.specs.declared.witness.Witness.TheFolds.{fold-Witness}

abbrev pub paths_step : Witness-F (List (List ℕ)) → List (List ℕ)
paths_step (Witness-F.Touch node atom path) = path ∷ []
paths_step (Witness-F.Bind node x v under) = join under

-- the paths of the touches of one tree of a forest, in preorder
abbrev pub paths : Witness → List (List ℕ)
paths = fold-Witness (List (List ℕ)) paths_step

-- the paths of all touches, tree after tree
abbrev pub touch_paths : List Witness → List (List ℕ)
touch_paths forest = join (map paths forest)

abbrev pub count_step : Witness-F ℕ → ℕ
count_step (Witness-F.Touch node atom path) = 1
count_step (Witness-F.Bind node x v under) = sum under

-- how many touches a forest has
abbrev pub touch_count : List Witness → ℕ
touch_count forest = sum (map (fold-Witness ℕ count_step) forest)
