-- How many nodes trees of witnesses have.
use Rattle.std.specs.Prelude.{ℕ, ◌+◌, List, map, sum}
use Rattle.smpl_patch.specs.declared.witness.Witness.{Witness}
use Rattle.smpl_patch.specs.declared.witness.Witness.TheOpen.{Witness-F}
use Rattle.smpl_patch.specs.declared.witness.Witness.TheFolds.{fold-Witness}

abbrev pub size_step : Witness-F ℕ → ℕ
size_step (Witness-F.Touch n a p) = 1
size_step (Witness-F.Bind n x v sizes) = 1 + sum sizes

-- how many touches and binds it has
abbrev pub size : Witness → ℕ
size = fold-Witness ℕ size_step

-- the most touches and binds that a forest may have
abbrev pub most_nodes : ℕ
most_nodes = 1000000

-- how many all the trees have
abbrev pub forest_size : List Witness → ℕ
forest_size ws = sum (map size ws)
