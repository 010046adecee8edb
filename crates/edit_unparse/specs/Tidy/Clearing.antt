-- For internal use: where an old piece is among the parts that stay.
use Rattle.std.specs.Prelude.{ℕ, ◌+◌, ◌&&◌, Bool, List, [], ◌∷◌, length, if◌then◌else◌}
use Rattle.edit_unparse.specs.Output.{Part}
use Rattle.edit_unparse.specs.Tidy.Commas.{is_from}

-- the place of the first part that stays and is the old piece with this number, or how many parts there are
abbrev pub place_of : ℕ → List Bool → List Part → ℕ
place_of number flags [] = 0
place_of number [] (p ∷ parts) = length (p ∷ parts)
place_of number (flag ∷ flags) (p ∷ parts) = if flag && is_from number p.from then 0 else place_of number flags parts + 1
