-- Whether branches have a `;`, from the last token backwards.
use Rattle.std.specs.Prelude.{ℕ, zero, suc, Bool, true, false, List, [], ◌∷◌}
use Rattle.c_rows.specs.declared.branches.Group.{Group}
use Rattle.c_rows.specs.declared.branches.Group.TheVariants as groups

-- The flag, from a list with one flag for each number of groups, the least number first.
abbrev pub flag_at : List Bool → ℕ → Bool
flag_at [] d = false
flag_at (b ∷ bs) zero = b
flag_at (b ∷ bs) (suc d) = flag_at bs d

abbrev pub flags_behind : List Bool → List Bool
flags_behind [] = []
flags_behind (b ∷ bs) = bs

-- the list before such a token, if `bs` is the list after it
abbrev pub passed : Group → List Bool → List Bool
passed groups.Opening bs = flags_behind bs
passed groups.Closing bs = false ∷ bs
passed groups.Parting bs = false ∷ flags_behind bs
passed groups.Semicolon bs = true ∷ flags_behind bs
passed groups.Plain bs = bs
