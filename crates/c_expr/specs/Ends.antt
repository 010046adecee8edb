-- Where members end, from the last token backwards.
use Rattle.std.specs.Prelude.{ℕ, zero, suc, List, [], ◌∷◌}
use Rattle.c_rows.specs.declared.class.Class.{Class}
use Rattle.c_rows.specs.declared.class.Class.TheVariants as class
use Rattle.c_rows.specs.declared.turn.Turn.{Turn}
use Rattle.c_rows.specs.declared.turn.Turn.TheVariants as turns

-- The class at which a scan ends, from a list with one class for each number of brackets, the least number first.
abbrev pub end_at : List Class → ℕ → Class
end_at [] d = class.End
end_at (c ∷ cs) zero = c
end_at (c ∷ cs) (suc d) = end_at cs d

abbrev pub behind_first : List Class → List Class
behind_first [] = []
behind_first (c ∷ cs) = cs

-- the list before a token of class c, if `cs` is the list after it
abbrev pub passed : Turn → Class → List Class → List Class
passed turns.Opening c cs = behind_first cs
passed turns.Closing c cs = c ∷ cs
passed turns.Asking c cs = c ∷ behind_first cs
passed turns.Parting c cs = c ∷ behind_first cs
passed turns.Plain c cs = cs
