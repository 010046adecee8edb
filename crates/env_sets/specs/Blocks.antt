-- Entries that are stored as several lists, and their order.
use Rattle.std.specs.Prelude.{◌≡◌, List, [], ◌∷◌, flat_map}
use Rattle.std.specs.declared.cmp.Ordering.TheVariants.{Less, Greater}
use Rattle.smpl_terms.specs.declared.var.Var.{Var}
use Rattle.smpl_terms.specs.Environments.{Environment}
use Rattle.env_sets.specs.declared.bounds.Bound.{Bound}
use Rattle.env_sets.specs.Sets.{Entries}
use Rattle.env_sets.specs.Ascending.{side, MayFollow, Ascend}

-- the entries of all blocks
abbrev pub all_entries : List Entries → Entries
all_entries blocks = flat_map (λ block. block) blocks

-- the entries ascend, also from one block to the next
unfoldable pub AreInOrder : List Entries → Type 0
AreInOrder blocks = Ascend (all_entries blocks)

-- e may follow the last of these entries, if there is one
abbrev pub LastMayPrecede : Entries → List (Var × Bound) → Type 0
LastMayPrecede [] e = Unit {0}
LastMayPrecede (d ∷ []) e = MayFollow d e
LastMayPrecede (d ∷ f ∷ es) e = LastMayPrecede (f ∷ es) e

-- the last of these entries, if there is one, is before the environment
abbrev pub LastIsBefore : Environment → Entries → Type 0
LastIsBefore env [] = Unit {0}
LastIsBefore env (e ∷ []) = side e env ≡ Less
LastIsBefore env (e ∷ f ∷ es) = LastIsBefore env (f ∷ es)

-- the first of these entries, if there is one, is after the environment
abbrev pub FirstIsAfter : Environment → Entries → Type 0
FirstIsAfter env [] = Unit {0}
FirstIsAfter env (e ∷ es) = side e env ≡ Greater
