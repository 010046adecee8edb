-- Sets in which some variables are left open.
use Rattle.std.specs.Prelude.{◌≡◌, ℕ, suc, ◌-◌, ◌≤◌, true, false, List, [], length, drop, slice_index_or}
use Rattle.std.specs.Bool.{Decides}
use Rattle.smpl_terms.specs.declared.var.Var.{Var}
use Rattle.smpl_terms.specs.Environments.{Environment}
use Rattle.env_parts.specs.Parts as parts
use Rattle.env_sets.specs.Sets.{Entries, set_denotes}

-- the environments differ only in these variables
abbrev pub AgreeBut : List Var → Environment → Environment → Type 0
AgreeBut xs d e = (y : Var) → parts.is_among xs y ≡ false → d y ≡ e y

-- the set has the environment for some values of the variables
abbrev pub CanHold : Entries → List Var → Environment → Type 0
CanHold set xs d = (e : Environment) × (AgreeBut xs d e × (set_denotes set e ≡ true))

-- the other set denotes the environments for which that is so
abbrev pub IsOpen : Entries → List Var → Entries → Type 0
IsOpen set xs other = (d : Environment) → Decides (set_denotes other d) (CanHold set xs d)

-- the set with the last k variables open, for each k
pub record AreOpen (set : Entries) (xs : List Var) (sets : List Entries) : Type 0 where
  pub len : length sets ≡ suc (length xs)
  pub each : (k : ℕ) → k ≤ length xs → IsOpen set (drop (length xs - k) xs) (slice_index_or sets k [])
