-- What the operations on sets return, and when two sets stand for the same environments. The laws are stated in these terms.
use Rattle.std.specs.Prelude.{◌≡◌, ◌&&◌, ◌||◌, not, List}
use Rattle.std.specs.Bool.{Decides}
use Rattle.smpl_terms.specs.declared.var.Var.{Var}
use Rattle.smpl_terms.specs.declared.value.Value.{Value}
use Rattle.smpl_terms.specs.Environments.{Environment, change, over}
use Rattle.env_sets.specs.Sets.{Entries, set_denotes, ForSomeValue}

abbrev pub StandForSame : Entries → Entries → Type 0
StandForSame a b = (env : Environment) → set_denotes a env ≡ set_denotes b env

abbrev pub IsMeet : Entries → Entries → Entries → Type 0
IsMeet a b r = (env : Environment) → set_denotes r env ≡ (set_denotes a env && set_denotes b env)

abbrev pub IsJoin : Entries → Entries → Entries → Type 0
IsJoin a b r = (env : Environment) → set_denotes r env ≡ (set_denotes a env || set_denotes b env)

abbrev pub IsComplement : Entries → Entries → Type 0
IsComplement a r = (env : Environment) → set_denotes r env ≡ not (set_denotes a env)

abbrev pub IsProjection : Var → Entries → Entries → Type 0
IsProjection x a r = (env : Environment) → Decides (set_denotes r env) (ForSomeValue (λ w. set_denotes a (change env x w)))

abbrev pub IsGiven : List (Var × Value) → Entries → Entries → Type 0
IsGiven env a r = (rest : Environment) → set_denotes r rest ≡ set_denotes a (over env rest)
