-- Environments that give each variable the same value.
use Rattle.std.specs.Prelude.{◌≡◌, true}
use Rattle.smpl_terms.specs.declared.var.Var.{Var}
use Rattle.smpl_terms.specs.Environments.{Environment}
use Rattle.smpl_terms.specs.Values.{same}

abbrev pub Alike : Environment → Environment → Type 0
Alike e f = (x : Var) → same (e x) (f x) ≡ true
