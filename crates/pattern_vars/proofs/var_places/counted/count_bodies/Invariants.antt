use Rattle.std.proofs.Common.{ℕ, ◌+◌, drop}
use Rattle.smpl_terms.specs.declared.var.Var.{Var}
use Rattle.smpl_patch.proofs.BodyLemmas.{bodies}
use Rattle.pattern_vars.specs.VarPlaces.Placing.{bodies_with}
use Rattle.pattern_vars.specs.VarPlaces.Places.{reading_at}
use Rattle.pattern_vars.specs.VarPlaces.Homes.{IsCount}
use Rattle.pattern_vars.proofs.VarPlaces.CountLemmas.{IsCounted}
use Rattle.pattern_vars.proofs.var_places.counted.count_bodies.Given as goal

abbrev pub invariant-loop-b : goal.invariant-loop-b
invariant-loop-b l = (y : Var) (n : ℕ) → IsCount l.initial.counted y n
    → IsCounted l.counted y (bodies_with (reading_at l.reader) (bodies (drop l.b-index l.bs)) y) (n + bodies_with (reading_at l.reader) (bodies l.bs) y)
