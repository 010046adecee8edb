-- Lists that grow by a member for each touch.
use Rattle.std.specs.Prelude.{◌≡◌, List, ◌++◌}
use Rattle.std.specs.List.{AllZip}
use Rattle.edit_marks.specs.EditWalk.Touches.{Touched}

-- the new list is the old one with a member for each touch
pub record Adds {E : Type 0} (Is : Touched → E → Type 0) (old new : List E) (ts : List Touched) : Type 0 where
  pub more : List E
  pub joined : new ≡ old ++ more
  pub each : AllZip Is ts more
