-- The shelf and the two outputs that a run works on stay the same ones.
use Rattle.std.specs.Prelude.{◌≡◌}
use Rattle.run_acts.specs.declared.places.Outside.{Outside}

-- the references lead to the same shelf, output and error output as before; what is there may have changed
abbrev pub SamePlaces : {S O E : Type 0} → Outside S O E → Outside S O E → Type 0
SamePlaces old new = (new.shelf.ghost_name ≡ old.shelf.ghost_name)
    × ((new.out.ghost_name ≡ old.out.ghost_name) × (new.err.ghost_name ≡ old.err.ghost_name))
