use Rattle.std.proofs.Common.{◌≡◌, take}
use Rattle.smpl_notes.specs.Notes.{places}
use Rattle.smpl_notes.proofs.placed.places_of.Given as goal

abbrev pub invariant-loop-p : goal.invariant-loop-p
invariant-loop-p l = record { done : l.table.items ≡ places l.initial.places (take l.p-index l.placed); same : l.places ≡ l.initial.places }
