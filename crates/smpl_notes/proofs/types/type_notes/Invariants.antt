use Rattle.std.proofs.Common.{◌≡◌, ◌++◌, drop}
use Rattle.smpl_meta.specs.Forms.{parts}
use Rattle.smpl_notes.specs.Types.{type_notes}
use Rattle.smpl_notes.proofs.TypeLemmas.{left}
use Rattle.smpl_notes.proofs.types.type_notes.Given as goal

abbrev pub invariant-loop-i : goal.invariant-loop-i
invariant-loop-i l = record {
  same : l.places ≡ l.initial.places;
  done : l.notes ++ left l.initial.places l.number l.begins (parts (drop l.i l.decls)) ≡ type_notes l.initial.places l.number l.decls;
}
