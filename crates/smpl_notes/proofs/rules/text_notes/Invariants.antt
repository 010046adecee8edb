use Rattle.std.proofs.Common.{◌≡◌, ◌++◌, drop}
use Rattle.smpl_notes.specs.Names.{declared_words}
use Rattle.smpl_notes.specs.Notes.{sign_notes, notes_from}
use Rattle.smpl_notes.proofs.rules.text_notes.Given as goal

abbrev pub invariant-loop-i : goal.invariant-loop-i
invariant-loop-i l = record {
  same : l.places ≡ l.bytes;
  done : l.found ++ notes_from l.bytes (declared_words l.texts) l.i (drop l.i l.texts) (drop l.i l.rules)
      ≡ sign_notes l.texts ++ notes_from l.bytes (declared_words l.texts) 0 l.texts l.rules;
}
