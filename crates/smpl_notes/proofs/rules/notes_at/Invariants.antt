use Rattle.std.proofs.Common.{◌≡◌, map, take}
use Rattle.smpl_notes.specs.Notes.{note}
use Rattle.smpl_notes.proofs.rules.notes_at.Given as goal

abbrev pub invariant-loop-f : goal.invariant-loop-f
invariant-loop-f l = l.notes ≡ map (note l.number l.table) (take l.f-index l.slips)
