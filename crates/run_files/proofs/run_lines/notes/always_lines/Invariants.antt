use Rattle.std.proofs.Common.{◌≡◌, ◌++◌, drop, map}
use Rattle.std.specs.List.{filter}
use Rattle.smpl_notes.specs.Told.{is_told_always}
use Rattle.run_files.specs.RunLines.Notes.{note_line}
use Rattle.run_files.proofs.run_lines.notes.always_lines.Given as goal

abbrev pub invariant-loop-note : goal.invariant-loop-note
invariant-loop-note l =
    l.lines ++ map (note_line l.name) (filter is_told_always (drop l.note-index l.notes)) ≡ map (note_line l.name) (filter is_told_always l.notes)
