use Rattle.std.proofs.Common.{◌≡◌, ◌++◌, drop, map}
use Rattle.std.specs.List.{filter}
use Rattle.smpl_notes.specs.Told.{is_told}
use Rattle.run_files.specs.RunLines.Notes.{note_line}
use Rattle.run_files.proofs.run_lines.notes.told_lines.Given as goal

abbrev pub invariant-loop-note : goal.invariant-loop-note
invariant-loop-note l =
    l.lines ++ map (note_line l.name) (filter (is_told l.has_isos l.reports) (drop l.note-index l.notes))
    ≡ map (note_line l.name) (filter (is_told l.has_isos l.reports) l.notes)
