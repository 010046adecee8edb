-- Which notes a run tells.
use Rattle.std.specs.Prelude.{Bool, true, false, ◌&&◌, not}
use Rattle.smpl_notes.specs.declared.note.Slip.{Slip}
use Rattle.smpl_notes.specs.declared.note.Slip.TheVariants as slip
use Rattle.smpl_notes.specs.declared.note.Note.{Note}
use Rattle.smpl_notes.specs.declared.note.Note.TheVariants.{NoSign, InRule}

abbrev pub is_written_test : Slip → Bool
is_written_test slip.WrittenTest = true
is_written_test _ = false

-- With isomorphisms, a test is found in other forms too. In a run that reports what it finds, a patch needs no sign.
abbrev pub is_told : (has_isos reports : Bool) → Note → Bool
is_told has_isos reports NoSign = not reports
is_told has_isos reports (InRule rule place s) = not (has_isos && is_written_test s)

abbrev pub is_on_type : Slip → Bool
is_on_type (slip.MisspeltKind name kind) = true
is_on_type (slip.UnreadKind name) = true
is_on_type _ = false

-- A note on the type of a declaration is told where something was found too: the rule still finds less than it says.
abbrev pub is_told_always : Note → Bool
is_told_always NoSign = false
is_told_always (InRule rule place s) = is_on_type s
