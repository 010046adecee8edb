-- The lines of the notes on a patch.
use Rattle.std.specs.Prelude.{ℕ, Bool, cond, List, [], ◌++◌, Option, Some, None, map, codes}
use Rattle.std.specs.List.{filter}
use Rattle.std.specs.Fmt.{decimal}
use Rattle.outer_io.specs.EscapedNames.Escapes.{escaped_name}
use Rattle.text_places.specs.declared.place.Place.{Place}
use Rattle.smpl_notes.specs.declared.note.Note.{Note}
use Rattle.smpl_notes.specs.declared.note.Note.TheVariants.{NoSign, InRule}
use Rattle.smpl_notes.specs.Sentences.{sentence}
use Rattle.smpl_notes.specs.Told.{is_told, is_told_always}
use Rattle.run_words.specs.Orders.{Target, OnFiles, OnText}
use Rattle.run_files.specs.declared.run_lines.notes.NoteLines.{NoteLines}
use Rattle.run_files.specs.RunLines.Further.{further}

abbrev pub noted : List ℕ → List ℕ
noted text = codes "note: " ++ text

-- a note without a place: two blanks, the name, the rule if there is one, and what is noted
abbrev pub unplaced_line : List ℕ → List ℕ → List ℕ → List ℕ
unplaced_line name rule what = codes "  " ++ escaped_name name ++ codes ": " ++ rule ++ what ++ codes "\n"

abbrev pub rule_text : ℕ → List ℕ
rule_text rule = codes "rule " ++ decimal rule ++ codes ": "

abbrev pub rule_line : List ℕ → ℕ → Option Place → List ℕ → List ℕ
rule_line name rule (Some place) what = further name place what
rule_line name rule None what = unplaced_line name (rule_text rule) what

-- the line that says this of where a note is
abbrev pub line_at : List ℕ → Note → List ℕ → List ℕ
line_at name NoSign what = unplaced_line name [] what
line_at name (InRule rule place slip) what = rule_line name rule place what

-- the line of a note on the patch of this name
abbrev pub note_line : List ℕ → Note → List ℕ
note_line name note = line_at name note (noted (sentence note))

abbrev pub no_lines : NoteLines
no_lines = record { all = []; always = [] }

-- the lines of those notes that a run tells if nothing is found, and of those that it tells if something is found too
abbrev pub lines_of : List ℕ → (has_isos reports : Bool) → List Note → NoteLines
lines_of name has_isos reports notes = record {
  all = map (note_line name) (filter (is_told has_isos reports) notes);
  always = map (note_line name) (filter is_told_always notes);
}

-- the lines of the notes that a run may tell: none on a generated text, and none under `--quiet`
abbrev pub note_lines : List ℕ → (has_isos : Bool) → Target → List Note → NoteLines
note_lines name has_isos (OnFiles mode names) notes = cond mode.quiet no_lines (lines_of name has_isos mode.witnesses notes)
note_lines name has_isos (OnText seed functions quiet unread tidy) notes = no_lines
