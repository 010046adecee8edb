-- The lines about files.
use Rattle.std.specs.Prelude.{ℕ, List, [], ◌++◌, Option, Some, None, option_and_then, slice_get, codes}
use Rattle.std.specs.Fmt.{decimal}
use Rattle.cpp_lines.specs.declared.reading.Why.{Why}
use Rattle.cpp_lines.specs.declared.reading.Why.TheVariants.{NoTree, TooDeep, TooManyNodes}
use Rattle.rule_chain.specs.declared.rule_run.state.SkipNote.{SkipNote}
use Rattle.rule_chain.specs.declared.rule_run.fault.FileFault.{FileFault}
use Rattle.rule_chain.specs.declared.rule_run.fault.FileFault.TheVariants.{FileTooLong, Conflict, Body, TooManyWitnesses, TooManyEnvironments}
use Rattle.rule_chain.specs.declared.rule_run.fault.FileFault.TheVariants.{NoMemory}
use Rattle.text_places.specs.declared.place.Place.{Place}
use Rattle.c_places.specs.declared.places.TextPlaces.{TextPlaces}
use Rattle.run_files.specs.RunLines.Further.{further_at, placed}
use Rattle.run_files.specs.RunLines.Patches.{line_about}

-- why a file is refused; no file is refused because memory ran out
abbrev pub fault_text : FileFault → List ℕ
fault_text (FileTooLong rule) = codes "file too long after rule " ++ decimal rule
fault_text (Conflict rule token first second) = codes "conflict in rule " ++ decimal rule ++ codes " at token " ++ decimal token
fault_text (Body rule token) = codes "rule " ++ decimal rule ++ codes " leaves a body without braces at token " ++ decimal token
fault_text (TooManyWitnesses rule) = codes "too many witnesses in rule " ++ decimal rule
fault_text (TooManyEnvironments rule) = codes "too many environments after rule " ++ decimal rule
fault_text NoMemory = []

-- what is at the place of a refusal
abbrev pub fault_there : FileFault → List ℕ
fault_there (Conflict rule token first second) = codes "conflict in rule " ++ decimal rule
fault_there fault = fault_text fault

-- the token at which a refusal is, if it is at one
abbrev pub fault_token : FileFault → Option ℕ
fault_token (Conflict rule token first second) = Some token
fault_token (Body rule token) = Some token
fault_token fault = None

-- Where a refusal is in the text that was loaded, by where its tokens begin: at its token, if that was loaded. Ids of loaded tokens
-- count from 0, and those of added ones are greater.
abbrev pub fault_start : TextPlaces → FileFault → Option ℕ
fault_start places fault = option_and_then (slice_get places.tokens) (fault_token fault)

abbrev pub fault_place : List ℕ → TextPlaces → FileFault → Option Place
fault_place text places fault = placed text (fault_start places fault)

-- the line about a refused file, and what is at this place
abbrev pub refused_line : List ℕ → Option Place → FileFault → List ℕ
refused_line name place fault = line_about name (codes "refused: " ++ fault_text fault) ++ further_at name place (fault_there fault)

-- the line about a file that is over its limit when it is loaded
abbrev pub too_long_line : List ℕ → List ℕ
too_long_line name = line_about name (codes "refused: file too long")

-- the line about what is no regular file: a pipe, a device or a socket
abbrev pub special_line : List ℕ → List ℕ
special_line name = line_about name (codes "refused: no regular file")

abbrev pub why_text : Why → List ℕ
why_text NoTree = codes "no tree"
why_text TooDeep = codes "too deep"
why_text TooManyNodes = codes "too many nodes"

-- where an item that a reading skipped is in the text that was loaded: at the first of its visible tokens that is of that text
abbrev pub note_start : TextPlaces → SkipNote → Option ℕ
note_start places note = option_and_then (slice_get places.tokens) note.token

abbrev pub note_place : List ℕ → TextPlaces → SkipNote → Option Place
note_place text places note = placed text (note_start places note)

-- the line about an item that a reading skipped, and why it did at this place
abbrev pub skipped_line : List ℕ → Option Place → SkipNote → List ℕ
skipped_line name place note = line_about name
    (codes "reading " ++ decimal note.reading ++ codes ": item " ++ decimal note.item ++ codes " not read: " ++ why_text note.why)
    ++ further_at name place (why_text note.why)
