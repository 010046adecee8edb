-- The further line, which follows a line about a file or a patch in the same put: what is at a place, and where that is.
use Rattle.std.specs.Prelude.{ℕ, Bool, cond, List, [], ◌++◌, Option, Some, None, option_map, codes}
use Rattle.std.specs.Fmt.{decimal}
use Rattle.outer_io.specs.EscapedNames.Escapes.{escaped_name}
use Rattle.text_places.specs.declared.place.Place.{Place}
use Rattle.text_places.specs.Places.{place_of}

-- two blanks, then as the GNU standards have it: the name, the line and the column, and what is there
abbrev pub further : List ℕ → Place → List ℕ → List ℕ
further name place what =
    codes "  " ++ escaped_name name ++ codes ":" ++ decimal place.line ++ codes ":" ++ decimal place.column ++ codes ": " ++ what ++ codes "\n"

-- without a place there is no further line
abbrev pub further_at : List ℕ → Option Place → List ℕ → List ℕ
further_at name None what = []
further_at name (Some place) what = further name place what

-- the place of a byte of a text, if there is such a byte
abbrev pub placed : List ℕ → Option ℕ → Option Place
placed text at = option_map (place_of text) at

-- the place that is told: none under `--quiet`
abbrev pub told_place : (quiet : Bool) → Option Place → Option Place
told_place quiet place = cond quiet None place
