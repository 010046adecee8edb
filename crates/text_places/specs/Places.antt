-- The place of a byte of a text, as a line and a column.
use Rattle.std.specs.Prelude.{ℕ, ◌+◌, ◌==◌, not, Bool, List, take, count_by, if◌then◌else◌}
use Rattle.std.specs.List.{suffix_len}
use Rattle.text_places.specs.declared.place.Place.{Place}

abbrev pub is_newline : ℕ → Bool
is_newline byte = byte == 10

-- the number of newlines
abbrev pub newlines : List ℕ → ℕ
newlines text = count_by is_newline text

-- the number of bytes after the last newline, or of all bytes if there is none
abbrev pub bytes_in_last_line : List ℕ → ℕ
bytes_in_last_line text = suffix_len (λ byte. not (is_newline byte)) text

-- the place directly after a text: both numbers are from 1
abbrev pub end_of : List ℕ → Place
end_of text = record { line = newlines text + 1; column = bytes_in_last_line text + 1 }

-- the place of the byte with this offset: it is directly after the bytes before it
abbrev pub place_of : List ℕ → ℕ → Place
place_of text at = end_of (take at text)

-- the place directly after a byte at a place
abbrev pub place_after : Place → ℕ → Place
place_after place byte =
    if is_newline byte then record { line = place.line + 1; column = 1 }
    else record { line = place.line; column = place.column + 1 }
