-- Names on the output, in the form of git: a name with bytes that a line can't show stands in quotes.
use Rattle.std.specs.Prelude.{ℕ, ◌+◌, ◌/◌, ◌%◌, ◌==◌, ◌||◌, Bool, nat_lt, List, [], ◌∷◌, ◌++◌, codes, if◌then◌else◌}
use Rattle.std.specs.List.{flat_map, list_any}

-- whether a byte stands in names in quotes only: one below the blank, `"`, a backslash, or 127
abbrev pub is_special : ℕ → Bool
is_special byte = nat_lt byte 32 || (byte == 34 || (byte == 92 || byte == 127))

-- one byte, in quotes
abbrev pub quoted_byte : ℕ → List ℕ
quoted_byte byte =
    if byte == 7 then codes "\\a"
    else if byte == 8 then codes "\\b"
    else if byte == 9 then codes "\\t"
    else if byte == 10 then codes "\\n"
    else if byte == 11 then codes "\\v"
    else if byte == 12 then codes "\\f"
    else if byte == 13 then codes "\\r"
    else if byte == 34 then codes "\\\""
    else if byte == 92 then codes "\\\\"
    else if is_special byte then 92 ∷ (48 + byte / 64) ∷ (48 + byte / 8 % 8) ∷ (48 + byte % 8) ∷ []
    else byte ∷ []

-- a name as it is: or in quotes, if one of its bytes is special
abbrev pub quoted_name : List ℕ → List ℕ
quoted_name name = if list_any is_special name then codes "\"" ++ flat_map quoted_byte name ++ codes "\"" else name
