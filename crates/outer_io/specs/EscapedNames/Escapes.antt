-- How a line shows the name of a file. What would end a line, or make it unclear, is an escape.
use Rattle.std.specs.Prelude.{ℕ, ◌+◌, ◌/◌, ◌%◌, ◌==◌, ◌||◌, Bool, nat_lt, List, [], ◌∷◌, ◌++◌, codes, if◌then◌else◌}
use Rattle.std.specs.List.{flat_map}

-- a hexadecimal digit, in lower case
abbrev pub hex_digit : ℕ → ℕ
hex_digit value = if nat_lt value 10 then 48 + value else 87 + value

-- a byte that no line shows as it is: one below the blank, or 127
abbrev pub is_control : ℕ → Bool
is_control byte = nat_lt byte 32 || byte == 127

-- one byte, as lines show it
abbrev pub escaped_byte : ℕ → List ℕ
escaped_byte byte =
    if byte == 92 then codes "\\\\"
    else if byte == 10 then codes "\\n"
    else if byte == 9 then codes "\\t"
    else if is_control byte then codes "\\x" ++ hex_digit (byte / 16) ∷ hex_digit (byte % 16) ∷ []
    else byte ∷ []

-- a name, as lines show it
abbrev pub escaped_name : List ℕ → List ℕ
escaped_name name = flat_map escaped_byte name
