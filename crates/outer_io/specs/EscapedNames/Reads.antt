-- Escapes, and how they are read back.
use Rattle.std.specs.Prelude.{ℕ, ◌+◌, ◌-◌, ◌*◌, ◌==◌, nat_lt, List, [], ◌∷◌, if◌then◌else◌}

-- the value of a hexadecimal digit in lower case
abbrev pub hex_value : ℕ → ℕ
hex_value digit = if nat_lt digit 58 then digit - 48 else digit - 87

-- how far an escape has been read
pub data Reading : Type 0 where
  -- the next byte is itself, or an escape begins
  Outside : Reading
  -- a backslash was read
  Begun : Reading
  -- a backslash and an `x` were read
  Coded : Reading
  -- a first digit was read too, with this value
  Half : ℕ → Reading

-- the name that is shown as these bytes
abbrev pub read_on : Reading → List ℕ → List ℕ
read_on reading [] = []
read_on Reading.Outside (b ∷ bs) = if b == 92 then read_on Reading.Begun bs else b ∷ read_on Reading.Outside bs
read_on Reading.Begun (b ∷ bs) =
    if b == 92 then 92 ∷ read_on Reading.Outside bs
    else if b == 110 then 10 ∷ read_on Reading.Outside bs
    else if b == 116 then 9 ∷ read_on Reading.Outside bs
    else read_on Reading.Coded bs
read_on Reading.Coded (b ∷ bs) = read_on (Reading.Half (hex_value b)) bs
read_on (Reading.Half high) (b ∷ bs) = (high * 16 + hex_value b) ∷ read_on Reading.Outside bs

abbrev pub read_name : List ℕ → List ℕ
read_name shown = read_on Reading.Outside shown
