-- Which lines of a text are emptied.
use Rattle.std.specs.Prelude.{ℕ, ◌==◌, ◌&&◌, Bool, true, false, not, List, [], ◌∷◌, ◌++◌, length, map, replicate, if◌then◌else◌}
use Rattle.std.specs.List.{list_all, list_any}
use Rattle.tidy_flags.specs.declared.lines.LineByte.{LineByte}

-- a line is emptied if it has a removed token, and nothing but such tokens and blanks
abbrev pub is_emptied : List LineByte → Bool
is_emptied line = list_any (λ b. b.goes) line && list_all (λ b. b.is_soft) line

abbrev pub is_newline : LineByte → Bool
is_newline b = b.byte == 10

-- for each byte of a line whether the line is emptied
abbrev pub line_flags : List LineByte → List Bool
line_flags line = replicate (length line) (is_emptied line)

-- for each byte whether its line is emptied, given what the first line has before these bytes
abbrev pub emptied_from : List LineByte → List LineByte → List Bool
emptied_from line [] = line_flags line
emptied_from line (b ∷ bytes) = if is_newline b then line_flags (line ++ b ∷ []) ++ emptied_from [] bytes else emptied_from (line ++ b ∷ []) bytes

abbrev pub emptied : List LineByte → List Bool
emptied bytes = emptied_from [] bytes

-- the bytes whose lines are not emptied
abbrev pub left_of_lines : List Bool → List ℕ → List ℕ
left_of_lines flags [] = []
left_of_lines [] (b ∷ bytes) = b ∷ bytes
left_of_lines (true ∷ flags) (b ∷ bytes) = left_of_lines flags bytes
left_of_lines (false ∷ flags) (b ∷ bytes) = b ∷ left_of_lines flags bytes

-- the bytes of a removed token without inserts, or with some
abbrev pub removed_bytes : Bool → List ℕ → List LineByte
removed_bytes has_insert text =
    let is_free = not has_insert && not (list_any (λ b. b == 10) text) in map (λ b. record { byte = b; goes = is_free; is_soft = is_free }) text

abbrev pub blank_bytes : List ℕ → List LineByte
blank_bytes text = map (λ b. record { byte = b; goes = false; is_soft = not (b == 92) }) text

abbrev pub solid_bytes : List ℕ → List LineByte
solid_bytes text = map (λ b. record { byte = b; goes = false; is_soft = false }) text
