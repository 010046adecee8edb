-- The lines of a patch.
use Rattle.std.specs.Prelude.{ℕ, suc, ◌+◌, ◌==◌, if◌then◌else◌, Bool, false, List, [], ◌∷◌, length}

abbrev pub newline : ℕ
newline = 10

-- a line with its newline, if it has one, and the place of its first byte
pub record Line : Type 0 where
  pub start : ℕ
  pub bytes : List ℕ

-- one more byte before some lines, at the start of the first of them
abbrev pub begun : ℕ → ℕ → List Line → List Line
begun start b [] = record { start = start; bytes = b ∷ [] } ∷ []
begun start b (l ∷ ls) = record { start = start; bytes = b ∷ l.bytes } ∷ ls

-- A newline ends a line. What is left at the end is also a line.
abbrev pub lines_from : ℕ → List ℕ → List Line
lines_from start [] = []
lines_from start (b ∷ bs) =
    if b == newline then record { start = start; bytes = b ∷ [] } ∷ lines_from (start + 1) bs
    else begun start b (lines_from (start + 1) bs)

-- the line without its newline
abbrev pub content : List ℕ → List ℕ
content [] = []
content (b ∷ bs) = if b == newline then [] else b ∷ content bs

-- where it ends: the place of its newline, or the text's end
abbrev pub end_of : Line → ℕ
end_of l = l.start + length (content l.bytes)

-- the length of the first line, including its newline
abbrev pub line_length : List ℕ → ℕ
line_length [] = 0
line_length (b ∷ bs) = if b == newline then 1 else suc (line_length bs)

-- `@`
abbrev pub at_sign : ℕ
at_sign = 64

abbrev pub begins_with : ℕ → List ℕ → Bool
begins_with byte [] = false
begins_with byte (b ∷ bs) = b == byte
