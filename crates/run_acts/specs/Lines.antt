-- The lines on the error output.
use Rattle.std.specs.Prelude.{ℕ, List, ◌++◌, codes}
use Rattle.outer_io.specs.EscapedNames.Escapes.{escaped_name}

-- a line about the file or patch of this name, in which no byte of the name ends the line
abbrev pub line_of : List ℕ → List ℕ → List ℕ
line_of name text = codes "spatch: " ++ escaped_name name ++ codes ": " ++ text ++ codes "\n"

abbrev pub cannot_read : List ℕ → List ℕ
cannot_read name = line_of name (codes "cannot read")

abbrev pub cannot_write : List ℕ → List ℕ
cannot_write name = line_of name (codes "cannot write")

abbrev pub cannot_print : List ℕ
cannot_print = codes "spatch: cannot print\n"
