use Rattle.std.proofs.Common.{List, ◌++◌, drop}
use Rattle.c_terms.specs.Names.{listed_names}
use Rattle.cpp_lines.specs.declared.reading.Item.{Item}
use Rattle.c_file.specs.Reads.{ReadsFrom}
use Rattle.c_file.proofs.file.read_items.Given as goal

-- what the remaining spans are read as, appended to what is read so far, is what all spans are read as
abbrev pub invariant-loop-span : goal.invariant-loop-span
invariant-loop-span l = (rest : List Item) → ReadsFrom l.visible l.names (drop l.span-index l.spans) rest
    → ReadsFrom l.visible listed_names l.spans (l.read.items ++ rest)
