-- The tree of an item.
use Rattle.std.specs.Prelude.{Option, None, Some}
use Rattle.c_terms.specs.declared.tree.Tree.{Tree}
use Rattle.cpp_lines.specs.declared.reading.Item.{Item}
use Rattle.cpp_lines.specs.declared.reading.Item.TheVariants.{Parsed, Skipped}

-- an item that was skipped has none
abbrev pub item_tree : Option Item → Option Tree
item_tree None = None
item_tree (Some (Parsed t)) = Some t
item_tree (Some (Skipped span why)) = None
