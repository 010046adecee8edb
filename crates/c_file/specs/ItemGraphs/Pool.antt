-- The items of a file with their graphs.
use Rattle.std.specs.Prelude.{Bool, List, Option, if◌then◌else◌}
use Rattle.cpp_lines.specs.declared.reading.Item.{Item}
use Rattle.cfg_build.specs.CfgGraph.Flow.{Flow}

-- for each item its graph without types, if it is made, and the one with types
pub record Pool : Type 0 where
  pub items : List Item
  pub graphs : List (Option Flow)
  pub typed : List (Option Flow)

-- those with or without types
abbrev pub graphs_in : Bool → Pool → List (Option Flow)
graphs_in typed p = if typed then p.typed else p.graphs
