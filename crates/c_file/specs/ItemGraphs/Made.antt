-- Which graphs are made.
use Rattle.std.specs.Prelude.{ℕ, ◌≡◌, Bool, List, Option, Some, length, slice_get}
use Rattle.cpp_lines.specs.declared.reading.Item.{Item}
use Rattle.cfg_build.specs.CfgGraph.Flow.{Flow}
use Rattle.c_file.specs.Fit.{item_graph}
use Rattle.c_file.specs.ItemGraphs.Pool.{Pool, graphs_in}
use Rattle.c_file.specs.ItemGraphs.Typed.{typed_graph, graph_in}

-- a place for each item, and a graph that is there is that of its item
pub record AreMade (items : List Item) (graphs : List (Option Flow)) : Type 0 where
  pub all : length graphs ≡ length items
  pub own : (i : ℕ) (g : Flow) → slice_get graphs i ≡ Some (Some g) → item_graph (slice_get items i) ≡ Some g

-- a place for each item, and a graph that is there is that of its item with types
pub record AreTyped (items : List Item) (graphs : List (Option Flow)) : Type 0 where
  pub all : length graphs ≡ length items
  pub own : (i : ℕ) (g : Flow) → slice_get graphs i ≡ Some (Some g) → typed_graph items i ≡ Some g

-- the graph of the item of this number is made, with or without types, if the item has one
abbrev pub IsMade : Pool → Bool → ℕ → Type 0
IsMade p typed i = slice_get (graphs_in typed p) i ≡ Some (graph_in typed p.items i)
