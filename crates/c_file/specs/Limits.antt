-- The limit of graphs.
use Rattle.std.specs.Prelude.{ℕ}

-- the most nodes that the graph of an item may have
abbrev pub most_nodes : ℕ
most_nodes = 20000
