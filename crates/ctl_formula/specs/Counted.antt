-- Nodes with the counts of their formulas.
use Rattle.std.specs.Prelude.{◌≡◌, ℕ, ◌+◌, min, true, List, map}
use Rattle.ctl_formula.specs.Plain.{Plain, size, depth, most_parts, most_around}
use Rattle.ctl_formula.specs.declared.node.Node.{Node}
use Rattle.ctl_formula.specs.declared.parts.Part.{Part}
use Rattle.ctl_formula.specs.Tables.{plains, ordered}

-- a count above its limit becomes the limit plus one
abbrev pub counted_size : Plain → ℕ
counted_size f = min (size f) (most_parts + 1)

abbrev pub counted_depth : Plain → ℕ
counted_depth f = min (depth f) (most_around + 1)

abbrev pub nodes_of : List Part → List Node
nodes_of ps = map (λ p. p.node) ps

-- each node is after its parts, and its counts are those of its formula
pub record IsCounted (ps : List Part) : Type 0 where
  pub in_order : ordered (nodes_of ps) ≡ true
  pub sizes : map (λ p. p.size) ps ≡ map counted_size (plains (nodes_of ps))
  pub depths : map (λ p. p.depth) ps ≡ map counted_depth (plains (nodes_of ps))
