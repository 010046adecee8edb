-- A table of nodes: each is a formula whose parts are earlier nodes, so that equal parts are kept once.
use Rattle.std.specs.Prelude.{◌≡◌, ℕ, suc, ◌<◌, Bool, true, ◌&&◌, nat_lt, List, [], ◌∷◌, ◌++◌}
use Rattle.std.specs.Prelude.{length, slice_index_or, slice_get, Some}
use Rattle.ctl_formula.specs.Plain.{Plain}
use Rattle.ctl_formula.specs.Plain as plain
use Rattle.ctl_formula.specs.declared.node.Node.{Node}
use Rattle.ctl_formula.specs.declared.node.Node.TheVariants as node

-- a part by its number
abbrev pub at : List Plain → ℕ → Plain
at fs i = slice_index_or fs i plain.True

-- a node's formula, given those of its parts
abbrev pub plain_of : List Plain → Node → Plain
plain_of fs node.True = plain.True
plain_of fs (node.Atom p) = plain.Atom p
plain_of fs node.EarlyExit = plain.EarlyExit
plain_of fs (node.BraceOpen p b) = plain.BraceOpen p b
plain_of fs (node.BraceClose p b) = plain.BraceClose p b
plain_of fs (node.Inside b) = plain.Inside b
plain_of fs (node.Outside b) = plain.Outside b
plain_of fs (node.Not i) = plain.Not (at fs i)
plain_of fs (node.And i j) = plain.And (at fs i) (at fs j)
plain_of fs (node.Or i j) = plain.Or (at fs i) (at fs j)
plain_of fs (node.AX i) = plain.AX (at fs i)
plain_of fs (node.EX i) = plain.EX (at fs i)
plain_of fs (node.AU i j) = plain.AU (at fs i) (at fs j)
plain_of fs (node.EU i j) = plain.EU (at fs i) (at fs j)
plain_of fs (node.After i) = plain.After (at fs i)
plain_of fs (node.InBranch b i) = plain.InBranch b (at fs i)
plain_of fs (node.Exists x i) = plain.Exists x (at fs i)

abbrev pub plains_from : List Plain → List Node → List Plain
plains_from fs [] = fs
plains_from fs (n ∷ ns) = plains_from (fs ++ plain_of fs n ∷ []) ns

-- the formulas of a table's nodes, in order
abbrev pub plains : List Node → List Plain
plains ns = plains_from [] ns

-- the numbers of the node's parts are below n
abbrev pub below : ℕ → Node → Bool
below n node.True = true
below n (node.Atom p) = true
below n node.EarlyExit = true
below n (node.BraceOpen p b) = true
below n (node.BraceClose p b) = true
below n (node.Inside b) = true
below n (node.Outside b) = true
below n (node.Not i) = nat_lt i n
below n (node.And i j) = nat_lt i n && nat_lt j n
below n (node.Or i j) = nat_lt i n && nat_lt j n
below n (node.AX i) = nat_lt i n
below n (node.EX i) = nat_lt i n
below n (node.AU i j) = nat_lt i n && nat_lt j n
below n (node.EU i j) = nat_lt i n && nat_lt j n
below n (node.After i) = nat_lt i n
below n (node.InBranch b i) = nat_lt i n
below n (node.Exists x i) = nat_lt i n

abbrev pub ordered_from : ℕ → List Node → Bool
ordered_from n [] = true
ordered_from n (x ∷ xs) = below n x && ordered_from (suc n) xs

-- each node's parts are earlier nodes
abbrev pub ordered : List Node → Bool
ordered ns = ordered_from 0 ns

-- part i is this node
pub record Stands (ns : List Node) (i : ℕ) (n : Node) : Type 0 where
  pub within : i < length ns
  pub is : slice_get ns i ≡ Some n

-- the new table is the old one, possibly with more nodes at its end
abbrev pub Grows : List Node → List Node → Type 0
Grows old new = (more : List Node) × (new ≡ old ++ more)

-- part i of the new table is the formula, and the old parts are unchanged
pub record Makes (old new : List Node) (i : ℕ) (f : Plain) : Type 0 where
  pub within : i < length new
  pub is : at (plains new) i ≡ f
  pub grows : Grows old new
