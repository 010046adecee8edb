-- Nodes as they are kept: each says where its statement is by an earlier node.
use Rattle.std.specs.Prelude.{ℕ, suc, ◌≤◌, List, [], ◌∷◌, ◌++◌, Option, None, Some, slice_get, slice_index_or}
use Rattle.cfg_build.specs.declared.cfg_graph.node.Seat.{Seat}
use Rattle.cfg_build.specs.declared.cfg_graph.node.Seat.TheVariants.{Item, With, Child}
use Rattle.cfg_build.specs.declared.cfg_graph.node.NodeEntry.{NodeEntry}

-- the path to a seat, by the paths of the nodes before it
abbrev pub path_to : List (List ℕ) → Seat → List ℕ
path_to paths Item = []
path_to paths (With n) = slice_index_or paths n []
path_to paths (Child n i) = slice_index_or paths n [] ++ i ∷ []

-- the paths of nodes that come after others
abbrev pub paths_after : List (List ℕ) → List NodeEntry → List (List ℕ)
paths_after paths [] = []
paths_after paths (n ∷ ns) = path_to paths n.seat ∷ paths_after (paths ++ path_to paths n.seat ∷ []) ns

abbrev pub path_of : List NodeEntry → ℕ → List ℕ
path_of ns k = slice_index_or (paths_after [] ns) k []

-- how many nodes must come before a seat
abbrev pub seat_needs : Seat → ℕ
seat_needs Item = 0
seat_needs (With n) = suc n
seat_needs (Child n i) = suc n

abbrev pub seat_in : Option NodeEntry → Seat
seat_in None = Item
seat_in (Some n) = n.seat

-- the seat of the node of this number
abbrev pub seat_at : List NodeEntry → ℕ → Seat
seat_at ns k = seat_in (slice_get ns k)

-- each node's seat refers to earlier nodes only
abbrev pub AreSeated : List NodeEntry → Type 0
AreSeated ns = (k : ℕ) → seat_needs (seat_at ns k) ≤ k
