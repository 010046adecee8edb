-- A graph as contracts see it.
use Rattle.std.specs.Prelude.{◌≡◌, ℕ, ◌^◌, ◌<◌, List, [], ◌∷◌, length, slice_index_or, Option, None, All, IfSome}
use Rattle.c_types.specs.Tables.{ItemTypes}
use Rattle.cfg_build.specs.declared.cfg_graph.label.NodeLabel.{NodeLabel}

-- for each node: its label, its successors, the node past its statement, the entries of its branches; and what is known of the
-- types of the item's expressions
pub record Flow : Type 0 where
  pub labels : List NodeLabel
  pub succ : List (List ℕ)
  pub past : List (Option ℕ)
  pub down : List (List ℕ)
  pub types : ItemTypes

abbrev pub count_of : Flow → ℕ
count_of g = length g.labels

abbrev pub succ_of : Flow → ℕ → List ℕ
succ_of g n = slice_index_or g.succ n []

abbrev pub past_of : Flow → ℕ → Option ℕ
past_of g n = slice_index_or g.past n None

abbrev pub down_of : Flow → ℕ → List ℕ
down_of g n = slice_index_or g.down n []

-- n is less than the first of the numbers, if there is one
abbrev pub IsBelow : ℕ → List ℕ → Type 0
IsBelow n [] = Unit {0}
IsBelow n (k ∷ ks) = n < k

-- each number is less than the next
abbrev pub IsRising : List ℕ → Type 0
IsRising [] = Unit {0}
IsRising (n ∷ ns) = IsBelow n ns × IsRising ns

-- successors in a graph of `count` nodes: at least one, increasing, each a node
pub record AreLinks (count : ℕ) (numbers : List ℕ) : Type 0 where
  pub some : 0 < length numbers
  pub rising : IsRising numbers
  pub nodes : All (λ n. n < count) numbers

pub record IsSound (g : Flow) : Type 0 where
  pub few : count_of g < 2 ^ 32
  pub succ_each : length g.succ ≡ count_of g
  pub past_each : length g.past ≡ count_of g
  pub down_each : length g.down ≡ count_of g
  pub succ_links : All (AreLinks (count_of g)) g.succ
  pub past_nodes : All (λ p. IfSome p (λ n. n < count_of g)) g.past
  pub down_nodes : All (λ numbers. All (λ n. n < count_of g) numbers) g.down

-- the graph with these types
abbrev pub with_types : Flow → ItemTypes → Flow
with_types g types = record g { types = types }
