-- Items in which a rule may find something.
use Rattle.std.specs.Prelude.{ℕ, ◌≡◌, ◌<◌, Bool, true, false, List, [], length, slice_index_or}
use Rattle.cpp_lines.specs.declared.reading.Item.{Item}
use Rattle.smpl_patch.specs.declared.rule.Rule.{Rule}
use Rattle.c_file.specs.ItemGraphs.Pool.{Pool}
use Rattle.c_file.specs.ItemGraphs.Made.{IsMade}
use Rattle.env_parts.specs.Parts.{Pairs}
use Rattle.rule_chain.specs.FileWitnesses.Seen.{seen_graph}
use Rattle.rule_chain.specs.FileWitnesses.Found.{witnesses_in}

module _ (rule : Rule) (items : List Item) where
  -- in the item with this number the rule finds nothing, whatever its own number and the environment
  abbrev pub FindsNothing : ℕ → Type 0
  FindsNothing i = (number : ℕ) (env : Pairs) → witnesses_in number rule i (seen_graph rule items i) env ≡ []

  -- in the items that are left out it finds nothing
  pub record AreChosen (chosen : List Bool) : Type 0 where
    pub count : length chosen ≡ length items
    pub nothing : (i : ℕ) → i < length chosen → slice_index_or chosen i false ≡ false → FindsNothing i

-- the graphs of those that are chosen are made, with or without types
abbrev pub AreReady : Pool → Bool → List Bool → Type 0
AreReady pool typed chosen = (i : ℕ) → i < length chosen → slice_index_or chosen i false ≡ true → IsMade pool typed i
