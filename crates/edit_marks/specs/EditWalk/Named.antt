-- What a touch names: the pattern of its atom, the kind of its node, a subtree of its item, and what is aligned there.
use Rattle.std.specs.Prelude.{ℕ, ◌^◌, nat_lt, Option, None, Some, List, [], ◌∷◌, map, slice_get, option_and_then, if◌then◌else◌}
use Rattle.std.specs.List.{flat_map, filter_map}
use Rattle.c_terms.specs.declared.tree.Tree.{Tree}
use Rattle.c_terms.specs.Places.{subtree}
use Rattle.cpp_lines.specs.declared.reading.Item.{Item}
use Rattle.cpp_lines.specs.declared.reading.Item.TheVariants.{Parsed, Skipped}
use Rattle.smpl_terms.specs.Environments.{total}
use Rattle.smpl_patch.specs.declared.pattern.VarDecl.{VarDecl}
use Rattle.smpl_patch.specs.declared.pattern.PatToken.{PatToken}
use Rattle.smpl_patch.specs.declared.pattern.Pattern.{Pattern}
use Rattle.pat_match.specs.Roles.{role_at}
use Rattle.pat_match.specs.declared.pat_pairs.pairs.AlignedToken.{AlignedToken}
use Rattle.pat_match.specs.PatPairs.Pairs.{aligned_tokens}
use Rattle.edit_marks.specs.declared.edit_walk.nodes.ItemNodes.{ItemNodes}
use Rattle.edit_marks.specs.EditWalk.Nodes.{kind_at, types_at}
use Rattle.edit_marks.specs.declared.removals.Aligned.{Aligned}
use Rattle.edit_marks.specs.EditWalk.Touches.{Touched}
use Rattle.edit_marks.specs.EditWalk.Keys.{number_of}

-- the pattern with a number, the first if several have it
abbrev pub pattern_of : List Pattern → ℕ → Option Pattern
pattern_of patterns atom = option_and_then (slice_get patterns) (number_of (map (λ p. p.atom) patterns) atom)

-- the subtree of an item that was read
abbrev pub part_of : Item → List ℕ → Option Tree
part_of (Parsed tree) path = subtree tree path
part_of (Skipped span why) path = None

abbrev pub tree_at : List Item → ℕ → List ℕ → Option Tree
tree_at items item path = option_and_then (λ i. part_of i path) (slice_get items item)

-- the tree of an item that was read
abbrev pub tree_of : List Item → ℕ → Option Tree
tree_of items item = option_and_then (λ i. part_of i []) (slice_get items item)

-- numbers in place of ids; tokens without a number are left out
abbrev pub numbered : List ℕ → AlignedToken → List Aligned
numbered ids p = if nat_lt p.pattern (2 ^ 32) then record { pattern = p.pattern; files = filter_map (number_of ids) p.files } ∷ [] else []

abbrev pub pairs_of : List ℕ → Option (List AlignedToken) → List Aligned
pairs_of ids None = []
pairs_of ids (Some pairs) = flat_map (numbered ids) pairs

-- the context of a place: the patterns and variables of a rule, the items with what is needed of their graphs, the ids of the
-- tokens
module _ (patterns : List Pattern) (decls : List VarDecl) (tokens : List PatToken) (items : List Item) (nodes : List ItemNodes) (ids : List ℕ) where
  -- the alignment at a touch; None if the touch names nothing, or if no form fits
  abbrev pub alignment : Touched → Option (List AlignedToken)
  alignment t =
      option_and_then (λ p. option_and_then (λ k. option_and_then
      (λ tree. aligned_tokens decls tokens (types_at nodes t.item) (total t.env) p (role_at k t.path) tree)
      (tree_at items t.item t.path)) (kind_at nodes t.item t.node)) (pattern_of patterns t.atom)

  -- the pairs of numbers; the empty list if there is no alignment
  abbrev pub pairs_at : Touched → List Aligned
  pairs_at t = pairs_of ids (alignment t)
