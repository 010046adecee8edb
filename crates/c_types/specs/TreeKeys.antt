-- What the expressions of an item are found by.
use Rattle.std.specs.Prelude.{ℕ, ◌-◌, ◌^◌, min, Bool, nat_eq, List, [], ◌∷◌, ◌++◌, map, Option, slice_get, if◌then◌else◌}
use Rattle.std.specs.Option.{option_map}
use Rattle.std.specs.Ordering.{on, eq_of_both}
use Rattle.std.specs.Option as options
use Rattle.std.specs.Hash as fed
use Rattle.c_terms.specs.declared.token.Token.{Token}
use Rattle.c_terms.specs.declared.tree.Tree.{Tree}
use Rattle.c_terms.specs.Trees.{leaves, levels}
use Rattle.c_terms.specs.Places.{parts}
use Rattle.c_terms.specs.Shapes.{is_expression_part}
use Rattle.c_types.specs.declared.tree_key.TreeKey.{TreeKey}

-- the id of the first token
abbrev pub first_id : Tree → Option ℕ
first_id t = option_map (λ (a : Token). a.id) (slice_get (leaves t) 0)

-- the levels, or 2^64 - 1 if there are more
abbrev pub level_count : Tree → ℕ
level_count t = min (levels t) (2 ^ 64 - 1)

-- A subtree of an item, by the id of its first token and its levels. Subtrees with the same first token are nested, and the
-- inner one has fewer levels. So in an item of fewer than 2^64 levels whose tokens have different ids no other subtree that has
-- a token has the same key.
abbrev pub key_of : Tree → TreeKey
key_of t = record { first = first_id t; levels = level_count t }

-- the keys of the expressions in a tree, by place
abbrev pub part_keys : Tree → List TreeKey
part_keys t = map (λ p. key_of p.tree) (parts is_expression_part t)

-- the keys of a child that may be an expression itself, and of those in it
abbrev pub child_keys : Bool → Tree → List TreeKey
child_keys is_part c = (if is_part then key_of c ∷ [] else []) ++ part_keys c

abbrev pub same_key : TreeKey → TreeKey → Bool
same_key = eq_of_both (on (λ k. k.first) (options.option_eq nat_eq)) (on (λ k. k.levels) nat_eq)

abbrev pub key_input : TreeKey → fed.HashWrites
key_input k = fed.option fed.u64 k.first ++ fed.usize k.levels
