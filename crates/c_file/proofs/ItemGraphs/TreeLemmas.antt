-- The trees of a file's items have graphs.
use Rattle.std.proofs.Common.{ℕ, zero, suc, ◌<◌, ◌^◌, arith, List, [], ◌∷◌, Some, IfSome, All}
use Rattle.std.specs.Prelude.{slice_get}
use Rattle.std.proofs.lemmas.List.Elements.{All-head, All-tail}
use Rattle.cpp_lines.specs.declared.reading.Item.{Item}
use Rattle.cpp_lines.specs.declared.reading.Item.TheVariants.{Parsed, Skipped}
use Rattle.cfg_build.specs.Graphs.{node_count}
use Rattle.c_file.specs.Fit.{IsFit}
use Rattle.c_file.specs.ItemGraphs.Trees.{item_tree}

one_few : (item : Item) → IsFit item → IfSome (item_tree (Some item)) (λ t. node_count t < 2 ^ 32)
one_few (Parsed t) f = omega (arith, f.0)
one_few (Skipped span why) f = tt

pub trees_few : (items : List Item) → All IsFit items → (i : ℕ) → IfSome (item_tree (slice_get items i)) (λ t. node_count t < 2 ^ 32)
trees_few [] a i = tt
trees_few (x ∷ xs) a zero = one_few x (All-head IsFit x xs a)
trees_few (x ∷ xs) a (suc i) = trees_few xs (All-tail IsFit x xs a) i
