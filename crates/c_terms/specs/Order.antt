-- The order of terms.
use Rattle.std.specs.declared.cmp.Ordering.{Ordering}
use Rattle.std.specs.declared.cmp.Ordering.TheVariants.{Less, Greater}
use Rattle.std.specs.Ordering.{nat_cmp, ordering_then}
use Rattle.std.specs.Cmp.Lexicographic.{slice_cmp}
use Rattle.c_terms.specs.declared.token.Token.{Token}
use Rattle.c_terms.specs.declared.tree.Tree.{Tree, out-Tree}
use Rattle.c_terms.specs.declared.tree.Tree.TheOpen.{Tree-F}
use Rattle.c_terms.specs.declared.tree.Tree.TheFolds.{fold-Tree}
use Rattle.c_terms.specs.Numbers.{kind_number, label_number}

-- by kind, then by the bytes, a proper prefix first
abbrev pub token_order : Token → Token → Ordering
token_order a b = ordering_then (nat_cmp (kind_number a.kind) (kind_number b.kind)) (slice_cmp nat_cmp a.text b.text)

-- a leaf before a branch; branches by label, then children one by one, a proper prefix first
abbrev pub order_at : Tree-F (Tree → Ordering) → Tree-F Tree → Ordering
order_at (Tree-F.Leaf a) (Tree-F.Leaf b) = token_order a b
order_at (Tree-F.Leaf a) (Tree-F.Branch k us) = Less
order_at (Tree-F.Branch l fs) (Tree-F.Leaf b) = Greater
order_at (Tree-F.Branch l fs) (Tree-F.Branch k us) =
    ordering_then (nat_cmp (label_number l) (label_number k)) (slice_cmp (λ f u. f u) fs us)

abbrev pub order_step : Tree-F (Tree → Ordering) → Tree → Ordering
order_step layer u = order_at layer (out-Tree u)

-- the order of terms: a fold over the first tree, whose children have become functions that compare, against the second tree
abbrev pub tree_order : Tree → Tree → Ordering
tree_order = fold-Tree (Tree → Ordering) order_step
