-- A tree without its ids.
use Rattle.c_terms.specs.declared.tree.Tree.{Tree}
use Rattle.c_terms.specs.declared.tree.Tree.TheOpen.{Tree-F}
use Rattle.c_terms.specs.declared.tree.Tree.TheVariants.{Leaf, Branch}
use Rattle.c_terms.specs.declared.tree.Tree.TheFolds.{fold-Tree}

abbrev pub bare_step : Tree-F Tree → Tree
bare_step (Tree-F.Leaf token) = Leaf (record token { id = 0 })
bare_step (Tree-F.Branch l cs) = Branch l cs

-- the tree with 0 in place of each id
abbrev pub bare : Tree → Tree
bare = fold-Tree Tree bare_step
