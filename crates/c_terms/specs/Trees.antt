-- What a tree spells, and how deep it is.
use Rattle.std.specs.Prelude.{ℕ, ◌+◌, max, List, [], ◌∷◌, ◌++◌, map, length}
use Rattle.c_terms.specs.declared.token.Token.{Token}
use Rattle.c_terms.specs.declared.tree.Tree.{Tree}
use Rattle.c_terms.specs.declared.tree.Tree.TheOpen.{Tree-F}
use Rattle.c_terms.specs.declared.tree.Tree.TheFolds.{fold-Tree}

-- lists, one after another
abbrev pub join : {A : Type 0} → List (List A) → List A
join [] = []
join (xs ∷ more) = xs ++ join more

abbrev pub leaves_step : Tree-F (List Token) → List Token
leaves_step (Tree-F.Leaf t) = t ∷ []
leaves_step (Tree-F.Branch l tokens) = join tokens

-- the tokens from left to right
abbrev pub leaves : Tree → List Token
leaves = fold-Tree (List Token) leaves_step

abbrev pub greatest : List ℕ → ℕ
greatest [] = 0
greatest (n ∷ ns) = max n (greatest ns)

abbrev pub levels_step : Tree-F ℕ → ℕ
levels_step (Tree-F.Leaf t) = 0
levels_step (Tree-F.Branch l ns) = greatest ns + 1

-- the greatest number of branches above one another
abbrev pub levels : Tree → ℕ
levels = fold-Tree ℕ levels_step

abbrev pub levels_of_all : List Tree → ℕ
levels_of_all ts = greatest (map levels ts)

abbrev pub width_step : Tree-F ℕ → ℕ
width_step (Tree-F.Leaf t) = 0
width_step (Tree-F.Branch l ns) = max (length ns) (greatest ns)

-- the greatest number of children of any branch
abbrev pub width : Tree → ℕ
width = fold-Tree ℕ width_step
