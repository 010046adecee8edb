-- What the dots and nests of a tree are: members of a list or statements, and first or last in a sequence.
use Rattle.std.specs.Prelude.{ℕ, ◌-◌, Bool, true, false, ◌&&◌, not, if◌then◌else◌, List, [], ◌∷◌, ◌++◌, map, length, take, drop}
use Rattle.c_terms.specs.declared.token.Token.{Token}
use Rattle.c_terms.specs.declared.token.TokenKind.{TokenKind}
use Rattle.c_terms.specs.declared.token.TokenKind.TheVariants as token
use Rattle.c_terms.specs.declared.label.Label.{Label}
use Rattle.c_terms.specs.declared.label.Label.TheVariants as label
use Rattle.c_terms.specs.declared.tree.Tree.{Tree, out-Tree}
use Rattle.c_terms.specs.declared.tree.Tree.TheOpen.{Tree-F}
use Rattle.c_terms.specs.declared.tree.Tree.TheVariants.{Leaf, Branch}
use Rattle.c_terms.specs.declared.tree.Tree.TheFolds.{fold-Tree}
use Rattle.c_terms.specs.Trees.{join}
use Rattle.c_terms.specs.Shapes.{is_head_label}

abbrev pub is_dots : TokenKind → Bool
is_dots token.Dots = true
is_dots _ = false

-- ---- members of lists, and statements

abbrev pub is_list : Label → Bool
is_list label.Args = true
is_list label.Params = true
is_list _ = false

abbrev pub is_wanted : (listed inside : Bool) → Bool
is_wanted true inside = inside
is_wanted false inside = not inside

module _ (listed : Bool) where
  abbrev pub wanted : Token → Bool → List ℕ
  wanted t inside = if is_dots t.kind && is_wanted listed inside then t.id ∷ [] else []

  abbrev pub dots_step : Tree-F (Bool → List ℕ) → Bool → List ℕ
  dots_step (Tree-F.Leaf t) inside = wanted t inside
  dots_step (Tree-F.Branch l ds) inside = join (map (λ d. d (is_list l)) ds)

  -- the numbers of the dots that are members of a list, or of those that aren't; `inside` describes the tree itself
  abbrev pub dots_in : Tree → Bool → List ℕ
  dots_in = fold-Tree (Bool → List ℕ) dots_step

-- dots that are members of a list of arguments or parameters
abbrev pub list_dots : Tree → List ℕ
list_dots t = dots_in true t false

-- dots that are statements
abbrev pub statement_dots : Tree → List ℕ
statement_dots t = dots_in false t false

-- ---- edges

abbrev pub id_in : Tree-F Tree → List ℕ
id_in (Tree-F.Leaf t) = t.id ∷ []
id_in (Tree-F.Branch l cs) = []

-- the number of the first child, which is a token
abbrev pub first_id : List Tree → List ℕ
first_id [] = []
first_id (t ∷ ts) = id_in (out-Tree t)

abbrev pub gap_in : Tree-F Tree → List ℕ
gap_in (Tree-F.Leaf t) = if is_dots t.kind then t.id ∷ [] else []
gap_in (Tree-F.Branch label.PatNest cs) = first_id cs
gap_in (Tree-F.Branch l cs) = []

-- the number of the first token of dots or of a nest, and nothing for any other tree
abbrev pub gap : Tree → List ℕ
gap t = gap_in (out-Tree t)

abbrev pub first_gap : List Tree → List ℕ
first_gap [] = []
first_gap (t ∷ ts) = gap t

abbrev pub last_gap : List Tree → List ℕ
last_gap [] = []
last_gap (t ∷ []) = gap t
last_gap (t ∷ u ∷ ts) = last_gap (u ∷ ts)

-- the dots and nests that are first or last in a sequence
abbrev pub ends : List Tree → List ℕ
ends ts = first_gap ts ++ last_gap ts

abbrev pub statements_in : Tree-F Tree → List Tree
statements_in (Tree-F.Leaf t) = []
statements_in (Tree-F.Branch label.StmtList cs) = cs
statements_in (Tree-F.Branch l cs) = []

-- the statements of a list of statements
abbrev pub statements : Tree → List Tree
statements t = statements_in (out-Tree t)

-- each branch is a separate sequence
abbrev pub branch_ends : List Tree → List ℕ
branch_ends [] = []
branch_ends (t ∷ ts) = ends (statements t) ++ branch_ends ts

-- each body is a sequence of one statement; no other part of a head is dots or a nest
abbrev pub body_ends : List Tree → List ℕ
body_ends [] = []
body_ends (t ∷ ts) = gap t ++ body_ends ts

-- all but the first and the last
abbrev pub inner : List Tree → List Tree
inner ts = take (length ts - 2) (drop 1 ts)

abbrev pub head_ends : Bool → List Tree → List ℕ
head_ends b ts = if b then body_ends ts else []

-- the edges of the sequences that are parts of a branch; those of a block don't count
abbrev pub own_ends : Label → List Tree → List ℕ
own_ends label.PatOr ts = branch_ends ts
own_ends label.PatAnd ts = branch_ends ts
own_ends label.PatNest ts = ends (inner ts)
own_ends l ts = head_ends (is_head_label l) ts

-- a tree, and the dots and nests at edges in it
pub record Edged : Type 0 where
  pub tree : Tree
  pub found : List ℕ

abbrev pub edged_step : Tree-F Edged → Edged
edged_step (Tree-F.Leaf t) = record { tree = Leaf t; found = [] }
edged_step (Tree-F.Branch l es) =
    let ts = map (λ (e : Edged). e.tree) es in
    record { tree = Branch l ts; found = own_ends l ts ++ join (map (λ (e : Edged). e.found) es) }

abbrev pub edged : Tree → Edged
edged = fold-Tree Edged edged_step

-- the numbers of the dots and nests at edges of a tree, which is itself a sequence if it is a list of statements
abbrev pub edges : Tree → List ℕ
edges t = ends (statements t) ++ (edged t).found
