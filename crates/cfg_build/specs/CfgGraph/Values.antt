-- The values of a graph: the terms and places to which a variable can be bound in it.
use Rattle.std.specs.Prelude.{ℕ, List, [], ◌∷◌, ◌++◌, map}
use Rattle.c_terms.specs.declared.label.Label.{Label}
use Rattle.c_terms.specs.declared.shape.Shape.{Shape}
use Rattle.c_terms.specs.declared.shape.Shape.TheVariants as shape
use Rattle.c_terms.specs.declared.tree.Tree.{Tree, out-Tree}
use Rattle.c_terms.specs.declared.tree.Tree.TheOpen.{Tree-F}
use Rattle.c_terms.specs.declared.list.Member.{Member}
use Rattle.c_terms.specs.Trees.{join, leaves}
use Rattle.c_terms.specs.Shapes.{shape_of}
use Rattle.c_terms.specs.Lists.{members, run}
use Rattle.c_terms.specs.Places.{places}
use Rattle.cfg_build.specs.declared.cfg_graph.label.NodeLabel.{NodeLabel}
use Rattle.cfg_build.specs.CfgGraph.Flow.{Flow}

-- the runs that begin with the members `before` and continue with at least one more
abbrev pub runs_after : Label → List Member → List Member → List Tree
runs_after l before [] = []
runs_after l before (m ∷ ms) = run l (before ++ m ∷ []) ∷ runs_after l (before ++ m ∷ []) ms

-- the runs of at least one member, by their first member
abbrev pub runs_from : Label → List Member → List Tree
runs_from l [] = []
runs_from l (m ∷ ms) = runs_after l [] (m ∷ ms) ++ runs_from l ms

-- the runs of members of a list, the empty one first
abbrev pub runs : Label → List Member → List Tree
runs l ms = run l [] ∷ runs_from l ms

abbrev pub runs_of_shape : Shape → Label → List Tree → List Tree
runs_of_shape shape.List l cs = runs l (members cs)
runs_of_shape _ l cs = []

abbrev pub runs_at : Tree-F Tree → List Tree
runs_at (Tree-F.Leaf token) = []
runs_at (Tree-F.Branch l cs) = runs_of_shape (shape_of l) l cs

-- a tree, and its runs if it is a list of arguments or parameters
abbrev pub terms_at : Tree → List Tree
terms_at t = t ∷ runs_at (out-Tree t)

-- the subtrees, and the runs of the lists among them
abbrev pub terms_in : Tree → List Tree
terms_in t = join (map (λ p. terms_at p.tree) (places t))

abbrev pub terms_of : Flow → List Tree
terms_of g = join (map (λ l. terms_in l.tree) g.labels)

-- the ids of a label's tokens, and the id of its brace
abbrev pub places_in : NodeLabel → List ℕ
places_in l = l.brace ∷ map (λ token. token.id) (leaves l.tree)

abbrev pub places_of : Flow → List ℕ
places_of g = join (map places_in g.labels)
