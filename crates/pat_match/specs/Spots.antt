-- Where a form is matched against a node: heads by their own tokens, braces, statement variables, expression parts.
use Rattle.std.specs.Prelude.{ℕ, suc, ◌-◌, Bool, true, false, ◌&&◌, ◌||◌, not, Option, Some, None, List, [], ◌∷◌, ◌++◌, map}
use Rattle.std.specs.Prelude.{length, slice_get, if◌then◌else◌, codes}
use Rattle.c_terms.specs.declared.token.Token.{Token}
use Rattle.c_terms.specs.declared.label.Label.{Label}
use Rattle.c_terms.specs.declared.tree.Tree.{Tree, out-Tree}
use Rattle.c_terms.specs.declared.tree.Tree.TheOpen.{Tree-F}
use Rattle.c_terms.specs.Same.{same_bytes}
use Rattle.c_terms.specs.declared.shape.Shape.{Shape}
use Rattle.c_terms.specs.declared.shape.Shape.TheVariants as shape
use Rattle.c_terms.specs.Shapes.{shape_of, is_expression_part}
use Rattle.c_terms.specs.Lists.{is_punct}
use Rattle.c_terms.specs.Places.{Place, below, child, part_at, parts}
use Rattle.cfg_build.specs.declared.cfg_graph.label.NodeKind.{NodeKind}
use Rattle.cfg_build.specs.declared.cfg_graph.label.NodeKind.TheVariants as kind
use Rattle.cfg_build.specs.CfgGraph.Own.{is_own}
use Rattle.c_types.specs.Tables.{ItemTypes}
use Rattle.smpl_patch.specs.declared.pattern.VarDecl.{VarDecl}
use Rattle.smpl_patch.specs.declared.pattern.PatToken.{PatToken}
use Rattle.smpl_patch.specs.declared.pattern.Spot.{Spot}
use Rattle.smpl_patch.specs.declared.pattern.Spot.TheVariants as spot
use Rattle.smpl_patch.specs.Patterns.{is_statement_token}
use Rattle.smpl_terms.specs.Environments.{Environment}
use Rattle.pat_match.specs.Runs.{Piece, Pair}
use Rattle.pat_match.specs.Fitting.{piece, fits_tree, alignment, kids_fit, kids_pairs}

abbrev pub is_open_brace : Token → Bool
is_open_brace a = is_punct a.kind && same_bytes a.text (codes "{")

abbrev pub is_close_brace : Token → Bool
is_close_brace a = is_punct a.kind && same_bytes a.text (codes "}")

abbrev pub last_at : Tree-F Tree → Option Tree
last_at (Tree-F.Leaf a) = None
last_at (Tree-F.Branch l cs) = slice_get cs (length cs - 1)

-- the brace of a node
abbrev pub open_brace : NodeKind → Tree → Option Tree
open_brace kind.OpenBrace t = child t 0
open_brace _ t = None

abbrev pub close_brace : NodeKind → Tree → Option Tree
close_brace kind.CloseBrace t = last_at (out-Tree t)
close_brace _ t = None

-- the nodes that begin a statement, all of which a statement variable takes
abbrev pub is_statement_node : NodeKind → Bool
is_statement_node kind.Simple = true
is_statement_node kind.Head = true
is_statement_node kind.OpenBrace = true
is_statement_node _ = false

abbrev pub is_simple_node : NodeKind → Bool
is_simple_node kind.Simple = true
is_simple_node _ = false

abbrev pub is_tail_node : NodeKind → Bool
is_tail_node kind.DoTail = true
is_tail_node _ = false

-- there are as many pieces as trees, and those whose indices pass fit
abbrev pub own_fit : (ℕ → Bool) → ℕ → List Piece → List Tree → Bool
own_fit test i [] [] = true
own_fit test i [] (t ∷ ts) = false
own_fit test i (p ∷ ps) [] = false
own_fit test i (p ∷ ps) (t ∷ ts) = (not (test i) || p.fits t) && own_fit test (suc i) ps ts

abbrev pub own_pairs : (ℕ → Bool) → ℕ → List Piece → List Tree → List Pair
own_pairs test i [] ts = []
own_pairs test i (p ∷ ps) [] = []
own_pairs test i (p ∷ ps) (t ∷ ts) = (if test i then p.pairs t else []) ++ own_pairs test (suc i) ps ts

abbrev pub is_disjunction : Shape → Bool
is_disjunction shape.Or = true
is_disjunction _ = false

abbrev pub option_fits : (Tree → Bool) → Option Tree → Bool
option_fits test None = false
option_fits test (Some t) = test t

abbrev pub option_pairs : (Tree → List Pair) → Option Tree → List Pair
option_pairs pairs None = []
option_pairs pairs (Some t) = pairs t

-- The subtrees against which a form of a spot is matched, by place.

-- a child, if it fills an expression part of its row, and then the parts inside it
abbrev pub parts_of_child : Label → ℕ → Tree → List Place
parts_of_child l i c = part_at is_expression_part l i c ++ map (below i) (parts is_expression_part c)

abbrev pub own_parts_from : (ℕ → Bool) → Label → ℕ → List Tree → List Place
own_parts_from test l i [] = []
own_parts_from test l i (c ∷ cs) = (if test i then parts_of_child l i c else []) ++ own_parts_from test l (suc i) cs

-- the expression parts among the node's own tokens
abbrev pub own_parts : NodeKind → Tree-F Tree → List Place
own_parts k (Tree-F.Leaf a) = []
own_parts k (Tree-F.Branch l cs) = own_parts_from (is_own k l (length cs)) l 0 cs

abbrev pub seats : Spot → NodeKind → Tree → List Place
seats spot.Inside k t = own_parts k (out-Tree t)
seats spot.Whole k t = record { path = []; tree = t } ∷ []
seats spot.Tail k t = record { path = []; tree = t } ∷ []

module _ (decls : List VarDecl) (tokens : List PatToken) (types : ItemTypes) (env : Environment) where
  -- only the own tokens of a head or tail are compared; a disjunction fits neither
  abbrev pub own_fits : NodeKind → Tree-F Tree → Tree → Bool
  own_fits k (Tree-F.Leaf a) t = false
  own_fits k (Tree-F.Branch l fs) t = not (is_disjunction (shape_of l))
      && kids_fit (own_fit (is_own k l (length fs)) 0) l (map (piece decls tokens types env) fs) (out-Tree t)

  -- `{` and `}` fit the braces of nodes, statement variables fit what begins a statement, other tokens what has no body
  abbrev pub token_whole : NodeKind → Token → Tree → Tree → Bool
  token_whole k a form t =
      if is_open_brace a then option_fits (fits_tree decls tokens types env form) (open_brace k t)
      else if is_close_brace a then option_fits (fits_tree decls tokens types env form) (close_brace k t)
      else if is_statement_token a.kind then is_statement_node k && fits_tree decls tokens types env form t
      else is_simple_node k && fits_tree decls tokens types env form t

  abbrev pub branch_whole : NodeKind → Tree → Tree → Bool
  branch_whole kind.Simple form t = fits_tree decls tokens types env form t
  branch_whole kind.Head form t = own_fits kind.Head (out-Tree form) t
  branch_whole kind.FunHead form t = own_fits kind.FunHead (out-Tree form) t
  branch_whole _ form t = false

  abbrev pub whole_at : NodeKind → Tree-F Tree → Tree → Tree → Bool
  whole_at k (Tree-F.Leaf a) form t = token_whole k a form t
  whole_at k (Tree-F.Branch l fs) form t = branch_whole k form t

  -- the form fits the subtree at a node of this kind
  abbrev pub fits_at : Spot → NodeKind → Tree → Tree → Bool
  fits_at spot.Whole k form t = whole_at k (out-Tree form) form t
  fits_at spot.Tail k form t = is_tail_node k && own_fits kind.DoTail (out-Tree form) t
  fits_at spot.Inside k form t = fits_tree decls tokens types env form t

  -- the same for what is aligned, if the form fits

  abbrev pub own_alignment : NodeKind → Tree-F Tree → Tree → List Pair
  own_alignment k (Tree-F.Leaf a) t = []
  own_alignment k (Tree-F.Branch l fs) t =
      kids_pairs (own_pairs (is_own k l (length fs)) 0) (map (piece decls tokens types env) fs) (out-Tree t)

  abbrev pub token_alignment : NodeKind → Token → Tree → Tree → List Pair
  token_alignment k a form t =
      if is_open_brace a then option_pairs (alignment decls tokens types env form) (open_brace k t)
      else if is_close_brace a then option_pairs (alignment decls tokens types env form) (close_brace k t)
      else alignment decls tokens types env form t

  abbrev pub branch_alignment : NodeKind → Tree → Tree → List Pair
  branch_alignment kind.Simple form t = alignment decls tokens types env form t
  branch_alignment k form t = own_alignment k (out-Tree form) t

  abbrev pub whole_alignment : NodeKind → Tree-F Tree → Tree → Tree → List Pair
  whole_alignment k (Tree-F.Leaf a) form t = token_alignment k a form t
  whole_alignment k (Tree-F.Branch l fs) form t = branch_alignment k form t

  -- what is aligned if the form fits the subtree at a node of this kind
  abbrev pub alignment_at : Spot → NodeKind → Tree → Tree → List Pair
  alignment_at spot.Whole k form t = whole_alignment k (out-Tree form) form t
  alignment_at spot.Tail k form t = own_alignment kind.DoTail (out-Tree form) t
  alignment_at spot.Inside k form t = alignment decls tokens types env form t
