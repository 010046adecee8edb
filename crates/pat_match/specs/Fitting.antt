-- When a form fits a subtree under an environment, and what is aligned then.
use Rattle.std.specs.Prelude.{Bool, true, false, cond, ◌&&◌, ◌||◌, not, Option, Some, None, List, [], ◌∷◌, ◌++◌, slice_get}
use Rattle.std.specs.List.{list_any, list_all}
use Rattle.c_terms.specs.declared.token.Token.{Token}
use Rattle.c_terms.specs.declared.label.Label.{Label}
use Rattle.c_terms.specs.declared.shape.Shape.{Shape}
use Rattle.c_terms.specs.declared.shape.Shape.TheVariants as shape
use Rattle.c_terms.specs.declared.tree.Tree.{Tree, out-Tree}
use Rattle.c_terms.specs.declared.tree.Tree.TheOpen.{Tree-F}
use Rattle.c_terms.specs.declared.tree.Tree.TheFolds.{fold-Tree}
use Rattle.c_terms.specs.Trees.{leaves}
use Rattle.c_terms.specs.Same.{same_label}
use Rattle.c_terms.specs.Shapes.{shape_of}
use Rattle.c_types.specs.Tables.{ItemTypes}
use Rattle.smpl_patch.specs.declared.pattern.VarDecl.{VarDecl}
use Rattle.smpl_patch.specs.declared.pattern.PatToken.{PatToken}
use Rattle.smpl_patch.specs.Patterns.{is_sign}
use Rattle.smpl_terms.specs.Environments.{Environment}
use Rattle.pat_match.specs.Tokens.{is_bare, leaf_fits}
use Rattle.pat_match.specs.Runs.{Pair, Piece, list_fits, list_pairs}

-- the token of a leaf
abbrev pub leaf_of : {X : Type 0} → Tree-F X → Option Token
leaf_of (Tree-F.Leaf a) = Some a
leaf_of (Tree-F.Branch l cs) = None

abbrev pub is_sign_token : Option Token → Bool
is_sign_token None = false
is_sign_token (Some t) = is_sign t.kind

-- a sign between the branches of a PatOr or PatAnd is aligned with nothing
abbrev pub is_bare_sign : List PatToken → Option Token → Bool
is_bare_sign tokens None = true
is_bare_sign tokens (Some a) = not (is_sign a.kind) || is_bare (slice_get tokens a.id)

-- the first of the pieces fits the first of the trees, and so on, and none is left
abbrev pub all_fit : List Piece → List Tree → Bool
all_fit [] [] = true
all_fit [] (t ∷ ts) = false
all_fit (p ∷ ps) [] = false
all_fit (p ∷ ps) (t ∷ ts) = p.fits t && all_fit ps ts

-- a branch fits a branch with the same label whose children pass a test
abbrev pub kids_fit : (List Piece → List Tree → Bool) → Label → List Piece → Tree-F Tree → Bool
kids_fit test l ps (Tree-F.Leaf b) = false
kids_fit test l ps (Tree-F.Branch k us) = same_label l k && test ps us

abbrev pub first_pairs : List Piece → Tree → List Pair
first_pairs [] t = []
first_pairs (p ∷ ps) t = cond (p.fits t) (p.pairs t) (first_pairs ps t)

abbrev pub every_pairs : List Piece → Tree → List Pair
every_pairs [] t = []
every_pairs (p ∷ ps) t = cond (p.fits t) (p.pairs t) [] ++ every_pairs ps t

abbrev pub zip_pairs : List Piece → List Tree → List Pair
zip_pairs [] ts = []
zip_pairs (p ∷ ps) [] = []
zip_pairs (p ∷ ps) (t ∷ ts) = p.pairs t ++ zip_pairs ps ts

abbrev pub kids_pairs : (List Piece → List Tree → List Pair) → List Piece → Tree-F Tree → List Pair
kids_pairs pairs ps (Tree-F.Leaf b) = []
kids_pairs pairs ps (Tree-F.Branch k us) = pairs ps us

module _ (decls : List VarDecl) (tokens : List PatToken) (types : ItemTypes) (env : Environment) where
  abbrev pub fits_by : Shape → Label → List Piece → Tree → Bool
  fits_by shape.Or l ps t = list_all (λ p. is_bare_sign tokens p.token) ps && list_any (λ p. p.fits t) ps
  fits_by shape.And l ps t =
      list_all (λ p. is_bare_sign tokens p.token) ps && list_all (λ p. is_sign_token p.token || p.fits t) ps
  fits_by shape.List l ps t = kids_fit (list_fits decls tokens env l) l ps (out-Tree t)
  fits_by shape.Plain l ps t = kids_fit all_fit l ps (out-Tree t)

  -- a disjunction uses its first branch that fits, a conjunction all branches
  abbrev pub pairs_by : Shape → Label → List Piece → Tree → List Pair
  pairs_by shape.Or l ps t = first_pairs ps t
  pairs_by shape.And l ps t = every_pairs ps t
  pairs_by shape.List l ps t = kids_pairs (list_pairs decls tokens env l) ps (out-Tree t)
  pairs_by shape.Plain l ps t = kids_pairs zip_pairs ps (out-Tree t)

  abbrev pub piece_step : Tree-F Piece → Piece
  piece_step (Tree-F.Leaf a) = record {
    token = Some a;
    fits = leaf_fits decls tokens env types a;
    pairs = λ t. (a, leaves t) ∷ [];
  }
  piece_step (Tree-F.Branch l ps) = record {
    token = None;
    fits = fits_by (shape_of l) l ps;
    pairs = pairs_by (shape_of l) l ps;
  }

  abbrev pub piece : Tree → Piece
  piece = fold-Tree Piece piece_step

  -- the form fits the subtree
  abbrev pub fits_tree : Tree → Tree → Bool
  fits_tree form t = (piece form).fits t

  -- the alignment under which the form fits the subtree
  abbrev pub alignment : Tree → Tree → List Pair
  alignment form t = (piece form).pairs t
