-- Where patterns match and are aligned: the same with any types, if none of the variables asks for types.
-- Proof: what a form fits is a fold over the form, in which the types are looked at only at leaves.
use Rattle.std.proofs.Common.{◌≡◌, ℕ, Bool, false, not, ◌&&◌, refl, List, [], ◌∷◌, ◌++◌, map, length, None, Some, if◌then◌else◌}
use Rattle.std.specs.List.{list_any}
use Rattle.c_terms.specs.declared.token.Token.{Token}
use Rattle.c_terms.specs.declared.label.Label.{Label}
use Rattle.c_terms.specs.declared.shape.Shape.{Shape}
use Rattle.c_terms.specs.declared.shape.Shape.TheVariants as shape
use Rattle.c_terms.specs.declared.tree.Tree.{Tree, out-Tree}
use Rattle.c_terms.specs.declared.tree.Tree.TheOpen.{Tree-F}
use Rattle.c_terms.specs.declared.tree.Tree.TheFolds.{fold-Tree}
use Rattle.c_terms.specs.Trees.{leaves}
use Rattle.c_terms.specs.Shapes.{shape_of}
use Rattle.c_terms.specs.Places.{Place}
use Rattle.cfg_build.specs.declared.cfg_graph.label.NodeKind.{NodeKind}
use Rattle.cfg_build.specs.declared.cfg_graph.label.NodeKind.TheVariants as kind
use Rattle.cfg_build.specs.declared.cfg_graph.label.NodeLabel.{NodeLabel}
use Rattle.cfg_build.specs.CfgGraph.Own.{is_own}
use Rattle.c_types.specs.Tables.{ItemTypes}
use Rattle.smpl_terms.specs.Environments.{Environment}
use Rattle.smpl_patch.specs.declared.pattern.VarDecl.{VarDecl}
use Rattle.smpl_patch.specs.declared.pattern.PatToken.{PatToken}
use Rattle.smpl_patch.specs.declared.pattern.Pattern.{Pattern}
use Rattle.smpl_patch.specs.declared.pattern.Spot.{Spot}
use Rattle.smpl_patch.specs.declared.pattern.Spot.TheVariants as spot
use Rattle.smpl_patch.specs.Patterns.{is_statement_token}
use Rattle.smpl_patch.specs.Wants.{ask_types}
use Rattle.pat_match.specs.declared.role.NodeRole.{NodeRole}
use Rattle.pat_match.specs.Runs.{Pair, Piece}
use Rattle.pat_match.specs.Fitting.{kids_fit, fits_by, pairs_by, piece_step, piece}
use Rattle.pat_match.specs.Spots.{is_open_brace, is_close_brace, open_brace, close_brace, is_statement_node, is_simple_node, is_tail_node, own_fit}
use Rattle.pat_match.specs.Spots.{is_disjunction, option_fits, seats, own_fits, token_whole, branch_whole, whole_at, fits_at}
use Rattle.pat_match.specs.Roles.{role_of, may_stand}
use Rattle.pat_match.specs.Matching.{first_from, put_form, is_live_in, fits_seat, matches, form_at, aligned_at, aligns}
use Rattle.seen_laws.proofs.WantLemmas.{leaf_same}

abbrev leaf_piece : Token → (Tree → Bool) → Piece
leaf_piece a fits = record { token = Some a; fits = fits; pairs = λ t. (a, leaves t) ∷ [] }

abbrev branch_piece : (Tree → Bool) → (Tree → List Pair) → Piece
branch_piece fits pairs = record { token = None; fits = fits; pairs = pairs }

module _ (known also : ItemTypes) (decls : List VarDecl) (none : ask_types decls ≡ false) (tokens : List PatToken) (env : Environment) where
  by_same : (s : Shape) (l : Label) (ps : List Piece) (t : Tree) → fits_by decls tokens known env s l ps t ≡ fits_by decls tokens also env s l ps t
  by_same shape.Or l ps t = refl
  by_same shape.And l ps t = refl
  by_same shape.List l ps t = refl
  by_same shape.Plain l ps t = refl

  pairs_same : (s : Shape) (l : Label) (ps : List Piece) (t : Tree) → pairs_by decls tokens known env s l ps t ≡ pairs_by decls tokens also env s l ps t
  pairs_same shape.Or l ps t = refl
  pairs_same shape.And l ps t = refl
  pairs_same shape.List l ps t = refl
  pairs_same shape.Plain l ps t = refl

  step_same : (x : Tree-F Piece) → piece_step decls tokens known env x ≡ piece_step decls tokens also env x
  step_same (Tree-F.Leaf a) = λ i. leaf_piece a (λ t. leaf_same known also decls none tokens env a t i)
  step_same (Tree-F.Branch l ps) = λ i. branch_piece (λ t. by_same (shape_of l) l ps t i) (λ t. pairs_same (shape_of l) l ps t i)

  piece_same : (form : Tree) → piece decls tokens known env form ≡ piece decls tokens also env form
  piece_same form = λ i. fold-Tree Piece (λ x. step_same x i) form

  own_same : (k : NodeKind) (form : Tree-F Tree) (t : Tree) → own_fits decls tokens known env k form t ≡ own_fits decls tokens also env k form t
  own_same k (Tree-F.Leaf a) t = refl
  own_same k (Tree-F.Branch l fs) t =
      λ i. not (is_disjunction (shape_of l))
      && kids_fit (own_fit (is_own k l (length fs)) 0) l (map (λ f. piece_same f i) fs) (out-Tree t)

  token_same : (k : NodeKind) (a : Token) (form t : Tree) → token_whole decls tokens known env k a form t ≡ token_whole decls tokens also env k a form t
  token_same k a form t =
      λ i. if is_open_brace a then option_fits (λ u. (piece_same form i).fits u) (open_brace k t)
      else if is_close_brace a then option_fits (λ u. (piece_same form i).fits u) (close_brace k t)
      else if is_statement_token a.kind then is_statement_node k && (piece_same form i).fits t
      else is_simple_node k && (piece_same form i).fits t

  branch_same : (k : NodeKind) (form t : Tree) → branch_whole decls tokens known env k form t ≡ branch_whole decls tokens also env k form t
  branch_same kind.Simple form t = λ i. (piece_same form i).fits t
  branch_same kind.Head form t = own_same kind.Head (out-Tree form) t
  branch_same kind.FunHead form t = own_same kind.FunHead (out-Tree form) t
  branch_same _ form t = refl

  whole_same : (k : NodeKind) (top : Tree-F Tree) (form t : Tree) → whole_at decls tokens known env k top form t ≡ whole_at decls tokens also env k top form t
  whole_same k (Tree-F.Leaf a) form t = token_same k a form t
  whole_same k (Tree-F.Branch l fs) form t = branch_same k form t

  spot_same : (s : Spot) (k : NodeKind) (form t : Tree) → fits_at decls tokens known env s k form t ≡ fits_at decls tokens also env s k form t
  spot_same spot.Whole k form t = whole_same k (out-Tree form) form t
  spot_same spot.Tail k form t = λ i. is_tail_node k && own_same kind.DoTail (out-Tree form) t i
  spot_same spot.Inside k form t = λ i. (piece_same form i).fits t

  seat_same : (p : Pattern) (r : NodeRole) (form t : Tree) → fits_seat decls tokens known env p r form t ≡ fits_seat decls tokens also env p r form t
  seat_same p r form t = λ i. (is_live_in decls tokens p form && may_stand r form) && spot_same p.spot r.kind form t i

  pub matches_same : (p : Pattern) (n : NodeLabel) → matches decls tokens known env p n ≡ matches decls tokens also env p n
  matches_same p n = λ i. list_any (λ f. list_any (λ (s : Place). seat_same p (role_of n) f s.tree i) (seats p.spot n.kind n.tree)) p.forms

  form_same : (p : Pattern) (r : NodeRole) (t : Tree) → form_at decls tokens known env p r t ≡ form_at decls tokens also env p r t
  form_same p r t = λ i. first_from 0 (λ f. seat_same p r f t i) p.forms

  aligned_same : (p : Pattern) (r : NodeRole) (above : List ℕ) (ss : List Place)
      → aligned_at decls tokens known env p r above ss ≡ aligned_at decls tokens also env p r above ss
  aligned_same p r above [] = refl
  aligned_same p r above (s ∷ ss) = λ i. put_form (above ++ s.path) (form_same p r s.tree i) ++ aligned_same p r above ss i

  pub aligns_same : (p : Pattern) (n : NodeLabel) → aligns decls tokens known env p n ≡ aligns decls tokens also env p n
  aligns_same p n = aligned_same p (role_of n) n.path (seats p.spot n.kind n.tree)
