-- Under environments that give each variable the same value, the same forms fit and the same tokens are aligned.
use Rattle.std.proofs.Common.{◌≡◌, ℕ, suc, Bool, cond, ◌&&◌, not, refl, sym, ◌∙◌, List, [], ◌∷◌, ◌++◌, map, length, take, drop, Option, Some, None}
use Rattle.std.specs.Prelude.{slice_get, if◌then◌else◌}
use Rattle.std.specs.List.{list_all}
use Rattle.c_terms.specs.declared.token.Token.{Token}
use Rattle.c_terms.specs.declared.token.TokenKind.{TokenKind}
use Rattle.c_terms.specs.declared.token.TokenKind.TheVariants as kind
use Rattle.c_terms.specs.declared.token.MetaKind.{MetaKind}
use Rattle.c_terms.specs.declared.label.Label.{Label}
use Rattle.c_terms.specs.declared.list.Member.{Member}
use Rattle.c_terms.specs.declared.shape.Shape.{Shape}
use Rattle.c_terms.specs.declared.shape.Shape.TheVariants as shape
use Rattle.c_terms.specs.declared.tree.Tree.{Tree, out-Tree}
use Rattle.c_terms.specs.declared.tree.Tree.TheOpen.{Tree-F}
use Rattle.c_terms.specs.declared.tree.Tree.TheVariants.{Leaf, Branch}
use Rattle.c_terms.specs.Trees.{leaves}
use Rattle.c_terms.specs.Shapes.{shape_of}
use Rattle.c_terms.specs.Lists.{members, run}
use Rattle.c_terms.proofs.Induct.{Each, tree_induction}
use Rattle.c_types.specs.Tables.{ItemTypes}
use Rattle.cfg_build.specs.declared.cfg_graph.label.NodeKind.{NodeKind}
use Rattle.cfg_build.specs.declared.cfg_graph.label.NodeKind.TheVariants as node_kind
use Rattle.cfg_build.specs.CfgGraph.Own.{is_own}
use Rattle.smpl_terms.specs.declared.var.Var.{Var}
use Rattle.smpl_terms.specs.declared.value.Value.{Value}
use Rattle.smpl_terms.specs.declared.value.Value.TheVariants.{Term, Place}
use Rattle.smpl_terms.specs.Environments.{Environment}
use Rattle.smpl_terms.specs.Values.{same}
use Rattle.smpl_terms.proofs.ValueLaws.{same-along}
use Rattle.smpl_patch.specs.declared.pattern.VarDecl.{VarDecl}
use Rattle.smpl_patch.specs.declared.pattern.PatToken.{PatToken}
use Rattle.smpl_patch.specs.declared.pattern.Pattern.{Pattern}
use Rattle.smpl_patch.specs.declared.pattern.Spot.{Spot}
use Rattle.smpl_patch.specs.declared.pattern.Spot.TheVariants as spot
use Rattle.smpl_patch.specs.Patterns.{declared_as, is_statement_token}
use Rattle.pat_match.specs.Kinds.{is_of_kind, is_named}
use Rattle.pat_match.specs.Wants.{is_wanted}
use Rattle.pat_match.specs.Tokens.{is_place, not_places, stands_at, value_is, meta_fits, run_is, token_fits, stands, leaf_fits, first_id, id_of}
use Rattle.pat_match.specs.Runs.{Piece, Pair, comma_fits, comma_pairs, taken_pairs, run_fits, takes, runs_from, list_pairs}
use Rattle.pat_match.specs.Runs.{single_fits, is_wild, as_comma, some_below, least, fewest, leftmost, runs_pairs}
use Rattle.pat_match.specs.Fitting.{piece, fits_by, pairs_by, kids_pairs, kids_fit}
use Rattle.pat_match.specs.Spots.{own_fits, own_fit, own_pairs, token_whole, branch_whole, whole_at, fits_at, is_disjunction}
use Rattle.pat_match.specs.Spots.{option_fits, option_pairs, open_brace, close_brace, is_open_brace, is_close_brace}
use Rattle.pat_match.specs.Spots.{is_statement_node, is_simple_node, is_tail_node, own_alignment, token_alignment}
use Rattle.pat_match.specs.Spots.{branch_alignment, whole_alignment, alignment_at}
use Rattle.pat_match.specs.declared.role.NodeRole.{NodeRole}
use Rattle.pat_match.specs.Roles.{may_stand}
use Rattle.pat_match.specs.Matching.{fits_seat, is_live_in}
use Rattle.pat_match.proofs.Pieces.{piece-Leaf, piece-Branch}
use Rattle.pat_match.specs.PatPairs.Pairs.{numbers, first_aligned, aligned_tokens}
use Rattle.wit_forest.specs.WitTrees.Alike.{Alike}

module _ (decls : List VarDecl) (tokens : List PatToken) (types : ItemTypes) (d e : Environment) (a : Alike d e) where
  values : (v : Value) (x : Var) → same v (d x) ≡ same v (e x)
  values v x = same-along (d x) (e x) (a x) v

  -- ---- tokens

  place : (id : ℕ) (x : Var) → is_place decls d id x ≡ is_place decls e id x
  place id x = λ i. values (Place id) x i && list_all (λ y. not (values (Place id) y i)) (not_places decls x)

  at_token : (o : Option PatToken) (n : Option ℕ) → stands_at decls d o n ≡ stands_at decls e o n
  at_token None n = refl
  at_token (Some p) None = refl
  at_token (Some p) (Some id) = λ i. list_all (λ x. place id x i) p.positions

  value : (o : Option VarDecl) (t : Tree) → value_is decls d o t ≡ value_is decls e o t
  value None t = refl
  value (Some x) t = values (Term t) x.var

  meta : (k : MetaKind) (o : Option VarDecl) (t : Tree) → meta_fits decls d types k o t ≡ meta_fits decls e types k o t
  meta k None t = refl
  meta k (Some x) t = λ i. is_of_kind k (out-Tree t) && (not (is_named x.not_names (out-Tree t)) && (is_wanted types x.wanted t && values (Term t) x.var i))

  whole_run : (k : TokenKind) (b : Token) (t : Tree) → run_is decls d k b t ≡ run_is decls e k b t
  whole_run (kind.Meta k) b t = value (declared_as decls b.text) t
  whole_run _ b t = refl

  token : (k : TokenKind) (b : Token) (t : Tree) → token_fits decls d types k b t ≡ token_fits decls e types k b t
  token (kind.Meta k) b t = meta k (declared_as decls b.text) t
  token kind.Dots b t = refl
  token kind.Pat b t = refl
  token _ b t = refl

  stand : (b : Token) (n : Option ℕ) → stands decls tokens d b n ≡ stands decls tokens e b n
  stand b n = at_token (slice_get tokens b.id) n

  leaf : (b : Token) (t : Tree) → leaf_fits decls tokens d types b t ≡ leaf_fits decls tokens e types b t
  leaf b t = λ i. token b.kind b t i && stand b (first_id t) i

  -- ---- lists

  comma : (o : Option Token) (ms : List Member) → comma_fits decls tokens d o ms ≡ comma_fits decls tokens e o ms
  comma None ms = refl
  comma (Some b) [] = stand b None
  comma (Some b) (m ∷ ms) = stand b (id_of m.comma)

  run_of : (l : Label) (o : Option Token) (ms : List Member) → run_fits decls tokens d l o ms ≡ run_fits decls tokens e l o ms
  run_of l None ms = refl
  run_of l (Some b) ms = λ i. whole_run b.kind b (run l ms) i && stand b (first_id (run l ms)) i

  taken : (l : Label) (before : Option Token) (p : Piece) (ms : List Member) → takes decls tokens d l before p ms ≡ takes decls tokens e l before p ms
  taken l before p ms = λ i. comma before ms i && cond (is_wild l p.token) (run_of l p.token ms i) (single_fits p.fits ms)

  runs : (l : Label) (before : Option Token) (ps : List Piece) (ms : List Member)
      → runs_from decls tokens d l before ps ms ≡ runs_from decls tokens e l before ps ms
  runs l before [] [] = comma before []
  runs l before [] (m ∷ ms) = refl
  runs l before (p ∷ ps) ms = λ i. elim (as_comma p.token) as (λ o. Bool) [
    | None ↦ some_below (λ k. taken l before p (take k ms) i && runs l None ps (drop k ms) i) (suc (length ms))
    | Some c ↦ comma before [] i && runs l (Some c) ps ms i
  ]

  few : (l : Label) (before : Option Token) (p : Piece) (ps : List Piece) (ms : List Member)
      → fewest decls tokens d l before p ps ms ≡ fewest decls tokens e l before p ps ms
  few l before p ps ms = λ i. least (λ k. taken l before p (take k ms) i && runs l None ps (drop k ms) i) (suc (length ms))

  left : (l : Label) (before : Option Token) (ps : List Piece) (ms : List Member)
      → leftmost decls tokens d l before ps ms ≡ leftmost decls tokens e l before ps ms
  left l before [] ms = refl
  left l before (p ∷ ps) ms = λ i. elim (as_comma p.token) as (λ o. List ℕ) [
    | None ↦ few l before p ps ms i ∷ left l None ps (drop (few l before p ps ms i) ms) i
    | Some c ↦ left l (Some c) ps ms i
  ]

  pairs : (l : Label) (before : Option Token) (ps : List Piece) (ms : List Member) (ks : List ℕ)
      → runs_pairs decls tokens d l before ps ms ks ≡ runs_pairs decls tokens e l before ps ms ks
  pairs l before [] ms ks = refl
  pairs l before (p ∷ ps) ms ks = λ i. elim (as_comma p.token) as (λ o. List Pair) [
    | None ↦ elim ks as (λ ks. List Pair) [
      | [] ↦ []
      | k ∷ ks ↦ taken_pairs l before p (take k ms) ++ pairs l None ps (drop k ms) ks i
    ]
    | Some c ↦ comma_pairs before [] ++ pairs l (Some c) ps ms ks i
  ]

  list_of : (l : Label) (ps : List Piece) (us : List Tree) → list_pairs decls tokens d l ps us ≡ list_pairs decls tokens e l ps us
  list_of l ps us = λ i. pairs l None ps (members us) (left l None ps (members us) i) i

  -- ---- forms

  fits_shape : (s : Shape) (l : Label) (ps : List Piece) (t : Tree) → fits_by decls tokens types d s l ps t ≡ fits_by decls tokens types e s l ps t
  fits_shape shape.Or l ps t = refl
  fits_shape shape.And l ps t = refl
  fits_shape shape.List l ps t = λ i. kids_fit (λ qs us. runs l None qs (members us) i) l ps (out-Tree t)
  fits_shape shape.Plain l ps t = refl

  pairs_shape : (s : Shape) (l : Label) (ps : List Piece) (t : Tree) → pairs_by decls tokens types d s l ps t ≡ pairs_by decls tokens types e s l ps t
  pairs_shape shape.Or l ps t = refl
  pairs_shape shape.And l ps t = refl
  pairs_shape shape.List l ps t = λ i. kids_pairs (λ qs us. list_of l qs us i) ps (out-Tree t)
  pairs_shape shape.Plain l ps t = refl

  abbrev One : Tree → Type 0
  One form = piece decls tokens types d form ≡ piece decls tokens types e form

  all_of : (forms : List Tree) → Each One forms → map (piece decls tokens types d) forms ≡ map (piece decls tokens types e) forms
  all_of [] h = refl
  all_of (form ∷ forms) h = λ i. h.0 i ∷ all_of forms h.1 i

  branch : (l : Label) (cs : List Tree) → Each One cs → One (Branch l cs)
  branch l cs h =
      piece-Branch decls tokens types d l cs
      ∙ (λ i. let p : Piece = record {
        token = None;
        fits = λ t. fits_shape (shape_of l) l (all_of cs h i) t i;
        pairs = λ t. pairs_shape (shape_of l) l (all_of cs h i) t i;
      } in p)
      ∙ sym (piece-Branch decls tokens types e l cs)

  one_leaf : (b : Token) → One (Leaf b)
  one_leaf b =
      piece-Leaf decls tokens types d b
      ∙ (λ i. let p : Piece = record { token = Some b; fits = λ t. leaf b t i; pairs = λ t. (b, leaves t) ∷ [] } in p)
      ∙ sym (piece-Leaf decls tokens types e b)

  pieces : (form : Tree) → One form
  pieces = tree_induction One one_leaf branch

  -- ---- spots

  own : (k : NodeKind) (form : Tree-F Tree) (t : Tree) → own_fits decls tokens types d k form t ≡ own_fits decls tokens types e k form t
  own k (Tree-F.Leaf b) t = refl
  own k (Tree-F.Branch l fs) t = λ i. not (is_disjunction (shape_of l))
      && kids_fit (own_fit (is_own k l (length fs)) 0) l (map (λ f. pieces f i) fs) (out-Tree t)

  whole_token : (k : NodeKind) (b : Token) (form t : Tree) → token_whole decls tokens types d k b form t ≡ token_whole decls tokens types e k b form t
  whole_token k b form t = λ i.
      if is_open_brace b then option_fits (pieces form i).fits (open_brace k t)
      else if is_close_brace b then option_fits (pieces form i).fits (close_brace k t)
      else if is_statement_token b.kind then is_statement_node k && (pieces form i).fits t
      else is_simple_node k && (pieces form i).fits t

  whole_branch : (k : NodeKind) (form t : Tree) → branch_whole decls tokens types d k form t ≡ branch_whole decls tokens types e k form t
  whole_branch node_kind.Simple form t = λ i. (pieces form i).fits t
  whole_branch node_kind.Head form t = own node_kind.Head (out-Tree form) t
  whole_branch node_kind.FunHead form t = own node_kind.FunHead (out-Tree form) t
  whole_branch _ form t = refl

  whole : (k : NodeKind) (layer : Tree-F Tree) (form t : Tree) → whole_at decls tokens types d k layer form t ≡ whole_at decls tokens types e k layer form t
  whole k (Tree-F.Leaf b) form t = whole_token k b form t
  whole k (Tree-F.Branch l fs) form t = whole_branch k form t

  at_spot : (s : Spot) (k : NodeKind) (form t : Tree) → fits_at decls tokens types d s k form t ≡ fits_at decls tokens types e s k form t
  at_spot spot.Whole k form t = whole k (out-Tree form) form t
  at_spot spot.Tail k form t = λ i. is_tail_node k && own node_kind.DoTail (out-Tree form) t i
  at_spot spot.Inside k form t = λ i. (pieces form i).fits t

  seat : (p : Pattern) (r : NodeRole) (form t : Tree) → fits_seat decls tokens types d p r form t ≡ fits_seat decls tokens types e p r form t
  seat p r form t = λ i. (is_live_in decls tokens p form && may_stand r form) && at_spot p.spot r.kind form t i

  own_aligned : (k : NodeKind) (form : Tree-F Tree) (t : Tree) → own_alignment decls tokens types d k form t ≡ own_alignment decls tokens types e k form t
  own_aligned k (Tree-F.Leaf b) t = refl
  own_aligned k (Tree-F.Branch l fs) t = λ i. kids_pairs (own_pairs (is_own k l (length fs)) 0) (map (λ f. pieces f i) fs) (out-Tree t)

  token_aligned : (k : NodeKind) (b : Token) (form t : Tree) → token_alignment decls tokens types d k b form t ≡ token_alignment decls tokens types e k b form t
  token_aligned k b form t = λ i.
      if is_open_brace b then option_pairs (pieces form i).pairs (open_brace k t)
      else if is_close_brace b then option_pairs (pieces form i).pairs (close_brace k t)
      else (pieces form i).pairs t

  branch_aligned : (k : NodeKind) (form t : Tree) → branch_alignment decls tokens types d k form t ≡ branch_alignment decls tokens types e k form t
  branch_aligned node_kind.Simple form t = λ i. (pieces form i).pairs t
  branch_aligned k form t = own_aligned k (out-Tree form) t

  whole_aligned : (k : NodeKind) (layer : Tree-F Tree) (form t : Tree)
      → whole_alignment decls tokens types d k layer form t ≡ whole_alignment decls tokens types e k layer form t
  whole_aligned k (Tree-F.Leaf b) form t = token_aligned k b form t
  whole_aligned k (Tree-F.Branch l fs) form t = branch_aligned k form t

  spot_aligned : (s : Spot) (k : NodeKind) (form t : Tree) → alignment_at decls tokens types d s k form t ≡ alignment_at decls tokens types e s k form t
  spot_aligned spot.Whole k form t = whole_aligned k (out-Tree form) form t
  spot_aligned spot.Tail k form t = own_aligned node_kind.DoTail (out-Tree form) t
  spot_aligned spot.Inside k form t = λ i. (pieces form i).pairs t

  first : (p : Pattern) (k : NodeRole) (t : Tree) (forms : List Tree)
      → first_aligned decls tokens types d p k t forms ≡ first_aligned decls tokens types e p k t forms
  first p k t [] = refl
  first p k t (form ∷ forms) = λ i. cond (seat p k form t i) (Some (numbers (spot_aligned p.spot k.kind form t i))) (first p k t forms i)

  pub aligned_alike : (p : Pattern) (k : NodeRole) (t : Tree) → aligned_tokens decls tokens types d p k t ≡ aligned_tokens decls tokens types e p k t
  aligned_alike p k t = first p k t p.forms
