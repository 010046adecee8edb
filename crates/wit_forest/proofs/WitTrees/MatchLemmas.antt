-- Under environments that give each variable the same value, the same subtrees match, and patterns are aligned alike.
use Rattle.std.proofs.Common.{◌≡◌, ℕ, suc, Bool, cond, ◌&&◌, ◌||◌, not, refl, sym, ap, ◌∙◌, List, [], ◌∷◌, ◌++◌, map, length, take, drop, Option, Some, None}
use Rattle.std.specs.Prelude.{slice_get, if◌then◌else◌}
use Rattle.std.specs.List.{list_any, list_all}
use Rattle.c_terms.specs.declared.token.Token.{Token}
use Rattle.c_terms.specs.declared.token.TokenKind.{TokenKind}
use Rattle.c_terms.specs.declared.token.TokenKind.TheVariants as kind
use Rattle.c_terms.specs.declared.token.MetaKind.{MetaKind}
use Rattle.c_terms.specs.declared.label.Label.{Label}
use Rattle.c_terms.specs.declared.list.Member.{Member}
use Rattle.c_terms.specs.declared.shape.Shape.{Shape}
use Rattle.c_terms.specs.declared.shape.Shape.TheVariants as shape
use Rattle.c_terms.specs.declared.tree.Tree.{Tree, out-Tree}
use Rattle.c_terms.specs.declared.tree.Tree.TheOpen.{Tree-F}
use Rattle.c_terms.specs.Same.{same_label}
use Rattle.c_terms.specs.Shapes.{shape_of}
use Rattle.c_terms.specs.Lists.{members, run}
use Rattle.c_terms.specs.Places.{Place as Seat}
use Rattle.c_terms.proofs.Induct.{Each, tree_induction}
use Rattle.c_types.specs.Tables.{ItemTypes}
use Rattle.cfg_build.specs.declared.cfg_graph.label.NodeKind.{NodeKind}
use Rattle.cfg_build.specs.declared.cfg_graph.label.NodeKind.TheVariants as node_kind
use Rattle.cfg_build.specs.declared.cfg_graph.label.NodeLabel.{NodeLabel}
use Rattle.cfg_build.specs.CfgGraph.Own.{is_own}
use Rattle.smpl_terms.specs.declared.var.Var.{Var}
use Rattle.smpl_terms.specs.declared.value.Value.{Value}
use Rattle.smpl_terms.specs.declared.value.Value.TheVariants.{Term, Place}
use Rattle.smpl_terms.specs.Environments.{Environment}
use Rattle.smpl_terms.specs.Values.{same}
use Rattle.smpl_terms.proofs.ValueLaws.{same-along}
use Rattle.smpl_patch.specs.declared.pattern.VarDecl.{VarDecl}
use Rattle.smpl_patch.specs.declared.pattern.PatToken.{PatToken}
use Rattle.smpl_patch.specs.declared.pattern.Pattern.{Pattern}
use Rattle.smpl_patch.specs.declared.pattern.Spot.{Spot}
use Rattle.smpl_patch.specs.declared.pattern.Spot.TheVariants as spot
use Rattle.smpl_patch.specs.Patterns.{declared_as, is_statement_token}
use Rattle.pat_match.specs.Kinds.{is_of_kind, is_named}
use Rattle.pat_match.specs.Wants.{is_wanted}
use Rattle.pat_match.specs.Tokens.{is_place, not_places, stands_at, value_is, meta_fits, run_is, token_fits, leaf_fits, first_id, id_of}
use Rattle.pat_match.specs.Runs.{Piece, comma_fits, run_fits, takes, runs_from, list_fits, single_fits, is_wild, as_comma, some_below}
use Rattle.pat_match.specs.Fitting.{piece, fits_tree, fits_by, all_fit, kids_fit, is_sign_token, leaf_of}
use Rattle.pat_match.specs.Spots.{own_fits, own_fit, token_whole, branch_whole, whole_at, fits_at, is_disjunction, option_fits}
use Rattle.pat_match.specs.Spots.{open_brace, close_brace, is_open_brace, is_close_brace, is_statement_node, is_simple_node}
use Rattle.pat_match.specs.Spots.{is_tail_node, seats}
use Rattle.pat_match.specs.declared.role.NodeRole.{NodeRole}
use Rattle.pat_match.specs.Roles.{role_of, may_stand}
use Rattle.pat_match.specs.Matching.{fits_seat, matches, aligned_at, aligns, is_live_in, put_form, first_from}
use Rattle.pat_match.proofs.Pieces.{fits-Leaf, fits-Branch, piece-token, bare-pieces, some-pieces, every-pieces}
use Rattle.wit_forest.specs.WitTrees.Alike.{Alike}

module _ (decls : List VarDecl) (tokens : List PatToken) (types : ItemTypes) (d e : Environment) (a : Alike d e) where
  values : (v : Value) (x : Var) → same v (d x) ≡ same v (e x)
  values v x = same-along (d x) (e x) (a x) v

  -- ---- tokens

  place : (id : ℕ) (x : Var) → is_place decls d id x ≡ is_place decls e id x
  place id x = λ i. values (Place id) x i && list_all (λ y. not (values (Place id) y i)) (not_places decls x)

  at_token : (o : Option PatToken) (n : Option ℕ) → stands_at decls d o n ≡ stands_at decls e o n
  at_token None n = refl
  at_token (Some p) None = refl
  at_token (Some p) (Some id) = λ i. list_all (λ x. place id x i) p.positions

  value : (o : Option VarDecl) (t : Tree) → value_is decls d o t ≡ value_is decls e o t
  value None t = refl
  value (Some x) t = values (Term t) x.var

  meta : (k : MetaKind) (o : Option VarDecl) (t : Tree) → meta_fits decls d types k o t ≡ meta_fits decls e types k o t
  meta k None t = refl
  meta k (Some x) t = λ i. is_of_kind k (out-Tree t) && (not (is_named x.not_names (out-Tree t))
      && (is_wanted types x.wanted t && values (Term t) x.var i))

  whole_run : (k : TokenKind) (b : Token) (t : Tree) → run_is decls d k b t ≡ run_is decls e k b t
  whole_run (kind.Meta k) b t = value (declared_as decls b.text) t
  whole_run _ b t = refl

  token : (k : TokenKind) (b : Token) (t : Tree) → token_fits decls d types k b t ≡ token_fits decls e types k b t
  token (kind.Meta k) b t = meta k (declared_as decls b.text) t
  token kind.Dots b t = refl
  token kind.Pat b t = refl
  token _ b t = refl

  leaf : (b : Token) (t : Tree) → leaf_fits decls tokens d types b t ≡ leaf_fits decls tokens e types b t
  leaf b t = λ i. token b.kind b t i && at_token (slice_get tokens b.id) (first_id t) i

  -- ---- lists

  comma : (o : Option Token) (ms : List Member) → comma_fits decls tokens d o ms ≡ comma_fits decls tokens e o ms
  comma None ms = refl
  comma (Some b) [] = at_token (slice_get tokens b.id) None
  comma (Some b) (m ∷ ms) = at_token (slice_get tokens b.id) (id_of m.comma)

  run_of : (l : Label) (o : Option Token) (ms : List Member) → run_fits decls tokens d l o ms ≡ run_fits decls tokens e l o ms
  run_of l None ms = refl
  run_of l (Some b) ms = λ i. whole_run b.kind b (run l ms) i && at_token (slice_get tokens b.id) (first_id (run l ms)) i

  abbrev One : Tree → Type 0
  One form = (t : Tree) → fits_tree decls tokens types d form t ≡ fits_tree decls tokens types e form t

  own_token : (form : Tree) → (piece decls tokens types d form).token ≡ (piece decls tokens types e form).token
  own_token form = piece-token decls tokens types d form ∙ sym (piece-token decls tokens types e form)

  taken : (l : Label) (before : Option Token) (form : Tree) → One form → (ms : List Member)
      → takes decls tokens d l before (piece decls tokens types d form) ms ≡ takes decls tokens e l before (piece decls tokens types e form) ms
  taken l before form h ms =
      let wild = run_of l (piece decls tokens types d form).token ms ∙ ap (λ o. run_fits decls tokens e l o ms) (own_token form) in
      λ i. comma before ms i && cond (is_wild l (own_token form i)) (wild i) (single_fits (λ t. h t i) ms)

  runs : (l : Label) (before : Option Token) (forms : List Tree) → Each One forms → (ms : List Member)
      → runs_from decls tokens d l before (map (piece decls tokens types d) forms) ms ≡ runs_from decls tokens e l before
      (map (piece decls tokens types e) forms) ms
  runs l before [] h [] = comma before []
  runs l before [] h (m ∷ ms) = refl
  runs l before (form ∷ forms) h ms = λ i. elim (as_comma (own_token form i)) as (λ o. Bool) [
    | None ↦ some_below (λ k. taken l before form h.0 (take k ms) i && runs l None forms h.1 (drop k ms) i) (suc (length ms))
    | Some c ↦ comma before [] i && runs l (Some c) forms h.1 ms i
  ]

  -- ---- forms

  all_of : (forms : List Tree) → Each One forms → (us : List Tree)
      → all_fit (map (piece decls tokens types d) forms) us ≡ all_fit (map (piece decls tokens types e) forms) us
  all_of [] h [] = refl
  all_of [] h (u ∷ us) = refl
  all_of (form ∷ forms) h [] = refl
  all_of (form ∷ forms) h (u ∷ us) = λ i. h.0 u i && all_of forms h.1 us i

  own_of : (test : ℕ → Bool) (n : ℕ) (forms : List Tree) → Each One forms → (us : List Tree)
      → own_fit test n (map (piece decls tokens types d) forms) us ≡ own_fit test n (map (piece decls tokens types e) forms) us
  own_of test n [] h [] = refl
  own_of test n [] h (u ∷ us) = refl
  own_of test n (form ∷ forms) h [] = refl
  own_of test n (form ∷ forms) h (u ∷ us) = λ i. (not (test n) || h.0 u i) && own_of test (suc n) forms h.1 us i

  some_of : (forms : List Tree) → Each One forms → (t : Tree)
      → list_any (λ f. fits_tree decls tokens types d f t) forms ≡ list_any (λ f. fits_tree decls tokens types e f t) forms
  some_of [] h t = refl
  some_of (form ∷ forms) h t = λ i. h.0 t i || some_of forms h.1 t i

  every_of : (forms : List Tree) → Each One forms → (t : Tree)
      → list_all (λ f. is_sign_token (leaf_of (out-Tree f)) || fits_tree decls tokens types d f t) forms
      ≡ list_all (λ f. is_sign_token (leaf_of (out-Tree f)) || fits_tree decls tokens types e f t) forms
  every_of [] h t = refl
  every_of (form ∷ forms) h t = λ i. (is_sign_token (leaf_of (out-Tree form)) || h.0 t i) && every_of forms h.1 t i

  kids : (p q : List Piece → List Tree → Bool) (l : Label) (ps qs : List Piece) → ((us : List Tree) → p ps us ≡ q qs us)
      → (t : Tree-F Tree) → kids_fit p l ps t ≡ kids_fit q l qs t
  kids p q l ps qs h (Tree-F.Leaf b) = refl
  kids p q l ps qs h (Tree-F.Branch k us) = λ i. same_label l k && h us i

  by_shape : (s : Shape) (l : Label) (forms : List Tree) → Each One forms → (t : Tree)
      → fits_by decls tokens types d s l (map (piece decls tokens types d) forms) t ≡ fits_by decls tokens types e s l
      (map (piece decls tokens types e) forms) t
  by_shape shape.Or l forms h t =
      let bare = bare-pieces decls tokens types d forms ∙ sym (bare-pieces decls tokens types e forms) in
      let some = some-pieces decls tokens types d forms t ∙ some_of forms h t ∙ sym (some-pieces decls tokens types e forms t) in
      λ i. bare i && some i
  by_shape shape.And l forms h t =
      let bare = bare-pieces decls tokens types d forms ∙ sym (bare-pieces decls tokens types e forms) in
      let every = every-pieces decls tokens types d forms t ∙ every_of forms h t ∙ sym (every-pieces decls tokens types e forms t) in
      λ i. bare i && every i
  by_shape shape.List l forms h t =
      kids (list_fits decls tokens d l) (list_fits decls tokens e l) l (map (piece decls tokens types d) forms)
      (map (piece decls tokens types e) forms) (λ us. runs l None forms h (members us)) (out-Tree t)
  by_shape shape.Plain l forms h t =
      kids all_fit all_fit l (map (piece decls tokens types d) forms) (map (piece decls tokens types e) forms) (all_of forms h) (out-Tree t)

  pub fits_alike : (form : Tree) → One form
  fits_alike = tree_induction One
      (λ b t. fits-Leaf decls tokens types d b t ∙ leaf b t ∙ sym (fits-Leaf decls tokens types e b t))
      (λ l cs h t. fits-Branch decls tokens types d l cs t ∙ by_shape (shape_of l) l cs h t ∙ sym (fits-Branch decls tokens types e l cs t))

  -- ---- spots

  each : (forms : List Tree) → Each One forms
  each [] = tt
  each (form ∷ forms) = (fits_alike form, each forms)

  own : (k : NodeKind) (form : Tree-F Tree) (t : Tree) → own_fits decls tokens types d k form t ≡ own_fits decls tokens types e k form t
  own k (Tree-F.Leaf b) t = refl
  own k (Tree-F.Branch l fs) t =
      let inner = kids (own_fit (is_own k l (length fs)) 0) (own_fit (is_own k l (length fs)) 0) l
      (map (piece decls tokens types d) fs) (map (piece decls tokens types e) fs)
      (own_of (is_own k l (length fs)) 0 fs (each fs)) (out-Tree t) in
      λ i. not (is_disjunction (shape_of l)) && inner i

  whole_token : (k : NodeKind) (b : Token) (form t : Tree) → token_whole decls tokens types d k b form t ≡ token_whole decls tokens types e k b form t
  whole_token k b form t = λ i.
      if is_open_brace b then option_fits (λ u. fits_alike form u i) (open_brace k t)
      else if is_close_brace b then option_fits (λ u. fits_alike form u i) (close_brace k t)
      else if is_statement_token b.kind then is_statement_node k && fits_alike form t i
      else is_simple_node k && fits_alike form t i

  whole_branch : (k : NodeKind) (form t : Tree) → branch_whole decls tokens types d k form t ≡ branch_whole decls tokens types e k form t
  whole_branch node_kind.Simple form t = fits_alike form t
  whole_branch node_kind.Head form t = own node_kind.Head (out-Tree form) t
  whole_branch node_kind.FunHead form t = own node_kind.FunHead (out-Tree form) t
  whole_branch _ form t = refl

  whole : (k : NodeKind) (layer : Tree-F Tree) (form t : Tree) → whole_at decls tokens types d k layer form t ≡ whole_at decls tokens types e k layer form t
  whole k (Tree-F.Leaf b) form t = whole_token k b form t
  whole k (Tree-F.Branch l fs) form t = whole_branch k form t

  at_spot : (s : Spot) (k : NodeKind) (form t : Tree) → fits_at decls tokens types d s k form t ≡ fits_at decls tokens types e s k form t
  at_spot spot.Whole k form t = whole k (out-Tree form) form t
  at_spot spot.Tail k form t = λ i. is_tail_node k && own node_kind.DoTail (out-Tree form) t i
  at_spot spot.Inside k form t = fits_alike form t

  seat : (p : Pattern) (r : NodeRole) (form t : Tree) → fits_seat decls tokens types d p r form t ≡ fits_seat decls tokens types e p r form t
  seat p r form t = λ i. (is_live_in decls tokens p form && may_stand r form) && at_spot p.spot r.kind form t i

  pub matches_alike : (p : Pattern) (n : NodeLabel) → matches decls tokens types d p n ≡ matches decls tokens types e p n
  matches_alike p n = λ i. list_any (λ form. list_any (λ (s : Seat). seat p (role_of n) form s.tree i) (seats p.spot n.kind n.tree)) p.forms

  aligned : (p : Pattern) (k : NodeRole) (above : List ℕ) (ss : List Seat)
      → aligned_at decls tokens types d p k above ss ≡ aligned_at decls tokens types e p k above ss
  aligned p k above [] = refl
  aligned p k above (s ∷ ss) = λ i.
      put_form (above ++ s.path) (first_from 0 (λ form. seat p k form s.tree i) p.forms) ++ aligned p k above ss i

  pub aligns_alike : (p : Pattern) (n : NodeLabel) → aligns decls tokens types d p n ≡ aligns decls tokens types e p n
  aligns_alike p n = aligned p (role_of n) n.path (seats p.spot n.kind n.tree)
