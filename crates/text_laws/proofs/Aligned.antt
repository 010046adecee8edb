-- The tokens of a form are aligned with tokens of the subtree.
use Rattle.std.proofs.Common.{ℕ, suc, Bool, true, false, cond, sym, subst, List, [], ◌∷◌, ◌++◌, map, length, take, drop, Option}
use Rattle.std.proofs.Common.{None, Some, ◌-◌}
use Rattle.std.specs.Prelude.{if◌then◌else◌}
use Rattle.c_terms.specs.declared.token.Token.{Token}
use Rattle.c_terms.specs.declared.label.Label.{Label}
use Rattle.c_terms.specs.declared.list.Member.{Member}
use Rattle.c_terms.specs.declared.shape.Shape.{Shape}
use Rattle.c_terms.specs.declared.shape.Shape.TheVariants as shape
use Rattle.c_terms.specs.declared.tree.Tree.{Tree, out-Tree}
use Rattle.c_terms.specs.declared.tree.Tree.TheOpen.{Tree-F}
use Rattle.c_terms.specs.Shapes.{shape_of}
use Rattle.c_terms.specs.Lists.{members}
use Rattle.c_terms.proofs.Induct.{Each, tree_induction}
use Rattle.text_laws.proofs.OutputLaws.TreeTokens.{Have, TreeHas, Layer, layer, SomeTreeHas, kid_at, child_has, SomeHas, MembersHave, members_have}
use Rattle.text_laws.proofs.OutputLaws.TreeTokens.{take_have, drop_have, run_has}
use Rattle.c_types.specs.Tables.{ItemTypes}
use Rattle.cfg_build.specs.declared.cfg_graph.label.NodeKind.{NodeKind}
use Rattle.cfg_build.specs.declared.cfg_graph.label.NodeKind.TheVariants as node_kind
use Rattle.cfg_build.specs.CfgGraph.Own.{is_own}
use Rattle.smpl_terms.specs.Environments.{Environment}
use Rattle.smpl_patch.specs.declared.pattern.VarDecl.{VarDecl}
use Rattle.smpl_patch.specs.declared.pattern.PatToken.{PatToken}
use Rattle.smpl_patch.specs.declared.pattern.Pattern.{Pattern}
use Rattle.smpl_patch.specs.declared.pattern.Spot.{Spot}
use Rattle.smpl_patch.specs.declared.pattern.Spot.TheVariants as spot
use Rattle.pat_match.specs.Runs.{Piece, Pair, as_comma, is_wild, token_list, comma_tokens, comma_pairs, wild_pairs, single_pairs, taken_pairs}
use Rattle.pat_match.specs.Runs.{leftmost, runs_pairs, list_pairs}
use Rattle.pat_match.specs.Fitting.{piece, pairs_by, first_pairs, every_pairs, zip_pairs, kids_pairs, alignment}
use Rattle.pat_match.specs.Spots.{is_open_brace, is_close_brace, last_at, open_brace, close_brace, own_pairs, option_pairs, own_alignment}
use Rattle.pat_match.specs.Spots.{token_alignment, branch_alignment, whole_alignment, alignment_at}
use Rattle.pat_match.specs.declared.role.NodeRole.{NodeRole}
use Rattle.pat_match.specs.Matching.{fits_seat}
use Rattle.pat_match.proofs.Pieces.{piece-Leaf, piece-Branch}
use Rattle.pat_match.specs.declared.pat_pairs.pairs.AlignedToken.{AlignedToken}
use Rattle.pat_match.specs.PatPairs.Pairs.{ids_of, numbers, first_aligned, aligned_tokens}

-- each id, each token's ids, what is found
abbrev pub IdsHave : (ℕ → Type 0) → List ℕ → Type 0
IdsHave Q [] = Unit {0}
IdsHave Q (id ∷ ids) = Q id × IdsHave Q ids

abbrev pub AlignedHave : (ℕ → Type 0) → List AlignedToken → Type 0
AlignedHave Q [] = Unit {0}
AlignedHave Q (a ∷ pairs) = IdsHave Q a.files × AlignedHave Q pairs

abbrev pub FoundHave : (ℕ → Type 0) → Option (List AlignedToken) → Type 0
FoundHave Q None = Unit {0}
FoundHave Q (Some pairs) = AlignedHave Q pairs

module _ (P : Token → Type 0) where
  abbrev Has : List Token → Type 0
  Has = Have P

  abbrev InTree : Tree → Type 0
  InTree = TreeHas P

  abbrev InSome : Option Tree → Type 0
  InSome = SomeTreeHas P

  abbrev InMembers : List Member → Type 0
  InMembers = MembersHave P

  abbrev IsIn : Option Token → Type 0
  IsIn = SomeHas P

  last_by : (y : Tree-F Tree) → Layer P y → InSome (last_at y)
  last_by (Tree-F.Leaf a) h = tt
  last_by (Tree-F.Branch l cs) h = kid_at P cs (length cs - 1) h

  -- ---- pairs

  abbrev PairsHave : List Pair → Type 0
  PairsHave [] = Unit {0}
  PairsHave (q ∷ qs) = Has q.1 × PairsHave qs

  pairs_both : (xs ys : List Pair) → PairsHave xs → PairsHave ys → PairsHave (xs ++ ys)
  pairs_both [] ys h k = k
  pairs_both (x ∷ xs) ys h k = (h.0, pairs_both xs ys h.1 k)

  token_list_has : (o : Option Token) → IsIn o → Has (token_list o)
  token_list_has None h = tt
  token_list_has (Some a) h = (h, tt)

  comma_tokens_have : (ms : List Member) → InMembers ms → Has (comma_tokens ms)
  comma_tokens_have [] h = tt
  comma_tokens_have (m ∷ ms) h = token_list_has m.comma h.0.0

  comma_pairs_have : (o : Option Token) (ms : List Member) → InMembers ms → PairsHave (comma_pairs o ms)
  comma_pairs_have None ms h = tt
  comma_pairs_have (Some a) ms h = (comma_tokens_have ms h, tt)

  wild_have : (l : Label) (o : Option Token) (ms : List Member) → InMembers ms → PairsHave (wild_pairs l o ms)
  wild_have l None ms h = tt
  wild_have l (Some a) ms h = (run_has P l ms h, tt)

  abbrev OfTree : Piece → Type 0
  OfTree p = (t : Tree) → InTree t → PairsHave (p.pairs t)

  abbrev AreOfTrees : List Piece → Type 0
  AreOfTrees [] = Unit {0}
  AreOfTrees (p ∷ ps) = OfTree p × AreOfTrees ps

  single_have : (p : Piece) (ms : List Member) → OfTree p → InMembers ms → PairsHave (single_pairs p.pairs ms)
  single_have p [] o h = tt
  single_have p (m ∷ ms) o h = o m.tree h.0.1

  cond_have : (b : Bool) (xs ys : List Pair) → PairsHave xs → PairsHave ys → PairsHave (cond b xs ys)
  cond_have true xs ys h k = h
  cond_have false xs ys h k = k

  taken_have : (l : Label) (before : Option Token) (p : Piece) (ms : List Member) → OfTree p → InMembers ms → PairsHave (taken_pairs l before p ms)
  taken_have l before p ms o h =
      pairs_both (comma_pairs before ms) (cond (is_wild l p.token) (wild_pairs l p.token ms) (single_pairs p.pairs ms)) (comma_pairs_have before ms h)
      (cond_have (is_wild l p.token) (wild_pairs l p.token ms) (single_pairs p.pairs ms) (wild_have l p.token ms h) (single_have p ms o h))

  first_have : (ps : List Piece) (t : Tree) → AreOfTrees ps → InTree t → PairsHave (first_pairs ps t)
  first_have [] t o h = tt
  first_have (p ∷ ps) t o h = cond_have (p.fits t) (p.pairs t) (first_pairs ps t) (o.0 t h) (first_have ps t o.1 h)

  every_have : (ps : List Piece) (t : Tree) → AreOfTrees ps → InTree t → PairsHave (every_pairs ps t)
  every_have [] t o h = tt
  every_have (p ∷ ps) t o h =
      pairs_both (cond (p.fits t) (p.pairs t) []) (every_pairs ps t) (cond_have (p.fits t) (p.pairs t) [] (o.0 t h) tt) (every_have ps t o.1 h)

  zip_have : (ps : List Piece) (ts : List Tree) → AreOfTrees ps → Each InTree ts → PairsHave (zip_pairs ps ts)
  zip_have [] ts o h = tt
  zip_have (p ∷ ps) [] o h = tt
  zip_have (p ∷ ps) (t ∷ ts) o h = pairs_both (p.pairs t) (zip_pairs ps ts) (o.0 t h.0) (zip_have ps ts o.1 h.1)

  own_if : (b : Bool) (xs : List Pair) → PairsHave xs → PairsHave (if b then xs else [])
  own_if true xs h = h
  own_if false xs h = tt

  own_have : (test : ℕ → Bool) (i : ℕ) (ps : List Piece) (ts : List Tree) → AreOfTrees ps → Each InTree ts → PairsHave (own_pairs test i ps ts)
  own_have test i [] ts o h = tt
  own_have test i (p ∷ ps) [] o h = tt
  own_have test i (p ∷ ps) (t ∷ ts) o h =
      pairs_both (if test i then p.pairs t else []) (own_pairs test (suc i) ps ts) (own_if (test i) (p.pairs t) (o.0 t h.0))
      (own_have test (suc i) ps ts o.1 h.1)

  kids_by : (f : List Piece → List Tree → List Pair) (ps : List Piece) (y : Tree-F Tree) → ((us : List Tree) → Each InTree us → PairsHave (f ps us))
      → Layer P y → PairsHave (kids_pairs f ps y)
  kids_by f ps (Tree-F.Leaf a) from h = tt
  kids_by f ps (Tree-F.Branch l cs) from h = from cs h

  option_have : (p : Piece) (o : Option Tree) → OfTree p → InSome o → PairsHave (option_pairs p.pairs o)
  option_have p None of h = tt
  option_have p (Some t) of h = of t h

  open_has : (k : NodeKind) (t : Tree) → InTree t → InSome (open_brace k t)
  open_has node_kind.OpenBrace t h = child_has P t 0 h
  open_has _ t h = tt

  close_has : (k : NodeKind) (t : Tree) → InTree t → InSome (close_brace k t)
  close_has node_kind.CloseBrace t h = last_by (out-Tree t) (layer P t h)
  close_has _ t h = tt

  module _ (decls : List VarDecl) (tokens : List PatToken) (types : ItemTypes) (env : Environment) where
    runs_have : (l : Label) (before : Option Token) (ps : List Piece) (ms : List Member) (ks : List ℕ) → AreOfTrees ps → InMembers ms
        → PairsHave (runs_pairs decls tokens env l before ps ms ks)
    runs_have l before [] ms ks o h = comma_pairs_have before [] tt
    runs_have l before (p ∷ ps) ms ks o h =
        elim (as_comma p.token) as (λ (c : Option Token). PairsHave (elim c as (λ c. List Pair) [
          | None ↦ elim ks as (λ ks. List Pair) [
            | [] ↦ []
            | k ∷ ks ↦ taken_pairs l before p (take k ms) ++ runs_pairs decls tokens env l None ps (drop k ms) ks
          ]
          | Some c ↦ comma_pairs before [] ++ runs_pairs decls tokens env l (Some c) ps ms ks
        ])) [
          | None ↦ elim ks as (λ (js : List ℕ). PairsHave (elim js as (λ ks. List Pair) [
            | [] ↦ []
            | k ∷ ks ↦ taken_pairs l before p (take k ms) ++ runs_pairs decls tokens env l None ps (drop k ms) ks
          ])) [
            | [] ↦ tt
            | k ∷ js ↦ pairs_both (taken_pairs l before p (take k ms)) (runs_pairs decls tokens env l None ps (drop k ms) js)
                (taken_have l before p (take k ms) o.0 (take_have P k ms h)) (runs_have l None ps (drop k ms) js o.1 (drop_have P k ms h))
          ]
          | Some c ↦ pairs_both (comma_pairs before []) (runs_pairs decls tokens env l (Some c) ps ms ks) (comma_pairs_have before [] tt)
              (runs_have l (Some c) ps ms ks o.1 h)
        ]

    list_have : (l : Label) (ps : List Piece) (us : List Tree) → AreOfTrees ps → Each InTree us → PairsHave (list_pairs decls tokens env l ps us)
    list_have l ps us o h = runs_have l None ps (members us) (leftmost decls tokens env l None ps (members us)) o (members_have P None us tt h)

    shape_have : (s : Shape) (l : Label) (ps : List Piece) (t : Tree) → AreOfTrees ps → InTree t → PairsHave (pairs_by decls tokens types env s l ps t)
    shape_have shape.Or l ps t o h = first_have ps t o h
    shape_have shape.And l ps t o h = every_have ps t o h
    shape_have shape.List l ps t o h = kids_by (list_pairs decls tokens env l) ps (out-Tree t) (λ us k. list_have l ps us o k) (layer P t h)
    shape_have shape.Plain l ps t o h = kids_by zip_pairs ps (out-Tree t) (λ us k. zip_have ps us o k) (layer P t h)

    abbrev FormHas : Tree → Type 0
    FormHas form = OfTree (piece decls tokens types env form)

    all_of : (forms : List Tree) → Each FormHas forms → AreOfTrees (map (piece decls tokens types env) forms)
    all_of [] h = tt
    all_of (f ∷ fs) h = (h.0, all_of fs h.1)

    form_has : (form : Tree) → FormHas form
    form_has = tree_induction FormHas
        (λ a. subst OfTree (sym (piece-Leaf decls tokens types env a)) (λ t h. (h, tt)))
        (λ l cs k. subst OfTree (sym (piece-Branch decls tokens types env l cs))
        (λ t h. shape_have (shape_of l) l (map (piece decls tokens types env) cs) t (all_of cs k) h))

    forms_have : (forms : List Tree) → AreOfTrees (map (piece decls tokens types env) forms)
    forms_have [] = tt
    forms_have (f ∷ fs) = (form_has f, forms_have fs)

    own_aligned : (k : NodeKind) (y : Tree-F Tree) (t : Tree) → InTree t → PairsHave (own_alignment decls tokens types env k y t)
    own_aligned k (Tree-F.Leaf a) t h = tt
    own_aligned k (Tree-F.Branch l fs) t h =
        kids_by (own_pairs (is_own k l (length fs)) 0) (map (piece decls tokens types env) fs) (out-Tree t)
        (λ us e. own_have (is_own k l (length fs)) 0 (map (piece decls tokens types env) fs) us (forms_have fs) e) (layer P t h)

    if_have : (b : Bool) (xs ys : List Pair) → PairsHave xs → PairsHave ys → PairsHave (if b then xs else ys)
    if_have true xs ys h k = h
    if_have false xs ys h k = k

    token_aligned : (k : NodeKind) (a : Token) (form t : Tree) → InTree t → PairsHave (token_alignment decls tokens types env k a form t)
    token_aligned k a form t h =
        if_have (is_open_brace a) (option_pairs (alignment decls tokens types env form) (open_brace k t))
        (if is_close_brace a then option_pairs (alignment decls tokens types env form) (close_brace k t) else alignment decls tokens types env form t)
        (option_have (piece decls tokens types env form) (open_brace k t) (form_has form) (open_has k t h))
        (if_have (is_close_brace a) (option_pairs (alignment decls tokens types env form) (close_brace k t)) (alignment decls tokens types env form t)
        (option_have (piece decls tokens types env form) (close_brace k t) (form_has form) (close_has k t h)) (form_has form t h))

    branch_aligned : (k : NodeKind) (form t : Tree) → InTree t → PairsHave (branch_alignment decls tokens types env k form t)
    branch_aligned node_kind.Simple form t h = form_has form t h
    branch_aligned k form t h = own_aligned k (out-Tree form) t h

    whole_aligned : (k : NodeKind) (y : Tree-F Tree) (form t : Tree) → InTree t → PairsHave (whole_alignment decls tokens types env k y form t)
    whole_aligned k (Tree-F.Leaf a) form t h = token_aligned k a form t h
    whole_aligned k (Tree-F.Branch l fs) form t h = branch_aligned k form t h

    spot_aligned : (s : Spot) (k : NodeKind) (form t : Tree) → InTree t → PairsHave (alignment_at decls tokens types env s k form t)
    spot_aligned spot.Whole k form t h = whole_aligned k (out-Tree form) form t h
    spot_aligned spot.Tail k form t h = own_aligned node_kind.DoTail (out-Tree form) t h
    spot_aligned spot.Inside k form t h = form_has form t h

  -- ---- by ids

  module _ (Q : ℕ → Type 0) (from : (t : Token) → P t → Q t.id) where
    ids_have : (ts : List Token) → Has ts → IdsHave Q (ids_of ts)
    ids_have [] h = tt
    ids_have (t ∷ ts) h = (from t h.0, ids_have ts h.1)

    numbers_have : (qs : List Pair) → PairsHave qs → AlignedHave Q (numbers qs)
    numbers_have [] h = tt
    numbers_have (q ∷ qs) h = (ids_have q.1 h.0, numbers_have qs h.1)

    cond_found : (b : Bool) (x y : Option (List AlignedToken)) → FoundHave Q x → FoundHave Q y → FoundHave Q (cond b x y)
    cond_found true x y h k = h
    cond_found false x y h k = k

    forms_found : (decls : List VarDecl) (tokens : List PatToken) (types : ItemTypes) (env : Environment) (p : Pattern) (k : NodeRole) (t : Tree)
        (forms : List Tree) → InTree t
        → FoundHave Q (first_aligned decls tokens types env p k t forms)
    forms_found decls tokens types env p k t [] h = tt
    forms_found decls tokens types env p k t (f ∷ fs) h =
        cond_found (fits_seat decls tokens types env p k f t) (Some (numbers (alignment_at decls tokens types env p.spot k.kind f t)))
        (first_aligned decls tokens types env p k t fs)
        (numbers_have (alignment_at decls tokens types env p.spot k.kind f t) (spot_aligned decls tokens types env p.spot k.kind f t h))
        (forms_found decls tokens types env p k t fs h)

    pub tokens_found : (decls : List VarDecl) (tokens : List PatToken) (types : ItemTypes) (env : Environment) (p : Pattern) (k : NodeRole) (t : Tree)
        → InTree t
        → FoundHave Q (aligned_tokens decls tokens types env p k t)
    tokens_found decls tokens types env p k t h = forms_found decls tokens types env p k t p.forms h
