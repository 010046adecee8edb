-- If a form fits a tree, each of its sure variables has a value of the tree: all cases but lists.
use Rattle.std.proofs.Common.{◌≡◌, ℕ, Bool, true, false, ◌&&◌, ◌||◌, not, refl, sym, ap, ◌∙◌, subst, List, [], ◌∷◌, map, Option, Some, None, slice_get, ⊎_elim}
use Rattle.std.specs.List.{list_any, list_all}
use Rattle.c_terms.specs.declared.token.Token.{Token}
use Rattle.c_terms.specs.declared.token.TokenKind.{TokenKind}
use Rattle.c_terms.specs.declared.token.TokenKind.TheVariants as kind
use Rattle.c_terms.specs.declared.token.MetaKind.{MetaKind}
use Rattle.c_terms.specs.declared.label.Label.{Label}
use Rattle.c_terms.specs.declared.shape.Shape.{Shape}
use Rattle.c_terms.specs.declared.shape.Shape.TheVariants as shape
use Rattle.c_terms.specs.declared.tree.Tree.{Tree, out-Tree}
use Rattle.c_terms.specs.declared.tree.Tree.TheOpen.{Tree-F}
use Rattle.c_terms.specs.declared.tree.Tree.TheVariants.{Leaf}
use Rattle.c_terms.specs.Shapes.{shape_of}
use Rattle.c_terms.proofs.SameLemmas.{out-Leaf, out-Branch}
use Rattle.c_terms.proofs.Induct.{Each, tree_induction, tree_cases}
use Rattle.c_types.specs.Tables.{ItemTypes}
use Rattle.smpl_terms.specs.declared.var.Var.{Var}
use Rattle.smpl_terms.specs.declared.value.Value.TheVariants as value
use Rattle.smpl_terms.specs.Values.{same}
use Rattle.smpl_terms.specs.Vars.{same_var}
use Rattle.smpl_terms.specs.Environments.{Environment}
use Rattle.smpl_terms.proofs.VarLaws.{same_var-equal}
use Rattle.smpl_patch.specs.declared.pattern.VarDecl.{VarDecl}
use Rattle.smpl_patch.specs.declared.pattern.PatToken.{PatToken}
use Rattle.smpl_patch.specs.Patterns.{declared_as, is_var_of, is_meta_of, is_position_of, is_sign, is_sign_at, is_sign_tree, is_sure}
use Rattle.smpl_patch.proofs.SureLemmas.{sure_kids, sure-Leaf, sure-Branch}
use Rattle.pat_match.specs.Kinds.{is_of_kind, is_named}
use Rattle.pat_match.specs.Wants.{is_wanted}
use Rattle.pat_match.specs.Tokens.{first_id, has_none, is_bare, is_place, stands_at, meta_fits, token_fits, leaf_fits}
use Rattle.pat_match.specs.Runs.{Piece, list_fits}
use Rattle.pat_match.specs.Fitting.{leaf_of, is_sign_token, is_bare_sign, all_fit, kids_fit, fits_by, piece, fits_tree}
use Rattle.pat_match.specs.Valued.{has_value}
use Rattle.pat_match.proofs.Pieces.{fits-Leaf, fits-Branch, piece-token}
use Rattle.pat_match.proofs.ValueLemmas.{and_left, and_right, or_cases, or_left, or_right, has-self, has-first, has-kid}

all_any : (q : Var → Bool) (x : Var) (ys : List Var) → list_all q ys ≡ true → list_any (λ y. same_var y x) ys ≡ true → q x ≡ true
all_any q x [] h k = absurd (cc)
all_any q x (y ∷ ys) h k = ⊎_elim
    (λ e. subst (λ z. q z ≡ true) (same_var-equal y x e) (and_left (q y) (list_all q ys) h))
    (λ r. all_any q x ys (and_right (q y) (list_all q ys) h) r)
    (or_cases (same_var y x) (list_any (λ y. same_var y x) ys) k)

none_any : (x : Var) (ys : List Var) → has_none ys ≡ true → list_any (λ y. same_var y x) ys ≡ false
none_any x [] h = refl
none_any x (y ∷ ys) h = absurd (cc)

bare_position : (o : Option PatToken) (x : Var) → is_bare o ≡ true → is_position_of o x ≡ false
bare_position None x h = refl
bare_position (Some p) x h = none_any x p.positions (and_left _ _ h)

-- a sign is not a metavariable, and fits nothing
pub sign_meta : (decls : List VarDecl) (a : Token) (k : TokenKind) (x : Var) → is_sign k ≡ true → is_meta_of decls a k x ≡ false
sign_meta decls a (kind.Meta k) x h = absurd (cc)
sign_meta decls a _ x h = refl

pub sign_fits : (decls : List VarDecl) (env : Environment) (types : ItemTypes) (k : TokenKind) (a : Token) (t : Tree) → is_sign k ≡ true
    → token_fits decls env types k a t ≡ false
sign_fits decls env types kind.Pat a t h = refl
sign_fits decls env types _ a t h = absurd (cc)

not_or : (a b : Bool) → (not a || b) ≡ true → a ≡ true → b ≡ true
not_or true b h k = h
not_or false b h k = absurd (cc)

pub false_and : (a b : Bool) → a ≡ false → (a && b) ≡ false
false_and true b h = absurd (cc)
false_and false b h = refl

neither : (a b : Bool) → a ≡ false → b ≡ false → (a || b) ≡ false
neither true b h k = absurd (cc)
neither false b h k = k

sign_layer : (y : Tree-F Tree) → is_sign_at y ≡ is_sign_token (leaf_of y)
sign_layer (Tree-F.Leaf a) = refl
sign_layer (Tree-F.Branch l cs) = refl

module _ (decls : List VarDecl) (tokens : List PatToken) (types : ItemTypes) (env : Environment) (x : Var) where
  meta_at : (k : MetaKind) (o : Option VarDecl) (t : Tree) → meta_fits decls env types k o t ≡ true → is_var_of o x ≡ true → same (value.Term t) (env x) ≡ true
  meta_at k None t h s = absurd (cc)
  meta_at k (Some d) t h s =
      let unnamed = not (is_named d.not_names (out-Tree t)) in
      let wanted = is_wanted types d.wanted t in
      subst (λ z. same (value.Term t) (env z) ≡ true) (same_var-equal d.var x s)
      (and_right wanted _ (and_right unnamed _ (and_right (is_of_kind k (out-Tree t)) _ h)))

  meta_value : (k : TokenKind) (a : Token) (t : Tree) → token_fits decls env types k a t ≡ true → is_meta_of decls a k x ≡ true
      → same (value.Term t) (env x) ≡ true
  meta_value (kind.Meta k) a t h s = meta_at k (declared_as decls a.text) t h s
  meta_value _ a t h s = absurd (cc)

  -- a position at a token is the place of the token that this one is aligned with
  pub position_at : (o : Option PatToken) (first : Option ℕ) → stands_at decls env o first ≡ true → is_position_of o x ≡ true
      → (id : ℕ) × (first ≡ Some id) × (same (value.Place id) (env x) ≡ true)
  position_at None first h s = absurd (cc)
  position_at (Some p) None h s = let e = bare_position (Some p) x h in absurd (cc)
  position_at (Some p) (Some id) h s = (id, refl, and_left _ _ (all_any (is_place decls env id) x p.positions h s))

  abbrev pub Law : Tree → Type 0
  Law form = (t : Tree) → fits_tree decls tokens types env form t ≡ true → is_sure decls tokens x form ≡ true → has_value t (env x) ≡ true

  abbrev pub any_sure : List Tree → Bool
  any_sure cs = list_any (λ c. is_sure decls tokens x c) cs

  leaf_law : (a : Token) → Law (Leaf a)
  leaf_law a t h s =
      let f : leaf_fits decls tokens env types a t ≡ true = sym (fits-Leaf decls tokens types env a t) ∙ h in
      ⊎_elim
      (λ m. has-self t (env x) (meta_value a.kind a t (and_left _ _ f) m))
      (λ p. let q = position_at (slice_get tokens a.id) (first_id t) (and_right _ _ f) p in has-first t q.0 (env x) q.1 q.2)
      (or_cases (is_meta_of decls a a.kind x) (is_position_of (slice_get tokens a.id) x) (sym (sure-Leaf decls tokens x a) ∙ s))

  kids_law : (cs us : List Tree) → Each Law cs → all_fit (map (piece decls tokens types env) cs) us ≡ true → any_sure cs ≡ true
      → list_any (λ u. has_value u (env x)) us ≡ true
  kids_law [] us e h s = absurd (cc)
  kids_law (c ∷ cs) [] e h s = absurd (cc)
  kids_law (c ∷ cs) (u ∷ us) e h s = ⊎_elim
      (λ a. or_left _ _ (e.0 u (and_left _ _ h) a))
      (λ b. or_right _ _ (kids_law cs us e.1 (and_right _ _ h) b))
      (or_cases (is_sure decls tokens x c) (any_sure cs) s)

  abbrev pub Fit : (List Piece → List Tree → Bool) → Label → List Tree → Tree → Type 0
  Fit test l cs t = kids_fit test l (map (piece decls tokens types env) cs) (out-Tree t) ≡ true → any_sure cs ≡ true → has_value t (env x) ≡ true

  rows_law : (l : Label) (cs : List Tree) → Each Law cs → (t : Tree) → Fit all_fit l cs t
  rows_law l cs e = tree_cases (Fit all_fit l cs)
      (λ b h s. let f = sym (ap (kids_fit all_fit l (map (piece decls tokens types env) cs)) (out-Leaf b)) ∙ h in absurd (cc))
      (λ k us h s.
      let f = sym (ap (kids_fit all_fit l (map (piece decls tokens types env) cs)) (out-Branch k us)) ∙ h in
      has-kid k us (env x) (kids_law cs us e (and_right _ _ f) s))

  sign_no_fit : (c t : Tree) → is_sign_tree c ≡ true → fits_tree decls tokens types env c t ≡ false
  sign_no_fit c t = tree_cases (λ c. is_sign_tree c ≡ true → fits_tree decls tokens types env c t ≡ false)
      (λ a h. fits-Leaf decls tokens types env a t ∙ false_and _ _ (sign_fits decls env types a.kind a t (sym (ap is_sign_at (out-Leaf a)) ∙ h)))
      (λ l cs h. let f = sym (ap is_sign_at (out-Branch l cs)) ∙ h in absurd (cc))
      c

  bare_no_sure : (c : Tree) → is_sign_token (leaf_of (out-Tree c)) ≡ true → is_bare_sign tokens (leaf_of (out-Tree c)) ≡ true → is_sure decls tokens x c ≡ false
  bare_no_sure = tree_cases
      (λ c. is_sign_token (leaf_of (out-Tree c)) ≡ true → is_bare_sign tokens (leaf_of (out-Tree c)) ≡ true → is_sure decls tokens x c ≡ false)
      (λ a h b.
      let g : is_sign a.kind ≡ true = sym (ap (λ y. is_sign_token (leaf_of y)) (out-Leaf a)) ∙ h in
      let f : is_bare_sign tokens (Some a) ≡ true = sym (ap (λ y. is_bare_sign tokens (leaf_of y)) (out-Leaf a)) ∙ b in
      sure-Leaf decls tokens x a ∙ neither _ _ (sign_meta decls a a.kind x g) (bare_position (slice_get tokens a.id) x (not_or _ _ f g)))
      (λ l cs h b. let f = sym (ap (λ y. is_sign_token (leaf_of y)) (out-Branch l cs)) ∙ h in absurd (cc))

  -- a sign fits nothing, and what is sure in a disjunction is sure in each branch
  some_law : (cs : List Tree) (t : Tree) → Each Law cs → list_any (λ p. p.fits t) (map (piece decls tokens types env) cs) ≡ true
      → list_all (λ c. is_sign_tree c || is_sure decls tokens x c) cs ≡ true → has_value t (env x) ≡ true
  some_law [] t e h s = absurd (cc)
  some_law (c ∷ cs) t e h s = ⊎_elim
      (λ f. ⊎_elim (λ g. let n = sign_no_fit c t g in absurd (cc)) (λ g. e.0 t f g) (or_cases (is_sign_tree c) (is_sure decls tokens x c) (and_left _ _ s)))
      (λ f. some_law cs t e.1 f (and_right _ _ s))
      (or_cases (fits_tree decls tokens types env c t) (list_any (λ (p : Piece). p.fits t) (map (piece decls tokens types env) cs)) h)

  every_law : (cs : List Tree) (t : Tree) → Each Law cs → list_all (λ p. is_bare_sign tokens p.token) (map (piece decls tokens types env) cs) ≡ true
      → list_all (λ p. is_sign_token p.token || p.fits t) (map (piece decls tokens types env) cs) ≡ true → any_sure cs ≡ true → has_value t (env x) ≡ true
  every_law [] t e b h s = absurd (cc)
  every_law (c ∷ cs) t e b h s = ⊎_elim
      (λ g. ⊎_elim
      (λ n.
      let z = bare_no_sure c (sym (ap is_sign_token (piece-token decls tokens types env c)) ∙ n)
      (sym (ap (is_bare_sign tokens) (piece-token decls tokens types env c)) ∙ and_left _ _ b) in
      absurd (cc))
      (λ f. e.0 t f g)
      (or_cases (is_sign_token (piece decls tokens types env c).token) (fits_tree decls tokens types env c t) (and_left _ _ h)))
      (λ g. every_law cs t e.1 (and_right _ _ b) (and_right _ _ h) g)
      (or_cases (is_sure decls tokens x c) (any_sure cs) s)

  -- the case of lists
  abbrev pub ListLaw : Type 0
  ListLaw = (l : Label) → shape_of l ≡ shape.List → (cs : List Tree) → Each Law cs → (t : Tree) → Fit (list_fits decls tokens env l) l cs t

  by_shape : ListLaw → (r : Shape) (l : Label) (cs : List Tree) → shape_of l ≡ r → Each Law cs → (t : Tree)
      → fits_by decls tokens types env r l (map (piece decls tokens types env) cs) t ≡ true → sure_kids decls tokens x r cs ≡ true → has_value t (env x) ≡ true
  by_shape lists shape.Or l cs r e t h s = some_law cs t e (and_right _ _ h) s
  by_shape lists shape.And l cs r e t h s = every_law cs t e (and_left _ _ h) (and_right _ _ h) s
  by_shape lists shape.List l cs r e t h s = lists l r cs e t h s
  by_shape lists shape.Plain l cs r e t h s = rows_law l cs e t h s

  pub sure_law : ListLaw → (form : Tree) → Law form
  sure_law lists = tree_induction Law leaf_law
      (λ l cs e t h s. by_shape lists (shape_of l) l cs refl e t (sym (fits-Branch decls tokens types env l cs t) ∙ h)
      (sym (sure-Branch decls tokens x l cs) ∙ s))
