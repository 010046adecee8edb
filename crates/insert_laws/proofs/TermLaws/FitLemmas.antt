-- If a form fits a tree, each of its sure variables that is no position has a term.
use Rattle.std.proofs.Common.{◌≡◌, ℕ, zero, suc, Bool, true, false, ◌&&◌, ◌||◌, cond, refl, sym, ap, ◌∙◌, subst, List, [], ◌∷◌, map, take, drop}
use Rattle.std.proofs.Common.{length, not, Option, Some, None, slice_get, ⊎_elim}
use Rattle.std.specs.List.{list_any, list_all}
use Rattle.c_terms.specs.declared.token.Token.{Token}
use Rattle.c_terms.specs.declared.token.TokenKind.{TokenKind}
use Rattle.c_terms.specs.declared.token.TokenKind.TheVariants as kind
use Rattle.c_terms.specs.declared.token.MetaKind.{MetaKind}
use Rattle.c_terms.specs.declared.label.Label.{Label}
use Rattle.c_terms.specs.declared.list.Member.{Member}
use Rattle.c_terms.specs.declared.shape.Shape.{Shape}
use Rattle.c_terms.specs.declared.shape.Shape.TheVariants as shape
use Rattle.c_terms.specs.declared.tree.Tree.{Tree, out-Tree}
use Rattle.c_terms.specs.declared.tree.Tree.TheVariants.{Leaf}
use Rattle.c_terms.specs.Lists.{is_punct, is_comma, comma, comma_at, members, run}
use Rattle.c_terms.specs.Shapes.{shape_of}
use Rattle.c_terms.proofs.SameLemmas.{out-Leaf, out-Branch}
use Rattle.c_terms.proofs.Induct.{Each, tree_induction, tree_cases}
use Rattle.c_types.specs.Tables.{ItemTypes}
use Rattle.smpl_terms.specs.declared.var.Var.{Var}
use Rattle.smpl_terms.specs.declared.value.Value.{Value}
use Rattle.smpl_terms.specs.declared.value.Value.TheVariants as value
use Rattle.smpl_terms.specs.Values.{same}
use Rattle.smpl_terms.specs.Environments.{Environment}
use Rattle.smpl_terms.proofs.VarLaws.{same_var-equal}
use Rattle.smpl_patch.specs.declared.pattern.VarDecl.{VarDecl}
use Rattle.smpl_patch.specs.declared.pattern.PatToken.{PatToken}
use Rattle.smpl_patch.specs.Patterns.{declared_as, is_var_of, is_meta_of, is_position_of, is_own, is_sign, is_sign_at, is_sign_tree, is_sure}
use Rattle.smpl_patch.proofs.SureLemmas.{sure_kids, sure-Leaf, sure-Branch}
use Rattle.pat_match.specs.Kinds.{is_of_kind, is_named}
use Rattle.pat_match.specs.Wants.{is_wanted}
use Rattle.pat_match.specs.Tokens.{meta_fits, value_is, run_is, token_fits, leaf_fits}
use Rattle.pat_match.specs.Runs.{Piece, is_wild, comma_fits, run_fits, single_fits, takes, some_below, runs_from, list_fits}
use Rattle.pat_match.specs.Fitting.{leaf_of, is_sign_token, all_fit, kids_fit, fits_by, piece, fits_tree}
use Rattle.pat_match.proofs.Pieces.{fits-Leaf, fits-Branch, piece-token}
use Rattle.pat_match.proofs.RowLemmas.{choice}
use Rattle.ctl_fixpoint.proofs.CtlHolds.TestLemmas.{or_cases, and_left, and_right, not_both}
use Rattle.insert_laws.specs.TermLaws.Terms.{is_term, IsNoPosition}
use Rattle.pat_match.proofs.SureLaw.{false_and, sign_fits, sign_meta}

term_same : (t : Tree) (v : Value) → same (value.Term t) v ≡ true → is_term v ≡ true
term_same t (value.Term u) h = refl
term_same t (value.Place p) h = absurd (cc)

-- a sign and a comma are no metavariables, and a sign fits nothing

punct_meta : (decls : List VarDecl) (a : Token) (k : TokenKind) (x : Var) → is_punct k ≡ true → is_meta_of decls a k x ≡ false
punct_meta decls a (kind.Meta k) x h = absurd (cc)
punct_meta decls a _ x h = refl

below_elim : (test : ℕ → Bool) (n : ℕ) → some_below test n ≡ true → (k : ℕ) × (test k ≡ true)
below_elim test zero h = not_both false h refl
below_elim test (suc n) h = ⊎_elim (λ a. below_elim test n a) (λ b. (n, b)) (or_cases (some_below test n) (test n) h)

chosen : (a c : Token) (b : Bool) → cond b (Some a) None ≡ Some c → b ≡ true
chosen a c true h = refl
chosen a c false h = absurd (cc)

comma_leaf : (a c : Token) → comma (Leaf a) ≡ Some c → is_comma a ≡ true
comma_leaf a c h = chosen a c (is_comma a) (sym (ap comma_at (out-Leaf a)) ∙ h)

module _ (decls : List VarDecl) (tokens : List PatToken) (types : ItemTypes) (env : Environment) (x : Var) (off : IsNoPosition tokens x) where
  abbrev pub HasTerm : Type 0
  HasTerm = is_term (env x) ≡ true

  meta_at : (k : MetaKind) (o : Option VarDecl) (t : Tree) → meta_fits decls env types k o t ≡ true → is_var_of o x ≡ true → HasTerm
  meta_at k None t h s = not_both false h refl
  meta_at k (Some d) t h s =
      let kind : (not (is_named d.not_names (out-Tree t)) && (is_wanted types d.wanted t && same (value.Term t) (env d.var))) ≡ true =
      and_right (is_of_kind k (out-Tree t)) _ h in
      let wanted : (is_wanted types d.wanted t && same (value.Term t) (env d.var)) ≡ true = and_right (not (is_named d.not_names (out-Tree t))) _ kind in
      subst (λ z. is_term (env z) ≡ true) (same_var-equal d.var x s) (term_same t (env d.var) (and_right (is_wanted types d.wanted t) _ wanted))

  meta_value : (k : TokenKind) (a : Token) (t : Tree) → token_fits decls env types k a t ≡ true → is_meta_of decls a k x ≡ true → HasTerm
  meta_value (kind.Meta k) a t h s = meta_at k (declared_as decls a.text) t h s
  meta_value _ a t h s = not_both false s refl

  value_at : (o : Option VarDecl) (t : Tree) → value_is decls env o t ≡ true → is_var_of o x ≡ true → HasTerm
  value_at None t h s = not_both false h refl
  value_at (Some d) t h s = subst (λ z. is_term (env z) ≡ true) (same_var-equal d.var x s) (term_same t (env d.var) h)

  run_value : (k : TokenKind) (a : Token) (t : Tree) → run_is decls env k a t ≡ true → is_meta_of decls a k x ≡ true → HasTerm
  run_value (kind.Meta k) a t h s = value_at (declared_as decls a.text) t h s
  run_value _ a t h s = not_both false s refl

  -- a variable that a token has is its metavariable
  own_meta : (a : Token) → is_own decls tokens x a ≡ true → is_meta_of decls a a.kind x ≡ true
  own_meta a s = ⊎_elim (λ m. m) (λ p. not_both (is_position_of (slice_get tokens a.id) x) p (off a.id))
      (or_cases (is_meta_of decls a a.kind x) (is_position_of (slice_get tokens a.id) x) s)

  abbrev pub Law : Tree → Type 0
  Law form = (t : Tree) → fits_tree decls tokens types env form t ≡ true → is_sure decls tokens x form ≡ true → HasTerm

  abbrev pub any_sure : List Tree → Bool
  any_sure cs = list_any (λ c. is_sure decls tokens x c) cs

  leaf_law : (a : Token) → Law (Leaf a)
  leaf_law a t h s =
      let f : leaf_fits decls tokens env types a t ≡ true = sym (fits-Leaf decls tokens types env a t) ∙ h in
      meta_value a.kind a t (and_left _ _ f) (own_meta a (sym (sure-Leaf decls tokens x a) ∙ s))

  kids_law : (cs us : List Tree) → Each Law cs → all_fit (map (piece decls tokens types env) cs) us ≡ true → any_sure cs ≡ true → HasTerm
  kids_law [] us e h s = not_both false s refl
  kids_law (c ∷ cs) [] e h s = not_both false h refl
  kids_law (c ∷ cs) (u ∷ us) e h s = ⊎_elim
      (λ a. e.0 u (and_left _ _ h) a)
      (λ b. kids_law cs us e.1 (and_right _ _ h) b)
      (or_cases (is_sure decls tokens x c) (any_sure cs) s)

  abbrev pub Fit : (List Piece → List Tree → Bool) → Label → List Tree → Tree → Type 0
  Fit test l cs t = kids_fit test l (map (piece decls tokens types env) cs) (out-Tree t) ≡ true → any_sure cs ≡ true → HasTerm

  rows_law : (l : Label) (cs : List Tree) → Each Law cs → (t : Tree) → Fit all_fit l cs t
  rows_law l cs e = tree_cases (Fit all_fit l cs)
      (λ b h s. not_both false (sym (ap (kids_fit all_fit l (map (piece decls tokens types env) cs)) (out-Leaf b)) ∙ h) refl)
      (λ k us h s.
      let f = sym (ap (kids_fit all_fit l (map (piece decls tokens types env) cs)) (out-Branch k us)) ∙ h in
      kids_law cs us e (and_right _ _ f) s)

  sign_no_fit : (c t : Tree) → is_sign_tree c ≡ true → fits_tree decls tokens types env c t ≡ false
  sign_no_fit c t = tree_cases (λ c. is_sign_tree c ≡ true → fits_tree decls tokens types env c t ≡ false)
      (λ a h. fits-Leaf decls tokens types env a t ∙ false_and _ _ (sign_fits decls env types a.kind a t (sym (ap is_sign_at (out-Leaf a)) ∙ h)))
      (λ l cs h. not_both false (sym (ap is_sign_at (out-Branch l cs)) ∙ h) refl)
      c

  sign_no_sure : (c : Tree) → is_sign_token (leaf_of (out-Tree c)) ≡ true → is_sure decls tokens x c ≡ true → HasTerm
  sign_no_sure = tree_cases (λ c. is_sign_token (leaf_of (out-Tree c)) ≡ true → is_sure decls tokens x c ≡ true → HasTerm)
      (λ a h s.
      let g : is_sign a.kind ≡ true = sym (ap (λ y. is_sign_token (leaf_of y)) (out-Leaf a)) ∙ h in
      not_both (is_meta_of decls a a.kind x) (own_meta a (sym (sure-Leaf decls tokens x a) ∙ s)) (sign_meta decls a a.kind x g))
      (λ l cs h s. not_both false (sym (ap (λ y. is_sign_token (leaf_of y)) (out-Branch l cs)) ∙ h) refl)

  -- a sign fits nothing, and what is sure in a disjunction is so in each branch
  some_law : (cs : List Tree) (t : Tree) → Each Law cs → list_any (λ p. p.fits t) (map (piece decls tokens types env) cs) ≡ true
      → list_all (λ c. is_sign_tree c || is_sure decls tokens x c) cs ≡ true → HasTerm
  some_law [] t e h s = not_both false h refl
  some_law (c ∷ cs) t e h s = ⊎_elim
      (λ f. ⊎_elim (λ g. not_both (fits_tree decls tokens types env c t) f (sign_no_fit c t g)) (λ g. e.0 t f g)
      (or_cases (is_sign_tree c) (is_sure decls tokens x c) (and_left _ _ s)))
      (λ f. some_law cs t e.1 f (and_right _ _ s))
      (or_cases (fits_tree decls tokens types env c t) (list_any (λ (p : Piece). p.fits t) (map (piece decls tokens types env) cs)) h)

  every_law : (cs : List Tree) (t : Tree) → Each Law cs
      → list_all (λ p. is_sign_token p.token || p.fits t) (map (piece decls tokens types env) cs) ≡ true → any_sure cs ≡ true → HasTerm
  every_law [] t e h s = not_both false s refl
  every_law (c ∷ cs) t e h s = ⊎_elim
      (λ g. ⊎_elim
      (λ n. sign_no_sure c (sym (ap is_sign_token (piece-token decls tokens types env c)) ∙ n) g)
      (λ f. e.0 t f g)
      (or_cases (is_sign_token (piece decls tokens types env c).token) (fits_tree decls tokens types env c t) (and_left _ _ h)))
      (λ g. every_law cs t e.1 (and_right _ _ h) g)
      (or_cases (is_sure decls tokens x c) (any_sure cs) s)

  -- ---- lists

  comma_none : (d : Token) (c : Tree) → comma c ≡ Some d → is_sure decls tokens x c ≡ true → HasTerm
  comma_none d = tree_cases (λ c. comma c ≡ Some d → is_sure decls tokens x c ≡ true → HasTerm)
      (λ a h s. not_both (is_meta_of decls a a.kind x) (own_meta a (sym (sure-Leaf decls tokens x a) ∙ s))
      (punct_meta decls a a.kind x (and_left _ _ (comma_leaf a d h))))
      (λ k cs h s. let f = sym (ap comma_at (out-Branch k cs)) ∙ h in absurd (cc))

  single_law : (c : Tree) (ms : List Member) → Law c → single_fits (fits_tree decls tokens types env c) ms ≡ true → is_sure decls tokens x c ≡ true → HasTerm
  single_law c [] w h s = not_both false h refl
  single_law c (m ∷ []) w h s = w m.tree h s
  single_law c (m ∷ n ∷ ms) w h s = not_both false h refl

  wild_law : (l : Label) (ms : List Member) (c : Tree) → run_fits decls tokens env l (leaf_of (out-Tree c)) ms ≡ true
      → is_sure decls tokens x c ≡ true → HasTerm
  wild_law l ms = tree_cases (λ c. run_fits decls tokens env l (leaf_of (out-Tree c)) ms ≡ true → is_sure decls tokens x c ≡ true → HasTerm)
      (λ a h s.
      let f : run_fits decls tokens env l (Some a) ms ≡ true = sym (ap (λ y. run_fits decls tokens env l (leaf_of y) ms) (out-Leaf a)) ∙ h in
      run_value a.kind a (run l ms) (and_left _ _ f) (own_meta a (sym (sure-Leaf decls tokens x a) ∙ s)))
      (λ j cs h s. not_both false (sym (ap (λ y. run_fits decls tokens env l (leaf_of y) ms) (out-Branch j cs)) ∙ h) refl)

  member_law : (l : Label) (c : Tree) (ms : List Member) (w : Bool) → Law c
      → cond w (run_fits decls tokens env l (piece decls tokens types env c).token ms) (single_fits (fits_tree decls tokens types env c) ms) ≡ true
      → is_sure decls tokens x c ≡ true → HasTerm
  member_law l c ms true law h s = wild_law l ms c (sym (ap (λ o. run_fits decls tokens env l o ms) (piece-token decls tokens types env c)) ∙ h) s
  member_law l c ms false law h s = single_law c ms law h s

  abbrev RunsLaw : Label → List Tree → Type 0
  RunsLaw l cs = (before : Option Token) (ms : List Member) → runs_from decls tokens env l before (map (piece decls tokens types env) cs) ms ≡ true
      → any_sure cs ≡ true → HasTerm

  runs_step : (l : Label) (c : Tree) (cs : List Tree) → Law c → RunsLaw l cs → (before : Option Token) (ms : List Member) (o : Option Token)
      → comma c ≡ o
      → elim o as (λ o. Bool) [
        | None ↦ some_below (λ k. takes decls tokens env l before (piece decls tokens types env c) (take k ms)
            && runs_from decls tokens env l None (map (piece decls tokens types env) cs) (drop k ms)) (suc (length ms))
        | Some d ↦ comma_fits decls tokens env before [] && runs_from decls tokens env l (Some d) (map (piece decls tokens types env) cs) ms
      ] ≡ true
      → (is_sure decls tokens x c || any_sure cs) ≡ true → HasTerm
  runs_step l c cs law ih before ms None e h s =
      let r = below_elim _ (suc (length ms)) h in
      ⊎_elim
      (λ a. member_law l c (take r.0 ms) (is_wild l (piece decls tokens types env c).token) law (and_right _ _ (and_left _ _ r.1)) a)
      (λ a. ih None (drop r.0 ms) (and_right _ _ r.1) a)
      (or_cases (is_sure decls tokens x c) (any_sure cs) s)
  runs_step l c cs law ih before ms (Some d) e h s = ⊎_elim
      (λ a. comma_none d c e a) (λ a. ih (Some d) ms (and_right _ _ h) a) (or_cases (is_sure decls tokens x c) (any_sure cs) s)

  runs_law : (l : Label) (cs : List Tree) → Each Law cs → RunsLaw l cs
  runs_law l [] e before ms h s = not_both false s refl
  runs_law l (c ∷ cs) e before ms h s =
      runs_step l c cs e.0 (runs_law l cs e.1) before ms (comma c) refl (sym (choice decls tokens types l env before c cs ms (comma c) refl) ∙ h) s

  list_law : (l : Label) (cs : List Tree) → Each Law cs → (t : Tree) → Fit (list_fits decls tokens env l) l cs t
  list_law l cs laws = tree_cases (Fit (list_fits decls tokens env l) l cs)
      (λ b h s. not_both false (sym (ap (kids_fit (list_fits decls tokens env l) l (map (piece decls tokens types env) cs)) (out-Leaf b)) ∙ h) refl)
      (λ k us h s.
      let f = sym (ap (kids_fit (list_fits decls tokens env l) l (map (piece decls tokens types env) cs)) (out-Branch k us)) ∙ h in
      runs_law l cs laws None (members us) (and_right _ _ f) s)

  -- ---- all forms

  by_shape : (r : Shape) (l : Label) (cs : List Tree) → Each Law cs → (t : Tree)
      → fits_by decls tokens types env r l (map (piece decls tokens types env) cs) t ≡ true → sure_kids decls tokens x r cs ≡ true → HasTerm
  by_shape shape.Or l cs e t h s = some_law cs t e (and_right _ _ h) s
  by_shape shape.And l cs e t h s = every_law cs t e (and_right _ _ h) s
  by_shape shape.List l cs e t h s = list_law l cs e t h s
  by_shape shape.Plain l cs e t h s = rows_law l cs e t h s

  pub tree_law : (form : Tree) → Law form
  tree_law = tree_induction Law leaf_law
      (λ l cs e t h s. by_shape (shape_of l) l cs e t (sym (fits-Branch decls tokens types env l cs t) ∙ h) (sym (sure-Branch decls tokens x l cs) ∙ s))
