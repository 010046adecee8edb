-- If a form fits a tree, each word that it spells is one of the tree's tokens: all cases but lists.
use Rattle.std.proofs.Common.{◌≡◌, ℕ, Bool, true, false, ◌&&◌, ◌||◌, refl, sym, ap, ◌∙◌, List, [], ◌∷◌, map, ⊎_elim}
use Rattle.std.specs.List.{list_any, list_all}
use Rattle.c_terms.specs.declared.token.Token.{Token}
use Rattle.c_terms.specs.declared.token.TokenKind.{TokenKind}
use Rattle.c_terms.specs.declared.token.TokenKind.TheVariants as kind
use Rattle.c_terms.specs.declared.label.Label.{Label}
use Rattle.c_terms.specs.declared.shape.Shape.{Shape}
use Rattle.c_terms.specs.declared.shape.Shape.TheVariants as shape
use Rattle.c_terms.specs.declared.tree.Tree.{Tree, out-Tree}
use Rattle.c_terms.specs.declared.tree.Tree.TheVariants.{Leaf}
use Rattle.c_terms.specs.Same.{same_token}
use Rattle.c_terms.specs.Shapes.{shape_of}
use Rattle.c_terms.proofs.SameLemmas.{out-Leaf, out-Branch}
use Rattle.c_terms.proofs.Induct.{Each, tree_induction, tree_cases}
use Rattle.c_types.specs.Tables.{ItemTypes}
use Rattle.smpl_terms.specs.Environments.{Environment}
use Rattle.smpl_patch.specs.declared.pattern.VarDecl.{VarDecl}
use Rattle.smpl_patch.specs.declared.pattern.PatToken.{PatToken}
use Rattle.smpl_patch.specs.Patterns.{is_sign, is_sign_at, is_sign_tree}
use Rattle.pat_match.specs.Kinds.{plain_fits}
use Rattle.pat_match.specs.Tokens.{token_fits, leaf_fits}
use Rattle.pat_match.specs.Runs.{Piece, list_fits}
use Rattle.pat_match.specs.Fitting.{leaf_of, is_sign_token, all_fit, kids_fit, fits_by, piece, fits_tree}
use Rattle.pat_match.proofs.Pieces.{fits-Leaf, fits-Branch, piece-token}
use Rattle.ctl_fixpoint.specs.RequiredWords.Words.{is_word_kind, is_word, has_word, spells}
use Rattle.ctl_fixpoint.proofs.RequiredWords.WordLemmas.{and_left, and_right, or_cases, or_left, or_right, not_both, same_word}
use Rattle.ctl_fixpoint.proofs.RequiredWords.WordLemmas.{word-Leaf, word-kid, spells_kids, spells-Leaf, spells-Branch}

sign_fits : (decls : List VarDecl) (env : Environment) (types : ItemTypes) (k : TokenKind) (a : Token) (t : Tree) → is_sign k ≡ true
    → token_fits decls env types k a t ≡ false
sign_fits decls env types kind.Pat a t h = refl
sign_fits decls env types _ a t h = absurd (cc)

-- a sign is no word
sign_word : (k : TokenKind) → is_sign k ≡ true → is_word_kind k ≡ false
sign_word kind.Pat h = refl
sign_word _ h = absurd (cc)

false_and : (a b : Bool) → a ≡ false → (a && b) ≡ false
false_and true b h = absurd (cc)
false_and false b h = refl

module _ (decls : List VarDecl) (tokens : List PatToken) (types : ItemTypes) (env : Environment) (w : List ℕ) where
  word_fits : (k : TokenKind) (a : Token) (t : Tree) → is_word_kind k ≡ true → token_fits decls env types k a t ≡ true → plain_fits a (out-Tree t) ≡ true
  word_fits (kind.Meta k) a t h f = absurd (cc)
  word_fits kind.Dots a t h f = absurd (cc)
  word_fits kind.Pat a t h f = absurd (cc)
  word_fits _ a t h f = f

  -- a word fits only the same word
  plain_word : (a : Token) (t : Tree) → plain_fits a (out-Tree t) ≡ true → is_word w a ≡ true → has_word w t ≡ true
  plain_word a = tree_cases (λ t. plain_fits a (out-Tree t) ≡ true → is_word w a ≡ true → has_word w t ≡ true)
      (λ b f h.
      let g : same_token a b ≡ true = sym (ap (plain_fits a) (out-Leaf b)) ∙ f in
      word-Leaf w b ∙ same_word w a b g h)
      (λ l cs f h. not_both false (sym (ap (plain_fits a) (out-Branch l cs)) ∙ f) refl)

  abbrev pub Law : Tree → Type 0
  Law form = (t : Tree) → fits_tree decls tokens types env form t ≡ true → spells w form ≡ true → has_word w t ≡ true

  abbrev pub any_spells : List Tree → Bool
  any_spells cs = list_any (λ c. spells w c) cs

  leaf_law : (a : Token) → Law (Leaf a)
  leaf_law a t h s =
      let f : leaf_fits decls tokens env types a t ≡ true = sym (fits-Leaf decls tokens types env a t) ∙ h in
      let e : is_word w a ≡ true = sym (spells-Leaf w a) ∙ s in
      plain_word a t (word_fits a.kind a t (and_left _ _ e) (and_left _ _ f)) e

  kids_law : (cs us : List Tree) → Each Law cs → all_fit (map (piece decls tokens types env) cs) us ≡ true → any_spells cs ≡ true
      → list_any (has_word w) us ≡ true
  kids_law [] us e h s = absurd (cc)
  kids_law (c ∷ cs) [] e h s = absurd (cc)
  kids_law (c ∷ cs) (u ∷ us) e h s = ⊎_elim
      (λ a. or_left _ _ (e.0 u (and_left _ _ h) a))
      (λ b. or_right _ _ (kids_law cs us e.1 (and_right _ _ h) b))
      (or_cases (spells w c) (any_spells cs) s)

  abbrev pub Fit : (List Piece → List Tree → Bool) → Label → List Tree → Tree → Type 0
  Fit test l cs t = kids_fit test l (map (piece decls tokens types env) cs) (out-Tree t) ≡ true → any_spells cs ≡ true → has_word w t ≡ true

  rows_law : (l : Label) (cs : List Tree) → Each Law cs → (t : Tree) → Fit all_fit l cs t
  rows_law l cs e = tree_cases (Fit all_fit l cs)
      (λ b h s. let f = sym (ap (kids_fit all_fit l (map (piece decls tokens types env) cs)) (out-Leaf b)) ∙ h in absurd (cc))
      (λ k us h s.
      let f = sym (ap (kids_fit all_fit l (map (piece decls tokens types env) cs)) (out-Branch k us)) ∙ h in
      word-kid w k us (kids_law cs us e (and_right _ _ f) s))

  sign_no_fit : (c t : Tree) → is_sign_tree c ≡ true → fits_tree decls tokens types env c t ≡ false
  sign_no_fit c t = tree_cases (λ c. is_sign_tree c ≡ true → fits_tree decls tokens types env c t ≡ false)
      (λ a h. fits-Leaf decls tokens types env a t ∙ false_and _ _ (sign_fits decls env types a.kind a t (sym (ap is_sign_at (out-Leaf a)) ∙ h)))
      (λ l cs h. let f = sym (ap is_sign_at (out-Branch l cs)) ∙ h in absurd (cc))
      c

  sign_no_word : (c : Tree) → is_sign_token (leaf_of (out-Tree c)) ≡ true → spells w c ≡ false
  sign_no_word = tree_cases (λ c. is_sign_token (leaf_of (out-Tree c)) ≡ true → spells w c ≡ false)
      (λ a h.
      let g : is_sign a.kind ≡ true = sym (ap (λ y. is_sign_token (leaf_of y)) (out-Leaf a)) ∙ h in
      spells-Leaf w a ∙ false_and _ _ (sign_word a.kind g))
      (λ l cs h. let f = sym (ap (λ y. is_sign_token (leaf_of y)) (out-Branch l cs)) ∙ h in absurd (cc))

  -- a sign fits nothing, and each branch of a disjunction spells what the disjunction spells
  some_law : (cs : List Tree) (t : Tree) → Each Law cs → list_any (λ p. p.fits t) (map (piece decls tokens types env) cs) ≡ true
      → list_all (λ c. is_sign_tree c || spells w c) cs ≡ true → has_word w t ≡ true
  some_law [] t e h s = absurd (cc)
  some_law (c ∷ cs) t e h s = ⊎_elim
      (λ f. ⊎_elim (λ g. let n = sign_no_fit c t g in absurd (cc)) (λ g. e.0 t f g) (or_cases (is_sign_tree c) (spells w c) (and_left _ _ s)))
      (λ f. some_law cs t e.1 f (and_right _ _ s))
      (or_cases (fits_tree decls tokens types env c t) (list_any (λ (p : Piece). p.fits t) (map (piece decls tokens types env) cs)) h)

  every_law : (cs : List Tree) (t : Tree) → Each Law cs
      → list_all (λ p. is_sign_token p.token || p.fits t) (map (piece decls tokens types env) cs) ≡ true → any_spells cs ≡ true → has_word w t ≡ true
  every_law [] t e h s = absurd (cc)
  every_law (c ∷ cs) t e h s = ⊎_elim
      (λ g. ⊎_elim
      (λ n.
      let z = sign_no_word c (sym (ap is_sign_token (piece-token decls tokens types env c)) ∙ n) in
      not_both (spells w c) g z)
      (λ f. e.0 t f g)
      (or_cases (is_sign_token (piece decls tokens types env c).token) (fits_tree decls tokens types env c t) (and_left _ _ h)))
      (λ g. every_law cs t e.1 (and_right _ _ h) g)
      (or_cases (spells w c) (any_spells cs) s)

  -- the case of lists
  abbrev pub ListLaw : Type 0
  ListLaw = (l : Label) (cs : List Tree) → Each Law cs → (t : Tree) → Fit (list_fits decls tokens env l) l cs t

  by_shape : ListLaw → (r : Shape) (l : Label) (cs : List Tree) → Each Law cs → (t : Tree)
      → fits_by decls tokens types env r l (map (piece decls tokens types env) cs) t ≡ true → spells_kids w r cs ≡ true → has_word w t ≡ true
  by_shape lists shape.Or l cs e t h s = some_law cs t e (and_right _ _ h) (and_right _ _ s)
  by_shape lists shape.And l cs e t h s = every_law cs t e (and_right _ _ h) s
  by_shape lists shape.List l cs e t h s = lists l cs e t h s
  by_shape lists shape.Plain l cs e t h s = rows_law l cs e t h s

  pub fit_law : ListLaw → (form : Tree) → Law form
  fit_law lists = tree_induction Law leaf_law
      (λ l cs e t h s. by_shape lists (shape_of l) l cs e t (sym (fits-Branch decls tokens types env l cs t) ∙ h) (sym (spells-Branch w l cs) ∙ s))
