-- The same at a node: each word that the compared part of a form spells is one of the subtree's tokens.
use Rattle.std.proofs.Common.{◌≡◌, ℕ, suc, zero, ◌+◌, Bool, true, false, ◌&&◌, ◌||◌, not, nat_eq, refl, sym, ap, ◌∙◌, List, []}
use Rattle.std.proofs.Common.{◌∷◌, map, length, Option, Some, None, slice_get, ⊎_elim, if◌then◌else◌}
use Rattle.std.specs.List.{list_any}
use Rattle.c_terms.specs.declared.token.Token.{Token}
use Rattle.c_terms.specs.declared.label.Label.{Label}
use Rattle.c_terms.specs.declared.label.Label.TheVariants as label
use Rattle.c_terms.specs.declared.shape.Shape.{Shape}
use Rattle.c_terms.specs.declared.shape.Shape.TheVariants as shape
use Rattle.c_terms.specs.declared.tree.Tree.{Tree, out-Tree}
use Rattle.c_terms.specs.declared.tree.Tree.TheVariants.{Leaf, Branch}
use Rattle.c_terms.specs.Places.{child}
use Rattle.c_terms.specs.Shapes.{shape_of, is_head_label, is_body, is_tail}
use Rattle.c_terms.proofs.PlaceLemmas.{child-Leaf, child-Branch}
use Rattle.c_terms.proofs.SameLemmas.{out-Leaf, out-Branch}
use Rattle.c_terms.proofs.Induct.{tree_cases}
use Rattle.c_types.specs.Tables.{ItemTypes}
use Rattle.smpl_terms.specs.Environments.{Environment}
use Rattle.cfg_build.specs.declared.cfg_graph.label.NodeKind.{NodeKind}
use Rattle.cfg_build.specs.declared.cfg_graph.label.NodeKind.TheVariants as kind
use Rattle.cfg_build.specs.CfgGraph.Own.{is_own}
use Rattle.smpl_patch.specs.declared.pattern.VarDecl.{VarDecl}
use Rattle.smpl_patch.specs.declared.pattern.PatToken.{PatToken}
use Rattle.smpl_patch.specs.declared.pattern.Spot.{Spot}
use Rattle.smpl_patch.specs.declared.pattern.Spot.TheVariants as spot
use Rattle.smpl_patch.specs.Held.{is_held, kept, held_at}
use Rattle.smpl_patch.specs.Patterns.{is_statement_token}
use Rattle.pat_match.specs.Fitting.{kids_fit, piece, fits_tree}
use Rattle.pat_match.specs.Spots.{is_open_brace, is_close_brace, is_statement_node, is_simple_node, is_tail_node}
use Rattle.pat_match.specs.Spots.{is_disjunction, last_at, open_brace, close_brace, own_fit, option_fits, own_fits}
use Rattle.pat_match.specs.Spots.{branch_whole, whole_at, fits_at}
use Rattle.ctl_fixpoint.specs.RequiredWords.Words.{has_word, spells, held_spells}
use Rattle.ctl_fixpoint.proofs.RequiredWords.WordLemmas.{and_left, and_right, or_cases, or_left, or_right, word-kid, spells_kids, spells-Branch}
use Rattle.ctl_fixpoint.proofs.RequiredWords.FitWords.{any_spells}
use Rattle.ctl_fixpoint.proofs.RequiredWords.ListWords.{fits_word}
use Rattle.pat_match.proofs.HeldLaw.{any_at, body-none, both_not, head-plain, kept-all, none_some, option_some, or_false, tail-none}

-- labels

child_has : (w : List ℕ) (i : ℕ) (u t : Tree) → child t i ≡ Some u → has_word w u ≡ true → has_word w t ≡ true
child_has w i u = tree_cases (λ t. child t i ≡ Some u → has_word w u ≡ true → has_word w t ≡ true)
    (λ a e h. absurd (none_some (sym (child-Leaf a i) ∙ e)))
    (λ l cs e h. word-kid w l cs (any_at (λ c. has_word w c) cs i u (sym (child-Branch l cs i) ∙ e) h))

last_has : (w : List ℕ) (u t : Tree) → last_at (out-Tree t) ≡ Some u → has_word w u ≡ true → has_word w t ≡ true
last_has w u = tree_cases (λ t. last_at (out-Tree t) ≡ Some u → has_word w u ≡ true → has_word w t ≡ true)
    (λ a e h. absurd (none_some (sym (ap last_at (out-Leaf a)) ∙ e)))
    (λ l cs e h. word-kid w l cs (any_at (λ c. has_word w c) cs _ u (sym (ap last_at (out-Branch l cs)) ∙ e) h))

open_has : (k : NodeKind) (w : List ℕ) (u t : Tree) → open_brace k t ≡ Some u → has_word w u ≡ true → has_word w t ≡ true
open_has kind.OpenBrace w u t e h = child_has w 0 u t e h
open_has _ w u t e h = absurd (none_some e)

close_has : (k : NodeKind) (w : List ℕ) (u t : Tree) → close_brace k t ≡ Some u → has_word w u ≡ true → has_word w t ≡ true
close_has kind.CloseBrace w u t e h = last_has w u t e h
close_has _ w u t e h = absurd (none_some e)

module _ (decls : List VarDecl) (tokens : List PatToken) (types : ItemTypes) (env : Environment) (w : List ℕ) where
  abbrev Gives : Tree → Tree → Type 0
  Gives form t = spells w form ≡ true → has_word w t ≡ true

  given : (form t : Tree) → fits_tree decls tokens types env form t ≡ true → Gives form t
  given form t h s = fits_word decls tokens types env w form t h s

  own_kids : (test : ℕ → Bool) (i : ℕ) (cs us : List Tree) → own_fit test i (map (piece decls tokens types env) cs) us ≡ true
      → any_spells decls tokens types env w (kept test i cs) ≡ true → list_any (λ u. has_word w u) us ≡ true
  own_kids test i [] us h s = absurd (cc)
  own_kids test i (c ∷ cs) [] h s = absurd (cc)
  own_kids test i (c ∷ cs) (u ∷ us) h s = by (test i) (and_left _ _ h) (own_kids test (suc i) cs us (and_right _ _ h)) s
    where
      by : (b : Bool) → (not b || fits_tree decls tokens types env c u) ≡ true
          → (any_spells decls tokens types env w (kept test (suc i) cs) ≡ true → list_any (λ u. has_word w u) us ≡ true)
          → any_spells decls tokens types env w (if b then c ∷ kept test (suc i) cs else kept test (suc i) cs) ≡ true
          → list_any (λ u. has_word w u) (u ∷ us) ≡ true
      by true f more s = ⊎_elim
          (λ a. or_left _ _ (given c u f a))
          (λ a. or_right _ _ (more a))
          (or_cases (spells w c) (any_spells decls tokens types env w (kept test (suc i) cs)) s)
      by false f more s = or_right _ _ (more s)

  abbrev OwnFit : NodeKind → Label → List Tree → Tree → Type 0
  OwnFit k l cs t = kids_fit (own_fit (is_own k l (length cs)) 0) l (map (piece decls tokens types env) cs) (out-Tree t) ≡ true
      → any_spells decls tokens types env w (kept (is_own k l (length cs)) 0 cs) ≡ true → has_word w t ≡ true

  own_law : (k : NodeKind) (l : Label) (cs : List Tree) (t : Tree) → OwnFit k l cs t
  own_law k l cs = tree_cases (OwnFit k l cs)
      (λ b h s. let f = sym (ap (kids_fit (own_fit (is_own k l (length cs)) 0) l (map (piece decls tokens types env) cs)) (out-Leaf b)) ∙ h in absurd (cc))
      (λ j us h s.
      let f = sym (ap (kids_fit (own_fit (is_own k l (length cs)) 0) l (map (piece decls tokens types env) cs)) (out-Branch j us)) ∙ h in
      word-kid w j us (own_kids (is_own k l (length cs)) 0 cs us (and_right _ _ f) s))

  -- if a branch other than a disjunction spells a word, some child spells it
  by_shape : (r : Shape) (cs : List Tree) → not (is_disjunction r) ≡ true → spells_kids w r cs ≡ true → any_spells decls tokens types env w cs ≡ true
  by_shape shape.Or cs n s = absurd (cc)
  by_shape shape.And cs n s = s
  by_shape shape.List cs n s = s
  by_shape shape.Plain cs n s = s

  any_kept : (test : ℕ → Bool) (i : ℕ) (cs : List Tree) → any_spells decls tokens types env w (kept test i cs) ≡ true
      → any_spells decls tokens types env w cs ≡ true
  any_kept test i [] s = s
  any_kept test i (c ∷ cs) s = by (test i) (any_kept test (suc i) cs) s
    where
      by : (b : Bool) → (any_spells decls tokens types env w (kept test (suc i) cs) ≡ true → any_spells decls tokens types env w cs ≡ true)
          → any_spells decls tokens types env w (if b then c ∷ kept test (suc i) cs else kept test (suc i) cs) ≡ true
          → any_spells decls tokens types env w (c ∷ cs) ≡ true
      by true more s = ⊎_elim (λ a. or_left _ _ a) (λ a. or_right _ _ (more a))
          (or_cases (spells w c) (any_spells decls tokens types env w (kept test (suc i) cs)) s)
      by false more s = or_right _ _ (more s)

  -- a branch at spot Whole: the head's own children if its label has bodies, else the branch itself
  abbrev held_whole : Bool → Label → List Tree → Bool
  held_whole b l cs = any_spells decls tokens types env w (if b then kept (is_held spot.Whole l (length cs)) 0 cs else Branch l cs ∷ [])

  branch_spells : (b : Bool) (l : Label) (cs : List Tree) → is_head_label l ≡ b → held_whole b l cs ≡ true → spells w (Branch l cs) ≡ true
  branch_spells true l cs e s = spells-Branch w l cs ∙ ap (λ r. spells_kids w r cs) (head-plain l e) ∙ any_kept (is_held spot.Whole l (length cs)) 0 cs s
  branch_spells false l cs e s = or_false (spells w (Branch l cs)) s

  own_spells : (b : Bool) (l : Label) (cs : List Tree) → is_head_label l ≡ b → not (is_disjunction (shape_of l)) ≡ true → held_whole b l cs ≡ true
      → any_spells decls tokens types env w (kept (is_own kind.Head l (length cs)) 0 cs) ≡ true
  own_spells true l cs e n s = s
  own_spells false l cs e n s =
      let all = kept-all (is_own kind.Head l (length cs)) 0 cs (λ j. both_not _ _ (body-none l (length cs) j e) (tail-none l j e)) in
      ap (any_spells decls tokens types env w) all
      ∙ by_shape (shape_of l) cs n (sym (spells-Branch w l cs) ∙ or_false (spells w (Branch l cs)) s)

  abbrev OwnFits : NodeKind → Tree → Label → List Tree → Type 0
  OwnFits k t l cs = (not (is_disjunction (shape_of l))
      && kids_fit (own_fit (is_own k l (length cs)) 0) l (map (piece decls tokens types env) cs) (out-Tree t)) ≡ true

  own_layer : (k : NodeKind) (l : Label) (cs : List Tree) (t : Tree) → own_fits decls tokens types env k (out-Tree (Branch l cs)) t ≡ true → OwnFits k t l cs
  own_layer k l cs t h = sym (ap (λ y. own_fits decls tokens types env k y t) (out-Branch l cs)) ∙ h

  branch_law : (k : NodeKind) (l : Label) (cs : List Tree) (t : Tree) → branch_whole decls tokens types env k (Branch l cs) t ≡ true
      → held_whole (is_head_label l) l cs ≡ true → has_word w t ≡ true
  branch_law kind.Simple l cs t h s = given (Branch l cs) t h (branch_spells (is_head_label l) l cs refl s)
  branch_law kind.Head l cs t h s =
      let f = own_layer kind.Head l cs t h in own_law kind.Head l cs t (and_right _ _ f) (own_spells (is_head_label l) l cs refl (and_left _ _ f) s)
  branch_law kind.FunHead l cs t h s =
      let f = own_layer kind.FunHead l cs t h in own_law kind.FunHead l cs t (and_right _ _ f) (own_spells (is_head_label l) l cs refl (and_left _ _ f) s)
  branch_law _ l cs t h s = absurd (cc)

  token_law : (k : NodeKind) (a : Token) (form t : Tree) (p q r : Bool)
      → (if p then option_fits (fits_tree decls tokens types env form) (open_brace k t)
      else if q then option_fits (fits_tree decls tokens types env form) (close_brace k t)
      else if r then is_statement_node k && fits_tree decls tokens types env form t
      else is_simple_node k && fits_tree decls tokens types env form t) ≡ true
      → Gives form t
  token_law k a form t true q r h s =
      let u = option_some (fits_tree decls tokens types env form) (open_brace k t) h in open_has k w u.0 t u.1 (given form u.0 u.2 s)
  token_law k a form t false true r h s =
      let u = option_some (fits_tree decls tokens types env form) (close_brace k t) h in close_has k w u.0 t u.1 (given form u.0 u.2 s)
  token_law k a form t false false true h s = given form t (and_right _ _ h) s
  token_law k a form t false false false h s = given form t (and_right _ _ h) s

  abbrev At : Spot → NodeKind → Tree → Tree → Type 0
  At s k t form = fits_at decls tokens types env s k form t ≡ true → held_spells w s form ≡ true → has_word w t ≡ true

  whole_law : (k : NodeKind) (t form : Tree) → At spot.Whole k t form
  whole_law k t = tree_cases (At spot.Whole k t)
      (λ a h s.
      let f = sym (ap (λ y. whole_at decls tokens types env k y (Leaf a) t) (out-Leaf a)) ∙ h in
      let g = sym (ap (λ y. any_spells decls tokens types env w (held_at spot.Whole y (Leaf a))) (out-Leaf a)) ∙ s in
      token_law k a (Leaf a) t (is_open_brace a) (is_close_brace a) (is_statement_token a.kind) f (or_false (spells w (Leaf a)) g))
      (λ l cs h s.
      let f = sym (ap (λ y. whole_at decls tokens types env k y (Branch l cs) t) (out-Branch l cs)) ∙ h in
      let g = sym (ap (λ y. any_spells decls tokens types env w (held_at spot.Whole y (Branch l cs))) (out-Branch l cs)) ∙ s in
      branch_law k l cs t f g)

  tail_law : (k : NodeKind) (t form : Tree) → At spot.Tail k t form
  tail_law k t = tree_cases (At spot.Tail k t)
      (λ a h s. let f : false ≡ true = sym (ap (λ y. own_fits decls tokens types env kind.DoTail y t) (out-Leaf a))
      ∙ and_right (is_tail_node k) (own_fits decls tokens types env kind.DoTail (out-Tree (Leaf a)) t) h in absurd (cc))
      (λ l cs h s.
      let f = own_layer kind.DoTail l cs t (and_right _ _ h) in
      own_law kind.DoTail l cs t (and_right _ _ f) (sym (ap (λ y. any_spells decls tokens types env w (held_at spot.Tail y (Branch l cs))) (out-Branch l cs))
      ∙ s))

  inside_law : (k : NodeKind) (t form : Tree) → At spot.Inside k t form
  inside_law k t = tree_cases (At spot.Inside k t)
      (λ a h s. given (Leaf a) t h (or_false (spells w (Leaf a))
      (sym (ap (λ y. any_spells decls tokens types env w (held_at spot.Inside y (Leaf a))) (out-Leaf a)) ∙ s)))
      (λ l cs h s. given (Branch l cs) t h (or_false (spells w (Branch l cs))
      (sym (ap (λ y. any_spells decls tokens types env w (held_at spot.Inside y (Branch l cs))) (out-Branch l cs)) ∙ s)))

-- if a form fits a subtree at a node, each word that the compared part of the form spells is one of the subtree's tokens
pub held_has_word : (decls : List VarDecl) (tokens : List PatToken) (types : ItemTypes) (env : Environment) (w : List ℕ) (s : Spot) (k : NodeKind)
    (form t : Tree)
    → fits_at decls tokens types env s k form t ≡ true → held_spells w s form ≡ true → has_word w t ≡ true
held_has_word decls tokens types env w spot.Whole k form t h s = whole_law decls tokens types env w k t form h s
held_has_word decls tokens types env w spot.Tail k form t h s = tail_law decls tokens types env w k t form h s
held_has_word decls tokens types env w spot.Inside k form t h s = inside_law decls tokens types env w k t form h s
