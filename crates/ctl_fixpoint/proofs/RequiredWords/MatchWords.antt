-- If a pattern matches at a node, each word that all its forms spell is one of the label's tokens.
use Rattle.std.proofs.Common.{◌≡◌, ℕ, suc, Bool, true, false, ◌&&◌, refl, sym, ap, ◌∙◌, List, [], ◌∷◌, length, ⊎_elim, if◌then◌else◌}
use Rattle.std.specs.List.{list_any}
use Rattle.std.proofs.lemmas.List.Folds.{list_any-append}
use Rattle.c_terms.specs.declared.label.Label.{Label}
use Rattle.c_terms.specs.declared.tree.Tree.{Tree, out-Tree}
use Rattle.c_terms.specs.Places.{Place, parts}
use Rattle.c_terms.specs.Shapes.{is_expression_part}
use Rattle.c_terms.proofs.Induct.{Each, tree_induction, tree_cases}
use Rattle.c_terms.proofs.PlaceLaws.{parts-Leaf, parts-Branch}
use Rattle.c_terms.proofs.SameLemmas.{out-Leaf, out-Branch}
use Rattle.c_types.specs.Tables.{ItemTypes}
use Rattle.smpl_terms.specs.Environments.{Environment}
use Rattle.cfg_build.specs.declared.cfg_graph.label.NodeKind.{NodeKind}
use Rattle.cfg_build.specs.declared.cfg_graph.label.NodeLabel.{NodeLabel}
use Rattle.cfg_build.specs.CfgGraph.Own.{is_own}
use Rattle.smpl_patch.specs.declared.pattern.VarDecl.{VarDecl}
use Rattle.smpl_patch.specs.declared.pattern.PatToken.{PatToken}
use Rattle.smpl_patch.specs.declared.pattern.Pattern.{Pattern}
use Rattle.smpl_patch.specs.declared.pattern.Spot.{Spot}
use Rattle.smpl_patch.specs.declared.pattern.Spot.TheVariants as spot
use Rattle.pat_match.specs.Spots.{seats, parts_of_child, own_parts_from, own_parts}
use Rattle.pat_match.specs.Roles.{role_of}
use Rattle.pat_match.specs.Matching.{fits_seat, matches}
use Rattle.pat_match.proofs.InsideLemmas.{kids_parts, any-child}
use Rattle.ctl_fixpoint.proofs.CtlHolds.TestLemmas.{any_found, all_has, any_weaker}
use Rattle.ctl_fixpoint.specs.RequiredWords.Words.{has_word, held_spells, spelled}
use Rattle.ctl_fixpoint.proofs.RequiredWords.WordLemmas.{and_right, or_cases, or_left, or_right, not_both, word-kid}
use Rattle.ctl_fixpoint.proofs.RequiredWords.HeldWords.{held_has_word}

-- a word of a subtree that a form is compared with is a word of the tree

module _ (w : List ℕ) where
  abbrev pub here : Place → Bool
  here s = has_word w s.tree

  abbrev InParts : Tree → Type 0
  InParts t = list_any here (parts is_expression_part t) ≡ true → has_word w t ≡ true

  child-word : (l : Label) (i : ℕ) (c : Tree) → InParts c → list_any here (parts_of_child l i c) ≡ true → has_word w c ≡ true
  child-word l i c h e = ⊎_elim
      (λ a. and_right (is_expression_part l i c) (has_word w c) a)
      (λ b. h b)
      (or_cases (is_expression_part l i c && has_word w c) (list_any here (parts is_expression_part c))
      (sym (any-child (λ t. has_word w t) l i c) ∙ e))

  kids-word : (l : Label) (i : ℕ) (cs : List Tree) → Each InParts cs → list_any here (kids_parts l i cs) ≡ true
      → list_any (has_word w) cs ≡ true
  kids-word l i [] e h = absurd (cc)
  kids-word l i (c ∷ cs) e h = ⊎_elim
      (λ a. or_left _ _ (child-word l i c e.0 a))
      (λ b. or_right _ _ (kids-word l (suc i) cs e.1 b))
      (or_cases (list_any here (parts_of_child l i c)) (list_any here (kids_parts l (suc i) cs))
      (sym (list_any-append here (parts_of_child l i c) (kids_parts l (suc i) cs)) ∙ h))

  parts-word : (t : Tree) → InParts t
  parts-word = tree_induction InParts
      (λ a h. not_both false (sym (ap (list_any here) (parts-Leaf is_expression_part a)) ∙ h) refl)
      (λ l cs e h. word-kid w l cs (kids-word l 0 cs e (sym (ap (list_any here) (parts-Branch is_expression_part l cs)) ∙ h)))

  own-child : (b : Bool) (l : Label) (i : ℕ) (c : Tree) → list_any here (if b then parts_of_child l i c else []) ≡ true
      → has_word w c ≡ true
  own-child true l i c h = child-word l i c (parts-word c) h
  own-child false l i c h = absurd (cc)

  own-word : (test : ℕ → Bool) (l : Label) (i : ℕ) (cs : List Tree) → list_any here (own_parts_from test l i cs) ≡ true
      → list_any (has_word w) cs ≡ true
  own-word test l i [] h = absurd (cc)
  own-word test l i (c ∷ cs) h = ⊎_elim
      (λ a. or_left _ _ (own-child (test i) l i c a))
      (λ b. or_right _ _ (own-word test l (suc i) cs b))
      (or_cases (list_any here (if test i then parts_of_child l i c else [])) (list_any here (own_parts_from test l (suc i) cs))
      (sym (list_any-append here (if test i then parts_of_child l i c else []) (own_parts_from test l (suc i) cs)) ∙ h))

  inside-word : (k : NodeKind) (t : Tree) → list_any here (own_parts k (out-Tree t)) ≡ true → has_word w t ≡ true
  inside-word k = tree_cases (λ t. list_any here (own_parts k (out-Tree t)) ≡ true → has_word w t ≡ true)
      (λ a h. not_both false (sym (ap (λ y. list_any here (own_parts k y)) (out-Leaf a)) ∙ h) refl)
      (λ l cs h. word-kid w l cs
      (own-word (is_own k l (length cs)) l 0 cs (sym (ap (λ y. list_any here (own_parts k y)) (out-Branch l cs)) ∙ h)))

  pub seat-word : (s : Spot) (k : NodeKind) (t : Tree) → list_any here (seats s k t) ≡ true → has_word w t ≡ true
  seat-word spot.Inside k t h = inside-word k t h
  seat-word spot.Whole k t h = ⊎_elim (λ a. a) (λ b. not_both false b refl) (or_cases (has_word w t) false h)
  seat-word spot.Tail k t h = ⊎_elim (λ a. a) (λ b. not_both false b refl) (or_cases (has_word w t) false h)

module _ (decls : List VarDecl) (tokens : List PatToken) (types : ItemTypes) (env : Environment) (w : List ℕ) where
  pub match_word : (p : Pattern) (l : NodeLabel) → spelled w p ≡ true → matches decls tokens types env p l ≡ true → has_word w l.tree ≡ true
  match_word p l e h =
      let f = any_found
      (λ f. list_any (λ (s : Place). fits_seat decls tokens types env p (role_of l) f s.tree) (seats p.spot l.kind l.tree)) p.forms h in
      let g : held_spells w p.spot f.0 ≡ true = all_has (held_spells w p.spot) f.0 p.forms f.1 (and_right _ _ e) in
      seat-word w p.spot l.kind l.tree
      (any_weaker (λ (s : Place). fits_seat decls tokens types env p (role_of l) f.0 s.tree) (here w) (seats p.spot l.kind l.tree)
      (λ s c q. held_has_word decls tokens types env w p.spot l.kind f.0 s.tree (and_right _ _ q) g) f.2)
