-- If a form fits at a node, each sure variable of its compared part that is no position has a term.
use Rattle.std.proofs.Common.{◌≡◌, ℕ, suc, Bool, true, false, ◌&&◌, ◌||◌, not, refl, sym, ap, ◌∙◌, List, [], ◌∷◌, map, length, Option}
use Rattle.std.proofs.Common.{Some, None, ⊎_elim, if◌then◌else◌}
use Rattle.c_terms.specs.declared.label.Label.{Label}
use Rattle.c_terms.specs.declared.label.Label.TheVariants as label
use Rattle.c_terms.specs.declared.shape.Shape.{Shape}
use Rattle.c_terms.specs.declared.shape.Shape.TheVariants as shape
use Rattle.c_terms.specs.declared.tree.Tree.{Tree, out-Tree}
use Rattle.c_terms.specs.declared.tree.Tree.TheVariants.{Leaf, Branch}
use Rattle.c_terms.specs.Shapes.{shape_of, is_head_label}
use Rattle.c_terms.proofs.SameLemmas.{out-Leaf, out-Branch}
use Rattle.c_terms.proofs.Induct.{tree_cases}
use Rattle.c_types.specs.Tables.{ItemTypes}
use Rattle.smpl_terms.specs.declared.var.Var.{Var}
use Rattle.smpl_terms.specs.Environments.{Environment}
use Rattle.cfg_build.specs.declared.cfg_graph.label.NodeKind.{NodeKind}
use Rattle.cfg_build.specs.declared.cfg_graph.label.NodeKind.TheVariants as kind
use Rattle.cfg_build.specs.CfgGraph.Own.{is_own}
use Rattle.smpl_patch.specs.declared.pattern.VarDecl.{VarDecl}
use Rattle.smpl_patch.specs.declared.pattern.PatToken.{PatToken}
use Rattle.smpl_patch.specs.declared.pattern.Spot.{Spot}
use Rattle.smpl_patch.specs.declared.pattern.Spot.TheVariants as spot
use Rattle.smpl_patch.specs.Held.{is_held, kept, held_at}
use Rattle.smpl_patch.specs.Patterns.{is_statement_token, is_sure, held_sure}
use Rattle.smpl_patch.proofs.SureLemmas.{sure_kids, sure-Branch}
use Rattle.pat_match.specs.Fitting.{kids_fit, piece, fits_tree}
use Rattle.pat_match.specs.Spots.{is_open_brace, is_close_brace, is_statement_node, is_simple_node, is_tail_node, is_disjunction, open_brace}
use Rattle.pat_match.specs.Spots.{close_brace, own_fit, option_fits, own_fits, branch_whole, whole_at, fits_at}
use Rattle.ctl_fixpoint.proofs.CtlHolds.TestLemmas.{or_cases, or_left, or_right, and_left, and_right, not_both}
use Rattle.insert_laws.specs.TermLaws.Terms.{is_term, IsNoPosition}
use Rattle.insert_laws.proofs.TermLaws.FitLemmas.{HasTerm, any_sure, tree_law}
use Rattle.pat_match.proofs.HeldLaw.{body-none, both_not, head-plain, kept-all, tail-none}

-- labels

or_nothing : (a : Bool) → (a || false) ≡ true → a ≡ true
or_nothing true h = refl
or_nothing false h = h

option_some : (q : Tree → Bool) (o : Option Tree) → option_fits q o ≡ true → (u : Tree) × (q u ≡ true)
option_some q None h = absurd (cc)
option_some q (Some u) h = (u, h)

module _ (decls : List VarDecl) (tokens : List PatToken) (types : ItemTypes) (env : Environment) (x : Var) (off : IsNoPosition tokens x) where
  abbrev Given : Type 0
  Given = HasTerm decls tokens types env x off

  abbrev any : List Tree → Bool
  any cs = any_sure decls tokens types env x off cs

  given : (form t : Tree) → fits_tree decls tokens types env form t ≡ true → is_sure decls tokens x form ≡ true → Given
  given form t h s = tree_law decls tokens types env x off form t h s

  own_kids : (test : ℕ → Bool) (i : ℕ) (cs us : List Tree) → own_fit test i (map (piece decls tokens types env) cs) us ≡ true
      → any (kept test i cs) ≡ true → Given
  own_kids test i [] us h s = not_both false s refl
  own_kids test i (c ∷ cs) [] h s = not_both false h refl
  own_kids test i (c ∷ cs) (u ∷ us) h s = by (test i) (and_left _ _ h) (own_kids test (suc i) cs us (and_right _ _ h)) s
    where
      by : (b : Bool) → (not b || fits_tree decls tokens types env c u) ≡ true
          → (any (kept test (suc i) cs) ≡ true → Given)
          → any (if b then c ∷ kept test (suc i) cs else kept test (suc i) cs) ≡ true → Given
      by true f more s = ⊎_elim (λ a. given c u f a) (λ a. more a) (or_cases (is_sure decls tokens x c) (any (kept test (suc i) cs)) s)
      by false f more s = more s

  abbrev OwnFit : NodeKind → Label → List Tree → Tree → Type 0
  OwnFit k l cs t = kids_fit (own_fit (is_own k l (length cs)) 0) l (map (piece decls tokens types env) cs) (out-Tree t) ≡ true
      → any (kept (is_own k l (length cs)) 0 cs) ≡ true → Given

  own_law : (k : NodeKind) (l : Label) (cs : List Tree) (t : Tree) → OwnFit k l cs t
  own_law k l cs = tree_cases (OwnFit k l cs)
      (λ b h s. not_both false (sym (ap (kids_fit (own_fit (is_own k l (length cs)) 0) l (map (piece decls tokens types env) cs)) (out-Leaf b)) ∙ h) refl)
      (λ j us h s.
      let f = sym (ap (kids_fit (own_fit (is_own k l (length cs)) 0) l (map (piece decls tokens types env) cs)) (out-Branch j us)) ∙ h in
      own_kids (is_own k l (length cs)) 0 cs us (and_right _ _ f) s)

  -- what is sure in a branch that is no disjunction is so in a child
  by_shape : (r : Shape) (cs : List Tree) → not (is_disjunction r) ≡ true → sure_kids decls tokens x r cs ≡ true → any cs ≡ true
  by_shape shape.Or cs n s = absurd (cc)
  by_shape shape.And cs n s = s
  by_shape shape.List cs n s = s
  by_shape shape.Plain cs n s = s

  any_kept : (test : ℕ → Bool) (i : ℕ) (cs : List Tree) → any (kept test i cs) ≡ true → any cs ≡ true
  any_kept test i [] s = s
  any_kept test i (c ∷ cs) s = by (test i) (any_kept test (suc i) cs) s
    where
      by : (b : Bool) → (any (kept test (suc i) cs) ≡ true → any cs ≡ true)
          → any (if b then c ∷ kept test (suc i) cs else kept test (suc i) cs) ≡ true → any (c ∷ cs) ≡ true
      by true more s = ⊎_elim (λ a. or_left _ _ a) (λ a. or_right _ _ (more a)) (or_cases (is_sure decls tokens x c) (any (kept test (suc i) cs)) s)
      by false more s = or_right _ _ (more s)

  -- a branch at spot Whole: the head's own children where its label has bodies, else the branch itself
  abbrev held_whole : Bool → Label → List Tree → Bool
  held_whole b l cs = any (if b then kept (is_held spot.Whole l (length cs)) 0 cs else Branch l cs ∷ [])

  branch_sure : (b : Bool) (l : Label) (cs : List Tree) → is_head_label l ≡ b → held_whole b l cs ≡ true → is_sure decls tokens x (Branch l cs) ≡ true
  branch_sure true l cs e s =
      sure-Branch decls tokens x l cs
      ∙ ap (λ r. sure_kids decls tokens x r cs) (head-plain l e)
      ∙ any_kept (is_held spot.Whole l (length cs)) 0 cs s
  branch_sure false l cs e s = or_nothing (is_sure decls tokens x (Branch l cs)) s

  own_sure : (b : Bool) (l : Label) (cs : List Tree) → is_head_label l ≡ b → not (is_disjunction (shape_of l)) ≡ true → held_whole b l cs ≡ true
      → any (kept (is_own kind.Head l (length cs)) 0 cs) ≡ true
  own_sure true l cs e n s = s
  own_sure false l cs e n s =
      let all = kept-all (is_own kind.Head l (length cs)) 0 cs (λ j. both_not _ _ (body-none l (length cs) j e) (tail-none l j e)) in
      ap any all
      ∙ by_shape (shape_of l) cs n (sym (sure-Branch decls tokens x l cs) ∙ or_nothing (is_sure decls tokens x (Branch l cs)) s)

  abbrev OwnFits : NodeKind → Tree → Label → List Tree → Type 0
  OwnFits k t l cs = (not (is_disjunction (shape_of l))
      && kids_fit (own_fit (is_own k l (length cs)) 0) l (map (piece decls tokens types env) cs) (out-Tree t)) ≡ true

  own_layer : (k : NodeKind) (l : Label) (cs : List Tree) (t : Tree) → own_fits decls tokens types env k (out-Tree (Branch l cs)) t ≡ true → OwnFits k t l cs
  own_layer k l cs t h = sym (ap (λ y. own_fits decls tokens types env k y t) (out-Branch l cs)) ∙ h

  branch_law : (k : NodeKind) (l : Label) (cs : List Tree) (t : Tree) → branch_whole decls tokens types env k (Branch l cs) t ≡ true
      → held_whole (is_head_label l) l cs ≡ true → Given
  branch_law kind.Simple l cs t h s = given (Branch l cs) t h (branch_sure (is_head_label l) l cs refl s)
  branch_law kind.Head l cs t h s =
      let f = own_layer kind.Head l cs t h in
      own_law kind.Head l cs t (and_right _ _ f) (own_sure (is_head_label l) l cs refl (and_left _ _ f) s)
  branch_law kind.FunHead l cs t h s =
      let f = own_layer kind.FunHead l cs t h in
      own_law kind.FunHead l cs t (and_right _ _ f) (own_sure (is_head_label l) l cs refl (and_left _ _ f) s)
  branch_law _ l cs t h s = absurd (cc)

  token_law : (k : NodeKind) (form t : Tree) (p q r : Bool)
      → (if p then option_fits (fits_tree decls tokens types env form) (open_brace k t)
      else if q then option_fits (fits_tree decls tokens types env form) (close_brace k t)
      else if r then is_statement_node k && fits_tree decls tokens types env form t
      else is_simple_node k && fits_tree decls tokens types env form t) ≡ true
      → is_sure decls tokens x form ≡ true → Given
  token_law k form t true q r h s = let u = option_some (fits_tree decls tokens types env form) (open_brace k t) h in given form u.0 u.1 s
  token_law k form t false true r h s = let u = option_some (fits_tree decls tokens types env form) (close_brace k t) h in given form u.0 u.1 s
  token_law k form t false false true h s = given form t (and_right _ _ h) s
  token_law k form t false false false h s = given form t (and_right _ _ h) s

  abbrev At : Spot → NodeKind → Tree → Tree → Type 0
  At s k t form = fits_at decls tokens types env s k form t ≡ true → held_sure decls tokens s x form ≡ true → Given

  whole_law : (k : NodeKind) (t form : Tree) → At spot.Whole k t form
  whole_law k t = tree_cases (At spot.Whole k t)
      (λ a h s.
      let f = sym (ap (λ y. whole_at decls tokens types env k y (Leaf a) t) (out-Leaf a)) ∙ h in
      let g = sym (ap (λ y. any (held_at spot.Whole y (Leaf a))) (out-Leaf a)) ∙ s in
      token_law k (Leaf a) t (is_open_brace a) (is_close_brace a) (is_statement_token a.kind) f (or_nothing (is_sure decls tokens x (Leaf a)) g))
      (λ l cs h s.
      let f = sym (ap (λ y. whole_at decls tokens types env k y (Branch l cs) t) (out-Branch l cs)) ∙ h in
      let g = sym (ap (λ y. any (held_at spot.Whole y (Branch l cs))) (out-Branch l cs)) ∙ s in
      branch_law k l cs t f g)

  tail_law : (k : NodeKind) (t form : Tree) → At spot.Tail k t form
  tail_law k t = tree_cases (At spot.Tail k t)
      (λ a h s. not_both false (sym (ap (λ y. own_fits decls tokens types env kind.DoTail y t) (out-Leaf a))
      ∙ and_right (is_tail_node k) (own_fits decls tokens types env kind.DoTail (out-Tree (Leaf a)) t) h) refl)
      (λ l cs h s.
      let f = own_layer kind.DoTail l cs t (and_right _ _ h) in
      own_law kind.DoTail l cs t (and_right _ _ f) (sym (ap (λ y. any (held_at spot.Tail y (Branch l cs))) (out-Branch l cs)) ∙ s))

  inside_law : (k : NodeKind) (t form : Tree) → At spot.Inside k t form
  inside_law k t = tree_cases (At spot.Inside k t)
      (λ a h s. given (Leaf a) t h (or_nothing (is_sure decls tokens x (Leaf a)) (sym (ap (λ y. any (held_at spot.Inside y (Leaf a))) (out-Leaf a)) ∙ s)))
      (λ l cs h s. given (Branch l cs) t h (or_nothing (is_sure decls tokens x (Branch l cs))
      (sym (ap (λ y. any (held_at spot.Inside y (Branch l cs))) (out-Branch l cs)) ∙ s)))

-- where a form fits a subtree at a node, each sure variable of what is compared of it that is no position has a term
pub held_has_term : (decls : List VarDecl) (tokens : List PatToken) (types : ItemTypes) (env : Environment) (x : Var) (s : Spot) (k : NodeKind) (form t : Tree)
    → IsNoPosition tokens x → fits_at decls tokens types env s k form t ≡ true → held_sure decls tokens s x form ≡ true → is_term (env x) ≡ true
held_has_term decls tokens types env x spot.Whole k form t off h s = whole_law decls tokens types env x off k t form h s
held_has_term decls tokens types env x spot.Tail k form t off h s = tail_law decls tokens types env x off k t form h s
held_has_term decls tokens types env x spot.Inside k form t off h s = inside_law decls tokens types env x off k t form h s
