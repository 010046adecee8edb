-- The same at a node: each sure variable of the compared part of a form has a value of the subtree.
use Rattle.std.proofs.Common.{◌≡◌, ℕ, suc, zero, ◌+◌, Bool, true, false, ◌&&◌, ◌||◌, not, nat_eq, refl, sym, ap, ◌∙◌, List, []}
use Rattle.std.proofs.Common.{◌∷◌, map, length, Option, Some, None, slice_get, ⊎_elim, if◌then◌else◌}
use Rattle.std.specs.List.{list_any}
use Rattle.c_terms.specs.declared.token.Token.{Token}
use Rattle.c_terms.specs.declared.label.Label.{Label}
use Rattle.c_terms.specs.declared.label.Label.TheVariants as label
use Rattle.c_terms.specs.declared.shape.Shape.{Shape}
use Rattle.c_terms.specs.declared.shape.Shape.TheVariants as shape
use Rattle.c_terms.specs.declared.tree.Tree.{Tree, out-Tree}
use Rattle.c_terms.specs.declared.tree.Tree.TheVariants.{Leaf, Branch}
use Rattle.c_terms.specs.Places.{child}
use Rattle.c_terms.specs.Shapes.{shape_of, is_head_label, is_body, is_tail}
use Rattle.c_terms.proofs.PlaceLemmas.{child-Leaf, child-Branch}
use Rattle.c_terms.proofs.SameLemmas.{out-Leaf, out-Branch}
use Rattle.c_terms.proofs.Induct.{tree_cases}
use Rattle.c_types.specs.Tables.{ItemTypes}
use Rattle.smpl_terms.specs.declared.var.Var.{Var}
use Rattle.smpl_terms.specs.declared.value.Value.{Value}
use Rattle.smpl_terms.specs.Environments.{Environment}
use Rattle.cfg_build.specs.declared.cfg_graph.label.NodeKind.{NodeKind}
use Rattle.cfg_build.specs.declared.cfg_graph.label.NodeKind.TheVariants as kind
use Rattle.cfg_build.specs.CfgGraph.Own.{is_own}
use Rattle.smpl_patch.specs.declared.pattern.VarDecl.{VarDecl}
use Rattle.smpl_patch.specs.declared.pattern.PatToken.{PatToken}
use Rattle.smpl_patch.specs.declared.pattern.Spot.{Spot}
use Rattle.smpl_patch.specs.declared.pattern.Spot.TheVariants as spot
use Rattle.smpl_patch.specs.Held.{is_held, kept, held_at}
use Rattle.smpl_patch.specs.Patterns.{is_statement_token, is_sure, held_sure}
use Rattle.smpl_patch.proofs.SureLemmas.{sure_kids, sure-Branch}
use Rattle.pat_match.specs.Fitting.{kids_fit, piece, fits_tree}
use Rattle.pat_match.specs.Spots.{is_open_brace, is_close_brace, is_statement_node, is_simple_node, is_tail_node}
use Rattle.pat_match.specs.Spots.{is_disjunction, last_at, open_brace, close_brace, own_fit, option_fits, own_fits}
use Rattle.pat_match.specs.Spots.{branch_whole, whole_at, fits_at}
use Rattle.pat_match.specs.Valued.{has_value}
use Rattle.pat_match.proofs.ValueLemmas.{and_left, and_right, or_cases, or_left, or_right, has-kid}
use Rattle.pat_match.proofs.SureLaw.{any_sure}
use Rattle.pat_match.proofs.SureLists.{sure_has_value}

-- labels

pub body-none : (l : Label) (n i : ℕ) → is_head_label l ≡ false → is_body l n i ≡ false
body-none label.IfElse n i h = absurd (cc)
body-none label.Do n i h = absurd (cc)
body-none _ n i h = ap (λ b. b && nat_eq (i + 1) n) h

pub tail-none : (l : Label) (i : ℕ) → is_head_label l ≡ false → is_tail l i ≡ false
tail-none label.Do i h = absurd (cc)
tail-none _ i h = refl

pub head-plain : (l : Label) → is_head_label l ≡ true → shape_of l ≡ shape.Plain
head-plain label.Args h = absurd (cc)
head-plain label.Params h = absurd (cc)
head-plain label.PatOr h = absurd (cc)
head-plain label.PatAnd h = absurd (cc)
head-plain _ h = refl

pub both_not : (a b : Bool) → a ≡ false → b ≡ false → (not a && not b) ≡ true
both_not true b h k = absurd (cc)
both_not false true h k = absurd (cc)
both_not false false h k = refl

pub kept-all : (test : ℕ → Bool) (i : ℕ) (cs : List Tree) → ((j : ℕ) → test j ≡ true) → kept test i cs ≡ cs
kept-all test i [] h = refl
kept-all test i (c ∷ cs) h =
    ap (λ b. if b then c ∷ kept test (suc i) cs else kept test (suc i) cs) (h i) ∙ ap (λ ds. c ∷ ds) (kept-all test (suc i) cs h)

pub or_false : (a : Bool) → (a || false) ≡ true → a ≡ true
or_false a h = ⊎_elim (λ b. b) (λ n. absurd (cc)) (or_cases a false h)

pub any_at : (q : Tree → Bool) (cs : List Tree) (i : ℕ) (u : Tree) → slice_get cs i ≡ Some u → q u ≡ true → list_any q cs ≡ true
any_at q [] i u e h = absurd (cc)
any_at q (c ∷ cs) zero u e h = let s : c ≡ u = cc in or_left _ _ (ap q s ∙ h)
any_at q (c ∷ cs) (suc i) u e h = or_right _ _ (any_at q cs i u e h)

pub none_some : {X : Type 0} {u : X} → None ≡ Some u → ⊥
none_some e = absurd (cc)

child_has : (v : Value) (i : ℕ) (u t : Tree) → child t i ≡ Some u → has_value u v ≡ true → has_value t v ≡ true
child_has v i u = tree_cases (λ t. child t i ≡ Some u → has_value u v ≡ true → has_value t v ≡ true)
    (λ a e h. absurd (none_some (sym (child-Leaf a i) ∙ e)))
    (λ l cs e h. has-kid l cs v (any_at (λ c. has_value c v) cs i u (sym (child-Branch l cs i) ∙ e) h))

last_has : (v : Value) (u t : Tree) → last_at (out-Tree t) ≡ Some u → has_value u v ≡ true → has_value t v ≡ true
last_has v u = tree_cases (λ t. last_at (out-Tree t) ≡ Some u → has_value u v ≡ true → has_value t v ≡ true)
    (λ a e h. absurd (none_some (sym (ap last_at (out-Leaf a)) ∙ e)))
    (λ l cs e h. has-kid l cs v (any_at (λ c. has_value c v) cs _ u (sym (ap last_at (out-Branch l cs)) ∙ e) h))

open_has : (k : NodeKind) (v : Value) (u t : Tree) → open_brace k t ≡ Some u → has_value u v ≡ true → has_value t v ≡ true
open_has kind.OpenBrace v u t e h = child_has v 0 u t e h
open_has _ v u t e h = absurd (none_some e)

close_has : (k : NodeKind) (v : Value) (u t : Tree) → close_brace k t ≡ Some u → has_value u v ≡ true → has_value t v ≡ true
close_has kind.CloseBrace v u t e h = last_has v u t e h
close_has _ v u t e h = absurd (none_some e)

pub option_some : (q : Tree → Bool) (o : Option Tree) → option_fits q o ≡ true → (u : Tree) × (o ≡ Some u) × (q u ≡ true)
option_some q None h = absurd (cc)
option_some q (Some u) h = (u, refl, h)

module _ (decls : List VarDecl) (tokens : List PatToken) (types : ItemTypes) (env : Environment) (x : Var) where
  abbrev Gives : Tree → Tree → Type 0
  Gives form t = is_sure decls tokens x form ≡ true → has_value t (env x) ≡ true

  given : (form t : Tree) → fits_tree decls tokens types env form t ≡ true → Gives form t
  given form t h s = sure_has_value decls tokens types env x form t h s

  own_kids : (test : ℕ → Bool) (i : ℕ) (cs us : List Tree) → own_fit test i (map (piece decls tokens types env) cs) us ≡ true
      → any_sure decls tokens types env x (kept test i cs) ≡ true → list_any (λ u. has_value u (env x)) us ≡ true
  own_kids test i [] us h s = absurd (cc)
  own_kids test i (c ∷ cs) [] h s = absurd (cc)
  own_kids test i (c ∷ cs) (u ∷ us) h s = by (test i) (and_left _ _ h) (own_kids test (suc i) cs us (and_right _ _ h)) s
    where
      by : (b : Bool) → (not b || fits_tree decls tokens types env c u) ≡ true
          → (any_sure decls tokens types env x (kept test (suc i) cs) ≡ true → list_any (λ u. has_value u (env x)) us ≡ true)
          → any_sure decls tokens types env x (if b then c ∷ kept test (suc i) cs else kept test (suc i) cs) ≡ true
          → list_any (λ u. has_value u (env x)) (u ∷ us) ≡ true
      by true f more s = ⊎_elim
          (λ a. or_left _ _ (given c u f a))
          (λ a. or_right _ _ (more a))
          (or_cases (is_sure decls tokens x c) (any_sure decls tokens types env x (kept test (suc i) cs)) s)
      by false f more s = or_right _ _ (more s)

  abbrev OwnFit : NodeKind → Label → List Tree → Tree → Type 0
  OwnFit k l cs t = kids_fit (own_fit (is_own k l (length cs)) 0) l (map (piece decls tokens types env) cs) (out-Tree t) ≡ true
      → any_sure decls tokens types env x (kept (is_own k l (length cs)) 0 cs) ≡ true → has_value t (env x) ≡ true

  own_law : (k : NodeKind) (l : Label) (cs : List Tree) (t : Tree) → OwnFit k l cs t
  own_law k l cs = tree_cases (OwnFit k l cs)
      (λ b h s. let f = sym (ap (kids_fit (own_fit (is_own k l (length cs)) 0) l (map (piece decls tokens types env) cs)) (out-Leaf b)) ∙ h in absurd (cc))
      (λ j us h s.
      let f = sym (ap (kids_fit (own_fit (is_own k l (length cs)) 0) l (map (piece decls tokens types env) cs)) (out-Branch j us)) ∙ h in
      has-kid j us (env x) (own_kids (is_own k l (length cs)) 0 cs us (and_right _ _ f) s))

  -- what is sure in a branch that is not a disjunction is sure in a child
  by_shape : (r : Shape) (cs : List Tree) → not (is_disjunction r) ≡ true → sure_kids decls tokens x r cs ≡ true → any_sure decls tokens types env x cs ≡ true
  by_shape shape.Or cs n s = absurd (cc)
  by_shape shape.And cs n s = s
  by_shape shape.List cs n s = s
  by_shape shape.Plain cs n s = s

  any_kept : (test : ℕ → Bool) (i : ℕ) (cs : List Tree) → any_sure decls tokens types env x (kept test i cs) ≡ true
      → any_sure decls tokens types env x cs ≡ true
  any_kept test i [] s = s
  any_kept test i (c ∷ cs) s = by (test i) (any_kept test (suc i) cs) s
    where
      by : (b : Bool) → (any_sure decls tokens types env x (kept test (suc i) cs) ≡ true → any_sure decls tokens types env x cs ≡ true)
          → any_sure decls tokens types env x (if b then c ∷ kept test (suc i) cs else kept test (suc i) cs) ≡ true
          → any_sure decls tokens types env x (c ∷ cs) ≡ true
      by true more s = ⊎_elim (λ a. or_left _ _ a) (λ a. or_right _ _ (more a))
          (or_cases (is_sure decls tokens x c) (any_sure decls tokens types env x (kept test (suc i) cs)) s)
      by false more s = or_right _ _ (more s)

  -- a branch at spot Whole: the head's own children if its label has bodies, and the branch itself otherwise
  abbrev held_whole : Bool → Label → List Tree → Bool
  held_whole b l cs = any_sure decls tokens types env x (if b then kept (is_held spot.Whole l (length cs)) 0 cs else Branch l cs ∷ [])

  branch_sure : (b : Bool) (l : Label) (cs : List Tree) → is_head_label l ≡ b → held_whole b l cs ≡ true → is_sure decls tokens x (Branch l cs) ≡ true
  branch_sure true l cs e s = sure-Branch decls tokens x l cs ∙ ap (λ r. sure_kids decls tokens x r cs) (head-plain l e)
      ∙ any_kept (is_held spot.Whole l (length cs)) 0 cs s
  branch_sure false l cs e s = or_false (is_sure decls tokens x (Branch l cs)) s

  own_sure : (b : Bool) (l : Label) (cs : List Tree) → is_head_label l ≡ b → not (is_disjunction (shape_of l)) ≡ true → held_whole b l cs ≡ true
      → any_sure decls tokens types env x (kept (is_own kind.Head l (length cs)) 0 cs) ≡ true
  own_sure true l cs e n s = s
  own_sure false l cs e n s =
      let all = kept-all (is_own kind.Head l (length cs)) 0 cs (λ j. both_not _ _ (body-none l (length cs) j e) (tail-none l j e)) in
      ap (any_sure decls tokens types env x) all
      ∙ by_shape (shape_of l) cs n (sym (sure-Branch decls tokens x l cs) ∙ or_false (is_sure decls tokens x (Branch l cs)) s)

  abbrev OwnFits : NodeKind → Tree → Label → List Tree → Type 0
  OwnFits k t l cs = (not (is_disjunction (shape_of l))
      && kids_fit (own_fit (is_own k l (length cs)) 0) l (map (piece decls tokens types env) cs) (out-Tree t)) ≡ true

  own_layer : (k : NodeKind) (l : Label) (cs : List Tree) (t : Tree) → own_fits decls tokens types env k (out-Tree (Branch l cs)) t ≡ true → OwnFits k t l cs
  own_layer k l cs t h = sym (ap (λ y. own_fits decls tokens types env k y t) (out-Branch l cs)) ∙ h

  branch_law : (k : NodeKind) (l : Label) (cs : List Tree) (t : Tree) → branch_whole decls tokens types env k (Branch l cs) t ≡ true
      → held_whole (is_head_label l) l cs ≡ true → has_value t (env x) ≡ true
  branch_law kind.Simple l cs t h s = given (Branch l cs) t h (branch_sure (is_head_label l) l cs refl s)
  branch_law kind.Head l cs t h s =
      let f = own_layer kind.Head l cs t h in own_law kind.Head l cs t (and_right _ _ f) (own_sure (is_head_label l) l cs refl (and_left _ _ f) s)
  branch_law kind.FunHead l cs t h s =
      let f = own_layer kind.FunHead l cs t h in own_law kind.FunHead l cs t (and_right _ _ f) (own_sure (is_head_label l) l cs refl (and_left _ _ f) s)
  branch_law _ l cs t h s = absurd (cc)

  token_law : (k : NodeKind) (a : Token) (form t : Tree) (p q r : Bool)
      → (if p then option_fits (fits_tree decls tokens types env form) (open_brace k t)
      else if q then option_fits (fits_tree decls tokens types env form) (close_brace k t)
      else if r then is_statement_node k && fits_tree decls tokens types env form t
      else is_simple_node k && fits_tree decls tokens types env form t) ≡ true
      → Gives form t
  token_law k a form t true q r h s =
      let u = option_some (fits_tree decls tokens types env form) (open_brace k t) h in open_has k (env x) u.0 t u.1 (given form u.0 u.2 s)
  token_law k a form t false true r h s =
      let u = option_some (fits_tree decls tokens types env form) (close_brace k t) h in close_has k (env x) u.0 t u.1 (given form u.0 u.2 s)
  token_law k a form t false false true h s = given form t (and_right _ _ h) s
  token_law k a form t false false false h s = given form t (and_right _ _ h) s

  abbrev At : Spot → NodeKind → Tree → Tree → Type 0
  At s k t form = fits_at decls tokens types env s k form t ≡ true → held_sure decls tokens s x form ≡ true → has_value t (env x) ≡ true

  whole_law : (k : NodeKind) (t form : Tree) → At spot.Whole k t form
  whole_law k t = tree_cases (At spot.Whole k t)
      (λ a h s.
      let f = sym (ap (λ y. whole_at decls tokens types env k y (Leaf a) t) (out-Leaf a)) ∙ h in
      let g = sym (ap (λ y. any_sure decls tokens types env x (held_at spot.Whole y (Leaf a))) (out-Leaf a)) ∙ s in
      token_law k a (Leaf a) t (is_open_brace a) (is_close_brace a) (is_statement_token a.kind) f (or_false (is_sure decls tokens x (Leaf a)) g))
      (λ l cs h s.
      let f = sym (ap (λ y. whole_at decls tokens types env k y (Branch l cs) t) (out-Branch l cs)) ∙ h in
      let g = sym (ap (λ y. any_sure decls tokens types env x (held_at spot.Whole y (Branch l cs))) (out-Branch l cs)) ∙ s in
      branch_law k l cs t f g)

  tail_law : (k : NodeKind) (t form : Tree) → At spot.Tail k t form
  tail_law k t = tree_cases (At spot.Tail k t)
      (λ a h s. let f : false ≡ true = sym (ap (λ y. own_fits decls tokens types env kind.DoTail y t) (out-Leaf a))
      ∙ and_right (is_tail_node k) (own_fits decls tokens types env kind.DoTail (out-Tree (Leaf a)) t) h in absurd (cc))
      (λ l cs h s.
      let f = own_layer kind.DoTail l cs t (and_right _ _ h) in
      own_law kind.DoTail l cs t (and_right _ _ f) (sym (ap (λ y. any_sure decls tokens types env x (held_at spot.Tail y (Branch l cs))) (out-Branch l cs))
      ∙ s))

  inside_law : (k : NodeKind) (t form : Tree) → At spot.Inside k t form
  inside_law k t = tree_cases (At spot.Inside k t)
      (λ a h s. given (Leaf a) t h (or_false (is_sure decls tokens x (Leaf a))
      (sym (ap (λ y. any_sure decls tokens types env x (held_at spot.Inside y (Leaf a))) (out-Leaf a)) ∙ s)))
      (λ l cs h s. given (Branch l cs) t h (or_false (is_sure decls tokens x (Branch l cs))
      (sym (ap (λ y. any_sure decls tokens types env x (held_at spot.Inside y (Branch l cs))) (out-Branch l cs)) ∙ s)))

-- if a form fits a subtree at a node, each sure variable of the compared part has a value of the subtree
pub held_has_value : (decls : List VarDecl) (tokens : List PatToken) (types : ItemTypes) (env : Environment) (x : Var) (s : Spot) (k : NodeKind) (form t : Tree)
    → fits_at decls tokens types env s k form t ≡ true → held_sure decls tokens s x form ≡ true → has_value t (env x) ≡ true
held_has_value decls tokens types env x spot.Whole k form t h s = whole_law decls tokens types env x k t form h s
held_has_value decls tokens types env x spot.Tail k form t h s = tail_law decls tokens types env x k t form h s
held_has_value decls tokens types env x spot.Inside k form t h s = inside_law decls tokens types env x k t form h s
