-- The pattern tokens of an alignment at a node are tokens of the compared part of the form.
use Rattle.std.proofs.Common.{◌≡◌, ℕ, suc, Bool, true, false, ◌&&◌, refl, sym, ap, ◌∙◌, arith, List, [], ◌∷◌, ◌++◌, map, length, Option, Some, None}
use Rattle.std.proofs.Common.{if◌then◌else◌}
use Rattle.std.specs.Prelude.{All}
use Rattle.std.proofs.lemmas.Bool.Decides.{nat_tests}
use Rattle.std.proofs.lemmas.List.Elements.{All-nil, All-cons}
use Rattle.c_terms.specs.declared.token.Token.{Token}
use Rattle.c_terms.specs.declared.label.Label.{Label}
use Rattle.c_terms.specs.declared.label.Label.TheVariants as label
use Rattle.c_terms.specs.declared.shape.Shape.TheVariants as shape
use Rattle.c_terms.specs.declared.tree.Tree.{Tree, out-Tree}
use Rattle.c_terms.specs.declared.tree.Tree.TheVariants.{Leaf, Branch}
use Rattle.c_terms.specs.Same.{same_label}
use Rattle.c_terms.specs.Shapes.{shape_of, is_head_label}
use Rattle.c_terms.proofs.NumberLaws.{label_number-injective}
use Rattle.c_terms.proofs.SameLemmas.{out-Leaf, out-Branch}
use Rattle.c_terms.proofs.Induct.{tree_cases}
use Rattle.c_types.specs.Tables.{ItemTypes}
use Rattle.cfg_build.specs.declared.cfg_graph.label.NodeKind.{NodeKind}
use Rattle.cfg_build.specs.declared.cfg_graph.label.NodeKind.TheVariants as kind
use Rattle.cfg_build.specs.CfgGraph.Own.{is_own}
use Rattle.smpl_terms.specs.Environments.{Environment}
use Rattle.smpl_patch.specs.declared.pattern.VarDecl.{VarDecl}
use Rattle.smpl_patch.specs.declared.pattern.PatToken.{PatToken}
use Rattle.smpl_patch.specs.declared.pattern.Spot.{Spot}
use Rattle.smpl_patch.specs.declared.pattern.Spot.TheVariants as spot
use Rattle.smpl_patch.specs.Held.{is_held, kept, held_at}
use Rattle.pat_match.specs.Runs.{Pair}
use Rattle.pat_match.specs.Fitting.{all_fit, kids_fit, kids_pairs, fits_by, piece, fits_tree, alignment}
use Rattle.pat_match.specs.Spots.{is_open_brace, is_close_brace, own_pairs, option_pairs, open_brace, close_brace, branch_whole, whole_at, fits_at}
use Rattle.pat_match.specs.Spots.{own_alignment, branch_alignment, whole_alignment, alignment_at}
use Rattle.pat_match.proofs.Pieces.{fits-Branch}
use Rattle.ctl_fixpoint.proofs.CtlHolds.TestLemmas.{or_left, or_right, and_left, not_both}
use Rattle.ctl_fixpoint.proofs.CtlHolds.AtomLemmas.{any_kept}
use Rattle.insert_laws.specs.AlignedLaws.Compared.{compared, IsCompared, is_head_at, is_head_tree, HasNoBodies}
use Rattle.insert_laws.proofs.AlignedLaws.PairLemmas.{some, has, any, has-Branch, split, tree_law}

head-plain : (l : Label) → is_head_label l ≡ true → shape_of l ≡ shape.Plain
head-plain label.Args h = absurd (cc)
head-plain label.Params h = absurd (cc)
head-plain label.PatOr h = absurd (cc)
head-plain label.PatAnd h = absurd (cc)
head-plain _ h = refl

label-equal : (l k : Label) → same_label l k ≡ true → l ≡ k
label-equal l k h = label_number-injective l k (grind (arith, nat_tests))

module _ (decls : List VarDecl) (tokens : List PatToken) (types : ItemTypes) (env : Environment) (q : Token → Bool) where
  abbrev found : List Pair → Bool
  found ps = some decls tokens types env q ps

  abbrev among : Tree → Bool
  among t = has decls tokens types env q t

  abbrev among_any : List Tree → Bool
  among_any cs = any decls tokens types env q cs

  given : (form t : Tree) → found (alignment decls tokens types env form t) ≡ true → among form ≡ true
  given form t h = tree_law decls tokens types env q form t h

  own_by : (b : Bool) (c : Tree) (cs more : List Tree) (u : Tree) (rest : List Pair) → (found rest ≡ true → among_any more ≡ true)
      → found ((if b then alignment decls tokens types env c u else []) ++ rest) ≡ true → among_any (if b then c ∷ more else more) ≡ true
  own_by true c cs more u rest f h =
      split decls tokens types env q (alignment decls tokens types env c u) rest (among_any (c ∷ more))
      (λ a. or_left (among c) (among_any more) (given c u a)) (λ a. or_right (among c) (among_any more) (f a)) h
  own_by false c cs more u rest f h = f h

  own_law : (test : ℕ → Bool) (i : ℕ) (cs us : List Tree) → found (own_pairs test i (map (piece decls tokens types env) cs) us) ≡ true
      → among_any (kept test i cs) ≡ true
  own_law test i [] us h = h
  own_law test i (c ∷ cs) [] h = not_both false h refl
  own_law test i (c ∷ cs) (u ∷ us) h =
      own_by (test i) c cs (kept test (suc i) cs) u (own_pairs test (suc i) (map (piece decls tokens types env) cs) us) (own_law test (suc i) cs us) h

  own_tree : (test : ℕ → Bool) (fs : List Tree) (t : Tree)
      → found (kids_pairs (own_pairs test 0) (map (piece decls tokens types env) fs) (out-Tree t)) ≡ true → among_any (kept test 0 fs) ≡ true
  own_tree test fs = tree_cases
      (λ t. found (kids_pairs (own_pairs test 0) (map (piece decls tokens types env) fs) (out-Tree t)) ≡ true → among_any (kept test 0 fs) ≡ true)
      (λ b h. not_both false (sym (ap (λ y. found (kids_pairs (own_pairs test 0) (map (piece decls tokens types env) fs) y)) (out-Leaf b)) ∙ h) refl)
      (λ j us h. own_law test 0 fs us (sym (ap (λ y. found (kids_pairs (own_pairs test 0) (map (piece decls tokens types env) fs) y)) (out-Branch j us)) ∙ h))

  own_kids : (k : NodeKind) (l : Label) (fs : List Tree) (t : Tree) → found (own_alignment decls tokens types env k (out-Tree (Branch l fs)) t) ≡ true
      → among_any (kept (is_own k l (length fs)) 0 fs) ≡ true
  own_kids k l fs t h =
      own_tree (is_own k l (length fs)) fs t (sym (ap (λ y. found (own_alignment decls tokens types env k y t)) (out-Branch l fs)) ∙ h)

  -- ---- spot Whole

  option_law : (form : Tree) (o : Option Tree) → found (option_pairs (alignment decls tokens types env form) o) ≡ true → among form ≡ true
  option_law form None h = not_both false h refl
  option_law form (Some t) h = given form t h

  token_law : (k : NodeKind) (form t : Tree) (p r : Bool)
      → found (if p then option_pairs (alignment decls tokens types env form) (open_brace k t)
      else if r then option_pairs (alignment decls tokens types env form) (close_brace k t)
      else alignment decls tokens types env form t) ≡ true → among form ≡ true
  token_law k form t true r h = option_law form (open_brace k t) h
  token_law k form t false true h = option_law form (close_brace k t) h
  token_law k form t false false h = given form t h

  abbrev held_whole : Bool → Label → List Tree → Bool
  held_whole b l fs = among_any (if b then kept (is_held spot.Whole l (length fs)) 0 fs else Branch l fs ∷ [])

  whole_own : (b : Bool) (l : Label) (fs : List Tree) → among_any (kept (is_own kind.Head l (length fs)) 0 fs) ≡ true → held_whole b l fs ≡ true
  whole_own true l fs h = h
  whole_own false l fs h =
      or_left (among (Branch l fs)) false (has-Branch decls tokens types env q l fs (any_kept among (is_own kind.Head l (length fs)) 0 fs h))

  -- a tree that a form with bodies fits has bodies
  head_fits : (l : Label) (fs : List Tree) → is_head_label l ≡ true → (t : Tree) → fits_tree decls tokens types env (Branch l fs) t ≡ true
      → is_head_tree t ≡ true
  head_fits l fs e = tree_cases (λ t. fits_tree decls tokens types env (Branch l fs) t ≡ true → is_head_tree t ≡ true)
      (λ b h.
      let f = sym (ap (λ y. kids_fit all_fit l (map (piece decls tokens types env) fs) y) (out-Leaf b)) ∙ plain (Leaf b) h in
      not_both false f refl)
      (λ k us h.
      let f : (same_label l k && all_fit (map (piece decls tokens types env) fs) us) ≡ true =
      sym (ap (λ y. kids_fit all_fit l (map (piece decls tokens types env) fs) y) (out-Branch k us)) ∙ plain (Branch k us) h in
      ap is_head_at (out-Branch k us)
      ∙ ap is_head_label (sym (label-equal l k (and_left (same_label l k) (all_fit (map (piece decls tokens types env) fs) us) f)))
      ∙ e)
    where
      plain : (t : Tree) → fits_tree decls tokens types env (Branch l fs) t ≡ true
          → kids_fit all_fit l (map (piece decls tokens types env) fs) (out-Tree t) ≡ true
      plain t h =
          sym (ap (λ r. fits_by decls tokens types env r l (map (piece decls tokens types env) fs) t) (head-plain l e))
          ∙ sym (fits-Branch decls tokens types env l fs t) ∙ h

  simple_law : (b : Bool) (l : Label) (fs : List Tree) (t : Tree) → is_head_label l ≡ b → is_head_tree t ≡ false
      → fits_tree decls tokens types env (Branch l fs) t ≡ true → found (alignment decls tokens types env (Branch l fs) t) ≡ true → held_whole b l fs ≡ true
  simple_law true l fs t e n f h = not_both (is_head_tree t) (head_fits l fs e t f) n
  simple_law false l fs t e n f h = or_left (among (Branch l fs)) false (given (Branch l fs) t h)

  branch_law : (k : NodeKind) (l : Label) (fs : List Tree) (t : Tree) → (k ≡ kind.Simple → is_head_tree t ≡ false)
      → branch_whole decls tokens types env k (Branch l fs) t ≡ true → found (branch_alignment decls tokens types env k (Branch l fs) t) ≡ true
      → held_whole (is_head_label l) l fs ≡ true
  branch_law kind.Simple l fs t n f h = simple_law (is_head_label l) l fs t refl (n refl) f h
  branch_law kind.Head l fs t n f h = whole_own (is_head_label l) l fs (own_kids kind.Head l fs t h)
  branch_law kind.FunHead l fs t n f h = whole_own (is_head_label l) l fs (own_kids kind.FunHead l fs t h)
  branch_law _ l fs t n f h = absurd (cc)

  abbrev At : Spot → NodeKind → Tree → Tree → Type 0
  At s k t form = HasNoBodies s k t → fits_at decls tokens types env s k form t ≡ true → found (alignment_at decls tokens types env s k form t) ≡ true
      → compared q s form ≡ true

  whole_law : (k : NodeKind) (t form : Tree) → At spot.Whole k t form
  whole_law k t = tree_cases (At spot.Whole k t)
      (λ a n f h.
      let g = sym (ap (λ y. found (whole_alignment decls tokens types env k y (Leaf a) t)) (out-Leaf a)) ∙ h in
      ap (λ y. among_any (held_at spot.Whole y (Leaf a))) (out-Leaf a)
      ∙ or_left (among (Leaf a)) false (token_law k (Leaf a) t (is_open_brace a) (is_close_brace a) g))
      (λ l fs n f h.
      let e = sym (ap (λ y. whole_at decls tokens types env k y (Branch l fs) t) (out-Branch l fs)) ∙ f in
      let g = sym (ap (λ y. found (whole_alignment decls tokens types env k y (Branch l fs) t)) (out-Branch l fs)) ∙ h in
      ap (λ y. among_any (held_at spot.Whole y (Branch l fs))) (out-Branch l fs) ∙ branch_law k l fs t (n refl) e g)

  tail_law : (k : NodeKind) (t form : Tree) → At spot.Tail k t form
  tail_law k t = tree_cases (At spot.Tail k t)
      (λ a n f h. not_both false (sym (ap (λ y. found (own_alignment decls tokens types env kind.DoTail y t)) (out-Leaf a)) ∙ h) refl)
      (λ l fs n f h. ap (λ y. among_any (held_at spot.Tail y (Branch l fs))) (out-Branch l fs) ∙ own_kids kind.DoTail l fs t h)

  inside_law : (k : NodeKind) (t form : Tree) → At spot.Inside k t form
  inside_law k t = tree_cases (At spot.Inside k t)
      (λ a n f h. ap (λ y. among_any (held_at spot.Inside y (Leaf a))) (out-Leaf a) ∙ or_left (among (Leaf a)) false (given (Leaf a) t h))
      (λ l fs n f h.
      ap (λ y. among_any (held_at spot.Inside y (Branch l fs))) (out-Branch l fs) ∙ or_left (among (Branch l fs)) false (given (Branch l fs) t h))

  at_law : (s : Spot) (k : NodeKind) (form t : Tree) → At s k t form
  at_law spot.Whole k form t = whole_law k t form
  at_law spot.Tail k form t = tail_law k t form
  at_law spot.Inside k form t = inside_law k t form

  each_pair : (s : Spot) (form : Tree) (ps : List Pair) → (found ps ≡ true → compared q s form ≡ true) → All (IsCompared q s form) ps
  each_pair s form [] f = All-nil (IsCompared q s form)
  each_pair s form (p ∷ ps) f =
      All-cons (IsCompared q s form) p ps (λ h. f (or_left (q p.0) (found ps) h)) (each_pair s form ps (λ h. f (or_right (q p.0) (found ps) h)))

  pub pairs_compared : (s : Spot) (k : NodeKind) (form t : Tree) → HasNoBodies s k t → fits_at decls tokens types env s k form t ≡ true
      → All (IsCompared q s form) (alignment_at decls tokens types env s k form t)
  pairs_compared s k form t n f = each_pair s form (alignment_at decls tokens types env s k form t) (at_law s k form t n f)
