-- The tree itself is the first of its forms.
-- Proof: by induction on the tree. The first choice is that of the first form of each child, so the first branch is the tree, and
-- isomorphisms add at the end.
use Rattle.std.proofs.Common.{◌≡◌, Bool, true, false, if◌then◌else◌, List, [], ◌∷◌, ◌++◌, map, Some, refl, ap, ◌∙◌}
use Rattle.std.specs.Prelude.{slice_get}
use Rattle.c_terms.specs.declared.label.Label.{Label}
use Rattle.c_terms.specs.declared.tree.Tree.{Tree}
use Rattle.c_terms.specs.declared.tree.Tree.TheVariants.{Branch}
use Rattle.c_terms.specs.Trees.{join}
use Rattle.c_terms.proofs.Induct.{Each, tree_induction}
use Rattle.smpl_patch.specs.declared.pattern.PatToken.{PatToken}
use Rattle.smpl_patch.specs.declared.rule.Iso.{Iso}
use Rattle.iso_expand.specs.IsoForms.Kinds.{is_expression}
use Rattle.iso_expand.specs.IsoForms.Forms.{choices, branches, with_isos, of_choices, forms}
use Rattle.iso_expand.proofs.IsoForms.ListedLemmas.{isos-extend, stays_at}
use Rattle.iso_expand.proofs.IsoForms.FormLemmas.{forms-Leaf, forms-Branch}

-- the trees are the first of each list
abbrev AreFirst : List (List Tree) → List Tree → Type 0
AreFirst [] [] = Unit {0}
AreFirst [] (c ∷ cs) = ⊥
AreFirst (fs ∷ fss) [] = ⊥
AreFirst (fs ∷ fss) (c ∷ cs) = (slice_get fs 0 ≡ Some c) × AreFirst fss cs

put_before : (t : Tree) (css more : List (List Tree)) (cs : List Tree) → slice_get css 0 ≡ Some cs
    → slice_get (map (λ ds. t ∷ ds) css ++ more) 0 ≡ Some (t ∷ cs)
put_before t [] more cs h = absurd cc
put_before t (ds ∷ css) more cs h = let e : ds ≡ cs = cc in ap (λ (x : List Tree). Some (t ∷ x)) e

first_choice : (fss : List (List Tree)) (cs : List Tree) → AreFirst fss cs → slice_get (choices fss) 0 ≡ Some cs
first_choice [] [] h = refl
first_choice [] (c ∷ cs) h = absurd h
first_choice (fs ∷ fss) [] h = absurd h
first_choice ([] ∷ fss) (c ∷ cs) h = absurd (none c h.0)
  where
    none : (c : Tree) → slice_get [] 0 ≡ Some c → ⊥
    none c e = cc
first_choice ((t ∷ ts) ∷ fss) (c ∷ cs) h =
    let k : slice_get (t ∷ ts) 0 ≡ Some c = h.0 in
    let e : t ≡ c = cc in
    put_before t (choices fss) (join (map (λ u. map (λ ds. u ∷ ds) (choices fss)) ts)) cs (first_choice fss cs h.1) ∙ ap (λ (x : Tree). Some (x ∷ cs)) e

first_branch : (l : Label) (css : List (List Tree)) (cs : List Tree) → slice_get css 0 ≡ Some cs → slice_get (branches l css) 0 ≡ Some (Branch l cs)
first_branch l [] cs h = absurd cc
first_branch l (ds ∷ css) cs h = let e : ds ≡ cs = cc in ap (λ (x : List Tree). Some (Branch l x)) e

module _ (tokens : List PatToken) (isos : List Iso) where
  abbrev IsFirst : Tree → Type 0
  IsFirst t = slice_get (forms tokens isos t) 0 ≡ Some t

  all_first : (cs : List Tree) → Each IsFirst cs → AreFirst (map (forms tokens isos) cs) cs
  all_first [] e = tt
  all_first (c ∷ cs) e = (e.0, all_first cs e.1)

  of_first : (l : Label) (css : List (List Tree)) (cs : List Tree) → slice_get css 0 ≡ Some cs → slice_get (of_choices tokens isos l css) 0 ≡ Some (Branch l cs)
  of_first l css cs h = by (is_expression l)
    where
      by : (b : Bool) → slice_get (if b then with_isos tokens (branches l css) isos else branches l css) 0 ≡ Some (Branch l cs)
      by true = stays_at (branches l css) (with_isos tokens (branches l css) isos) 0 (Branch l cs)
          (isos-extend tokens (branches l css) isos) (first_branch l css cs h)
      by false = first_branch l css cs h

  pub first_form : (t : Tree) → slice_get (forms tokens isos t) 0 ≡ Some t
  first_form = tree_induction IsFirst
      (λ a. ap (λ (ts : List Tree). slice_get ts 0) (forms-Leaf tokens isos a))
      (λ l cs each. ap (λ (ts : List Tree). slice_get ts 0) (forms-Branch tokens isos l cs)
      ∙ of_first l (choices (map (forms tokens isos) cs)) cs (first_choice (map (forms tokens isos) cs) cs (all_first cs each)))
