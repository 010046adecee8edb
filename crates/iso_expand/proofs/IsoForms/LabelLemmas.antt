-- If no side has a label of a list, the list stays as it is.
use Rattle.std.proofs.Common.{◌≡◌, ℕ, ◌+◌, Bool, true, false, if◌then◌else◌, List, [], ◌∷◌, ◌++◌, map, Option, None, refl, sym, ap, ◌∙◌}
use Rattle.std.specs.List.{list_any}
use Rattle.std.proofs.lemmas.Bool.{or_parts}
use Rattle.c_terms.specs.declared.label.Label.{Label}
use Rattle.c_terms.specs.declared.tree.Tree.{Tree, out-Tree}
use Rattle.c_terms.specs.declared.tree.Tree.TheOpen.{Tree-F}
use Rattle.c_terms.specs.declared.tree.Tree.TheVariants.{Branch, rolls-Branch}
use Rattle.c_terms.specs.declared.tree.Tree.TheFolds.{fold-roll-Tree}
use Rattle.c_terms.specs.Trees.{join}
use Rattle.c_terms.proofs.Induct.{tree_cases}
use Rattle.c_terms.proofs.SameLemmas.{out-Leaf, out-Branch}
use Rattle.smpl_patch.specs.declared.pattern.PatToken.{PatToken}
use Rattle.smpl_patch.specs.declared.pattern.VarDecl.{VarDecl}
use Rattle.smpl_patch.specs.declared.rule.Iso.{Iso}
use Rattle.iso_expand.specs.declared.iso_forms.matching.Bound.{Bound}
use Rattle.iso_expand.specs.IsoForms.Matching.{Matcher, each, match_branch, match_step, matched}
use Rattle.iso_expand.specs.IsoForms.Replacing.{is_open, targets, replaced, by_sides, becomes}
use Rattle.iso_expand.specs.IsoForms.Forms.{with_forms, with_isos}
use Rattle.iso_expand.specs.IsoForms.Stepped.{may_match, has_side_for, may_grow}

matched-Branch : (vars : List VarDecl) (l : Label) (ss : List Tree) (t : Tree) (bound : List Bound)
    → matched vars (Branch l ss) t bound ≡ match_branch l (map (matched vars) ss) (out-Tree t) bound
matched-Branch vars l ss t bound =
    ap (λ (s : Tree). matched vars s t bound) (sym (rolls-Branch l ss))
    ∙ ap (λ (m : Matcher). m t bound) (fold-roll-Tree Matcher (match_step vars) _)

other_label : (l : Label) (ss : List Tree) (ms : List Matcher) (u : Tree-F Tree) (bound : List Bound) → may_match (Tree-F.Branch l ss) u ≡ false
    → match_branch l ms u bound ≡ None
other_label l ss ms (Tree-F.Leaf b) bound h = refl
other_label l ss ms (Tree-F.Branch k us) bound h = ap (λ (same : Bool). if same then each ms us bound else None) h

never : (vars : List VarDecl) (s t : Tree) (bound : List Bound) → may_match (out-Tree s) (out-Tree t) ≡ false → matched vars s t bound ≡ None
never vars s t bound =
    tree_cases (λ s. may_match (out-Tree s) (out-Tree t) ≡ false → matched vars s t bound ≡ None)
    (λ a h.
    let p : true ≡ false = sym (ap (λ (x : Tree-F Tree). may_match x (out-Tree t)) (out-Leaf a)) ∙ h in
    absurd cc)
    (λ l ss h.
    matched-Branch vars l ss t bound
    ∙ other_label l ss (map (matched vars) ss) (out-Tree t) bound (sym (ap (λ (x : Tree-F Tree). may_match x (out-Tree t)) (out-Branch l ss)) ∙ h))
    s

not_replaced : (tokens : List PatToken) (vars : List VarDecl) (s t : Tree) → may_match (out-Tree s) (out-Tree t) ≡ false → replaced tokens vars s t ≡ None
not_replaced tokens vars s t h = by (is_open tokens t)
  where
    by : (b : Bool) → (if b then matched vars s t [] else None) ≡ None
    by true = never vars s t [] h
    by false = refl

module _ (tokens : List PatToken) (iso : Iso) where
  no_sides : (t : Tree) (i : ℕ) (ss : List Tree) → has_side_for ss t ≡ false → by_sides tokens iso t i ss ≡ []
  no_sides t i [] h = refl
  no_sides t i (s ∷ ss) h =
      let both = or_parts (may_match (out-Tree s) (out-Tree t)) (has_side_for ss t) h in
      ap (λ (o : Option (List Bound)). targets iso t i o ++ by_sides tokens iso t (i + 1) ss) (not_replaced tokens iso.vars s t both.0)
      ∙ no_sides t (i + 1) ss both.1

  no_change : (ts : List Tree) → list_any (has_side_for iso.sides) ts ≡ false → join (map (becomes tokens iso) ts) ≡ []
  no_change [] h = refl
  no_change (t ∷ ts) h =
      let both = or_parts (has_side_for iso.sides t) (list_any (has_side_for iso.sides) ts) h in
      ap (λ (xs : List Tree). xs ++ join (map (becomes tokens iso) ts)) (no_sides t 0 iso.sides both.0) ∙ no_change ts both.1

pub unchanged : (tokens : List PatToken) (isos : List Iso) (list : List Tree) → may_grow isos list ≡ false → with_isos tokens list isos ≡ list
unchanged tokens [] list h = refl
unchanged tokens (iso ∷ isos) list h =
    let both = or_parts (list_any (has_side_for iso.sides) list) (may_grow isos list) h in
    ap (λ (xs : List Tree). with_isos tokens (with_forms list xs) isos) (no_change tokens iso list both.0) ∙ unchanged tokens isos list both.1
