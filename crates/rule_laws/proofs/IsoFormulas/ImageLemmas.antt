-- The parts of the table, applied to formulas with all forms.
use Rattle.std.proofs.Common.{◌≡◌, ℕ, suc, Bool, true, false, cond, refl, sym, ap, ap₂, ◌∙◌, Option, None, Some, List, [], ◌∷◌, ◌++◌, map, if◌then◌else◌}
use Rattle.smpl_terms.specs.declared.var.Var.{Var}
use Rattle.smpl_patch.specs.declared.pattern.PatToken.{PatToken}
use Rattle.smpl_patch.specs.declared.rule.Iso.{Iso}
use Rattle.ctl_formula.specs.Plain.{Plain, Inside, Not, And, Or, EU, InBranch, Exists}
use Rattle.ctl_table.specs.Table.{Start, Nothing, Brace, Dots, Other, exists_all, and_all, or_all, all_of, any_of, or_some}
use Rattle.ctl_table.specs.Table.{option_list, nots, joined, target, stays, until, nested, condition, in_branches, choices}
use Rattle.rule_laws.specs.IsoFormulas.Formulas.{expanded_formula}

pub map-append : {A B : Type 0} (f : A → B) (xs ys : List A) → map f (xs ++ ys) ≡ map f xs ++ map f ys
map-append f [] ys = refl
map-append {A} {B} f (x ∷ xs) ys = ap (λ (zs : List B). f x ∷ zs) (map-append f xs ys)

module _ (isos : List Iso) (tokens : List PatToken) where
  abbrev F : Plain → Plain
  F = expanded_formula isos tokens

  abbrev pub expanded_some : Option Plain → Option Plain
  expanded_some None = None
  expanded_some (Some f) = Some (F f)

  pub exists-image : (xs : List Var) (f : Plain) → exists_all xs (F f) ≡ F (exists_all xs f)
  exists-image [] f = refl
  exists-image (x ∷ xs) f = ap (Exists x) (exists-image xs f)

  pub and-image : (f : Plain) (gs : List Plain) → and_all (F f) (map F gs) ≡ F (and_all f gs)
  and-image f [] = refl
  and-image f (g ∷ gs) = and-image (And f g) gs

  or-image : (f : Plain) (gs : List Plain) → or_all (F f) (map F gs) ≡ F (or_all f gs)
  or-image f [] = refl
  or-image f (g ∷ gs) = or-image (Or f g) gs

  all-image : (fs : List Plain) → all_of (map F fs) ≡ F (all_of fs)
  all-image [] = refl
  all-image (f ∷ fs) = and-image f fs

  pub any-image : (fs : List Plain) → any_of (map F fs) ≡ F (any_of fs)
  any-image [] = refl
  any-image (f ∷ fs) = or-image f fs

  pub some-image : (fs : List Plain) → or_some (map F fs) ≡ expanded_some (or_some fs)
  some-image [] = refl
  some-image (f ∷ fs) = ap Some (or-image f fs)

  pub list-image : (o : Option Plain) → option_list (expanded_some o) ≡ map F (option_list o)
  list-image None = refl
  list-image (Some f) = refl

  nots-image : (o : Option Plain) → nots (expanded_some o) ≡ map F (nots o)
  nots-image None = refl
  nots-image (Some f) = refl

  pub choice-image : (b : Bool) (o p : Option Plain) → cond b (expanded_some o) (expanded_some p) ≡ expanded_some (cond b o p)
  choice-image true o p = refl
  choice-image false o p = refl

  pub joined-image : (forall_walks statement : Bool) (f : Plain) (s : Start) (g : Plain)
      → joined forall_walks statement (F f) s (F g) ≡ F (joined forall_walks statement f s g)
  joined-image forall_walks statement f Nothing g = refl
  joined-image forall_walks true f Dots g = refl
  joined-image true false f Dots g = refl
  joined-image false false f Dots g = refl
  joined-image forall_walks statement f Brace g = refl
  joined-image forall_walks statement f Other g = refl

  pub target-image : (o : Option Var) (s : Start) (f : Plain) → target o s (F f) ≡ F (target o s f)
  target-image None s f = refl
  target-image (Some b) Brace f = refl
  target-image (Some b) Nothing f = refl
  target-image (Some b) Dots f = refl
  target-image (Some b) Other f = refl

  pub firsts-image : (o : Option Var) (fs gs : List Plain) → fs ≡ map F gs → stays o ++ fs ≡ map F (stays o ++ gs)
  firsts-image None fs gs e = e
  firsts-image (Some b) fs gs e = ap (λ (z : List Plain). Inside b ∷ z) e

  pub until-image : (forall_walks strict : Bool) (d t : Plain) → until forall_walks strict (F d) (F t) ≡ F (until forall_walks strict d t)
  until-image false strict d t = refl
  until-image true true d t = refl
  until-image true false d t = refl

  pub nested-image : (forall_walks plus strict : Bool) (d p t : Plain)
      → nested forall_walks plus strict (F d) (F p) (F t) ≡ F (nested forall_walks plus strict d p t)
  nested-image forall_walks false strict d p t = until-image forall_walks strict (And d (Or p (Not p))) t
  nested-image forall_walks true strict d p t =
      ap (λ (z : Plain). And z (EU (F d) (And (And (F d) (F p)) (EU (F d) (F t))))) (until-image forall_walks strict (And d (Or p (Not p))) t)

  ends_of-image : (any : Bool) (before after : Option Plain)
      → (if any then [] else nots (expanded_some before) ++ nots (expanded_some after)) ≡ map F (if any then [] else nots before ++ nots after)
  ends_of-image true before after = refl
  ends_of-image false before after =
      ap₂ (λ (fs gs : List Plain). fs ++ gs) (nots-image before) (nots-image after) ∙ sym (map-append F (nots before) (nots after))

  pub condition-image : (any : Bool) (whens : List Plain) (before after : Option Plain)
      → condition any (map F whens) (expanded_some before) (expanded_some after) ≡ F (condition any whens before after)
  condition-image any whens before after =
      let others = if any then [] else nots before ++ nots after in
      ap (λ (bs : List Plain). all_of (map F whens ++ bs)) (ends_of-image any before after)
      ∙ ap all_of (sym (map-append F whens others))
      ∙ all-image (whens ++ others)

  pub in_branches-image : (i : ℕ) (fs : List Plain) → in_branches i (map F fs) ≡ map F (in_branches i fs)
  in_branches-image i [] = refl
  in_branches-image i (f ∷ fs) = ap (λ (gs : List Plain). F (InBranch i f) ∷ gs) (in_branches-image (suc i) fs)

  pub choices-image : (earlier fs gs : List Plain) → choices (map F earlier) (map F fs) (map F gs) ≡ map F (choices earlier fs gs)
  choices-image earlier [] gs = refl
  choices-image earlier (f ∷ fs) [] = ap₂ (λ (h : Plain) (hs : List Plain). h ∷ hs) (and-image f earlier) (choices-image earlier fs [])
  choices-image earlier (f ∷ fs) (g ∷ gs) =
      ap₂ (λ (h : Plain) (hs : List Plain). h ∷ hs) (and-image f earlier)
      (ap (λ (es : List Plain). choices es (map F fs) (map F gs)) (sym (map-append F earlier (Not g ∷ [])))
      ∙ choices-image (earlier ++ Not g ∷ []) fs gs)
