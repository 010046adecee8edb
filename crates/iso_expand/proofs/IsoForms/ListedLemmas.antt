-- Lists of forms to which trees are added.
use Rattle.std.proofs.Common.{◌≡◌, ℕ, ◌+◌, ◌<◌, Bool, true, false, if◌then◌else◌, Option, List, [], ◌∷◌, ◌++◌, length, get_or}
use Rattle.std.proofs.Common.{drop, refl, sym, subst, ap, ◌∙◌, append_assoc, arith, length-append, map, zero, suc, Some}
use Rattle.std.specs.Prelude.{slice_get}
use Rattle.c_terms.specs.declared.tree.Tree.{Tree}
use Rattle.c_terms.specs.Trees.{join}
use Rattle.smpl_patch.specs.declared.pattern.PatToken.{PatToken}
use Rattle.smpl_patch.specs.declared.pattern.VarDecl.{VarDecl}
use Rattle.smpl_patch.specs.declared.rule.Iso.{Iso}
use Rattle.iso_expand.specs.declared.iso_forms.fault.FormsFault.{FormsFault}
use Rattle.iso_expand.specs.declared.iso_forms.fault.FormsFault.TheVariants as fault
use Rattle.iso_expand.specs.IsoForms.Replacing.{becomes, may_become, targets_from, targets, replaced, by_sides}
use Rattle.iso_expand.specs.IsoForms.Forms.{is_among, with_form, with_forms, with_iso, with_isos, Refused}
use Rattle.iso_expand.specs.declared.iso_forms.matching.Bound.{Bound}
use Rattle.iso_expand.specs.declared.iso_forms.listed.Listed.{Listed}
use Rattle.iso_expand.specs.IsoForms.Making.{made, first_id}
use Rattle.iso_expand.specs.IsoForms.Stepped.{Extends, Has}
use Rattle.iso_expand.proofs.IsoForms.ListLemmas.{append_empty, drop_item}

pub extends-refl : (list : List Tree) → Extends list list
extends-refl list = ([], sym (append_empty list))

pub extends-trans : (a b c : List Tree) → Extends a b → Extends b c → Extends a c
extends-trans a b c h k = (h.0 ++ k.0, k.1 ∙ ap (λ (xs : List Tree). xs ++ k.0) h.1 ∙ append_assoc a h.0 k.0)

pub extends-along : (a b c : List Tree) → Extends a b → b ≡ c → Extends a c
extends-along a b c h e = (h.0, sym e ∙ h.1)

pub form-extends : (list : List Tree) (t : Tree) → Extends list (with_form list t)
form-extends list t = by (is_among list t)
  where
    by : (b : Bool) → Extends list (if b then list else list ++ t ∷ [])
    by true = extends-refl list
    by false = (t ∷ [], refl)

pub forms-extend : (list more : List Tree) → Extends list (with_forms list more)
forms-extend list [] = extends-refl list
forms-extend list (t ∷ more) =
    extends-trans list (with_form list t) (with_forms (with_form list t) more) (form-extends list t) (forms-extend (with_form list t) more)

pub isos-extend : (tokens : List PatToken) (list : List Tree) (isos : List Iso) → Extends list (with_isos tokens list isos)
isos-extend tokens list [] = extends-refl list
isos-extend tokens list (iso ∷ isos) =
    extends-trans list (with_iso tokens list iso) (with_isos tokens (with_iso tokens list iso) isos)
    (forms-extend list (join (map (becomes tokens iso) list)))
    (isos-extend tokens (with_iso tokens list iso) isos)

pub with_forms-append : (list xs ys : List Tree) → with_forms list (xs ++ ys) ≡ with_forms (with_forms list xs) ys
with_forms-append list [] ys = refl
with_forms-append list (x ∷ xs) ys = with_forms-append (with_form list x) xs ys

-- what is refused for a list is refused for one that extends it
pub refused_more : (limit : ℕ) (a b : List Tree) (f : FormsFault) → Extends a b → Refused limit a f → Refused limit b f
refused_more limit a b fault.TooMany h r =
    let e : length b ≡ length (a ++ h.0) = ap length h.1 in omega (arith, length-append a h.0)
refused_more limit a b fault.NoMemory h r = tt

pub refused_along : (limit : ℕ) (a b : List Tree) (f : FormsFault) → a ≡ b → Refused limit a f → Refused limit b f
refused_along limit a b f e r = refused_more limit a b f (extends-along a a b (extends-refl a) e) r

-- the trees of a list stay where they are
pub stays_at : (a b : List Tree) (k : ℕ) (t : Tree) → Extends a b → slice_get a k ≡ Some t → slice_get b k ≡ Some t
stays_at a b k t h e = ap (λ (xs : List Tree). slice_get xs k) h.1 ∙ within a k e
  where
    within : (xs : List Tree) (i : ℕ) → slice_get xs i ≡ Some t → slice_get (xs ++ h.0) i ≡ Some t
    within [] i q = absurd cc
    within (x ∷ xs) zero q = q
    within (x ∷ xs) (suc i) q = within xs i q

-- ---- the state of a loop

-- what is kept with some forms is kept with their equals
pub kept : (limit : ℕ) (f g : Listed) (list : List Tree) → g ≡ f → Has limit f list → Has limit g g.list × (g.list ≡ list)
kept limit f g list e h =
    let k : Has limit g list = subst (λ (x : Listed). Has limit x list) (sym e) h in
    (record { is = refl; knows = k.knows; few = k.few }, k.is)

-- ---- the sides that a side may become

module _ (both : List Bool) (bound : List Bound) (id i : ℕ) where
  abbrev from : ℕ → List Tree → List Tree
  from j ss = targets_from both bound id i j ss

  at_side : (ss : List Tree) (j : ℕ) (s : Tree) (b : Bool) → j < length ss → s ≡ get_or ss j s → may_become both i j ≡ b
      → from j (drop j ss) ≡ (if b then made bound id s ∷ from (j + 1) (drop (j + 1) ss) else from (j + 1) (drop (j + 1) ss))
  at_side ss j s b h e m =
      ap (from j) (drop_item ss j s h e)
      ∙ ap (λ (x : Bool). if x then made bound id s ∷ from (j + 1) (drop (j + 1) ss) else from (j + 1) (drop (j + 1) ss)) m

  pub target_more : (ss : List Tree) (j : ℕ) (s t : Tree) (list : List Tree) → j < length ss → s ≡ get_or ss j s → may_become both i j ≡ true
      → t ≡ made bound id s
      → with_forms list (targets_from both bound id i j (drop j ss)) ≡ with_forms (with_form list t) (targets_from both bound id i (j + 1) (drop (j + 1) ss))
  target_more ss j s t list h e m is =
      ap (with_forms list) (at_side ss j s true h e m) ∙ ap (λ (x : Tree). with_forms (with_form list x) (from (j + 1) (drop (j + 1) ss))) (sym is)

  pub target_none : (ss : List Tree) (j : ℕ) (s : Tree) (list : List Tree) → j < length ss → s ≡ get_or ss j s → may_become both i j ≡ false
      → with_forms list (targets_from both bound id i j (drop j ss)) ≡ with_forms list (targets_from both bound id i (j + 1) (drop (j + 1) ss))
  target_none ss j s list h e m = ap (with_forms list) (at_side ss j s false h e m)

-- ---- the sides that a tree matches

module _ (tokens : List PatToken) (iso : Iso) (t : Tree) where
  pub side_more : (ss : List Tree) (i : ℕ) (s : Tree) (list : List Tree) → i < length ss → s ≡ get_or ss i s
      → with_forms list (by_sides tokens iso t i (drop i ss))
      ≡ with_forms (with_forms list (targets iso t i (replaced tokens iso.vars s t))) (by_sides tokens iso t (i + 1) (drop (i + 1) ss))
  side_more ss i s list h e =
      ap (λ (xs : List Tree). with_forms list (by_sides tokens iso t i xs)) (drop_item ss i s h e)
      ∙ with_forms-append list (targets iso t i (replaced tokens iso.vars s t)) (by_sides tokens iso t (i + 1) (drop (i + 1) ss))

-- ---- the trees of a list

pub tree_more : (tokens : List PatToken) (iso : Iso) (base list : List Tree) (k : ℕ) (t : Tree) → k < length base → t ≡ get_or base k t
    → with_forms list (join (map (becomes tokens iso) (drop k base)))
    ≡ with_forms (with_forms list (becomes tokens iso t)) (join (map (becomes tokens iso) (drop (k + 1) base)))
tree_more tokens iso base list k t h e =
    ap (λ (xs : List Tree). with_forms list (join (map (becomes tokens iso) xs))) (drop_item base k t h e)
    ∙ with_forms-append list (becomes tokens iso t) (join (map (becomes tokens iso) (drop (k + 1) base)))

pub found_at : (xs : List Tree) (k : ℕ) → k < length xs → (t : Tree) × (slice_get xs k ≡ Some t) × (t ≡ get_or xs k t)
found_at [] k h = absurd (omega arith)
found_at (x ∷ xs) zero h = (x, refl, refl)
found_at (x ∷ xs) (suc k) h = found_at xs k (omega arith)

pub same_at : (xs : List Tree) (k : ℕ) (t u : Tree) → slice_get xs k ≡ Some t → u ≡ get_or xs k u → k < length xs → u ≡ t
same_at [] k t u e f h = absurd (omega arith)
same_at (x ∷ xs) zero t u e f h = let p : x ≡ t = cc in f ∙ p
same_at (x ∷ xs) (suc k) t u e f h = same_at xs k t u e f (omega arith)

pub longer_list : (a b : List Tree) (k : ℕ) → Extends a b → k < length a → k < length b
longer_list a b k h l = let e : length b ≡ length (a ++ h.0) = ap length h.1 in omega (arith, length-append a h.0)

pub replaced_along : (tokens : List PatToken) (vars items : List VarDecl) (s t u : Tree) (r o : Option (List Bound)) → items ≡ vars → u ≡ t
    → r ≡ replaced tokens items s u → r ≡ o → replaced tokens vars s t ≡ o
replaced_along tokens vars items s t u r o e f g h =
    ap (replaced tokens vars s) (sym f) ∙ ap (λ (ds : List VarDecl). replaced tokens ds s u) (sym e) ∙ sym g ∙ h

pub targets_along : (iso : Iso) (list : List Tree) (bound items : List Bound) (id i : ℕ) (t u : Tree) (r : Option (List Bound)) → items ≡ bound
    → id ≡ first_id u → u ≡ t
    → r ≡ Some bound → with_forms list (targets_from iso.both items id i 0 iso.sides) ≡ with_forms list (targets iso t i r)
targets_along iso list bound items id i t u r e f g h =
    ap (λ (bs : List Bound). with_forms list (targets_from iso.both bs id i 0 iso.sides)) e
    ∙ ap (λ (n : ℕ). with_forms list (targets_from iso.both bound n i 0 iso.sides)) (f ∙ ap first_id g)
    ∙ ap (λ (o : Option (List Bound)). with_forms list (targets iso t i o)) (sym h)

pub tree_along : (base list items : List Tree) (k : ℕ) (t u : Tree) → Extends base list → k < length base → slice_get base k ≡ Some t → items ≡ list
    → u ≡ get_or items k u → u ≡ t
tree_along base list items k t u h l at e is =
    same_at list k t u (stays_at base list k t h at) (is ∙ ap (λ (xs : List Tree). get_or xs k u) e) (longer_list base list k h l)
