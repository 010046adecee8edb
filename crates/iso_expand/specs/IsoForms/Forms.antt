-- The forms of a tree.
use Rattle.std.specs.Prelude.{ℕ, ◌<◌, length, Bool, if◌then◌else◌, List, [], ◌∷◌, ◌++◌, map}
use Rattle.std.specs.List.{list_any}
use Rattle.c_terms.specs.declared.label.Label.{Label}
use Rattle.c_terms.specs.declared.tree.Tree.{Tree}
use Rattle.c_terms.specs.declared.tree.Tree.TheOpen.{Tree-F}
use Rattle.c_terms.specs.declared.tree.Tree.TheVariants.{Leaf, Branch}
use Rattle.c_terms.specs.declared.tree.Tree.TheFolds.{fold-Tree}
use Rattle.c_terms.specs.Same.{same_tree}
use Rattle.c_terms.specs.Trees.{join}
use Rattle.smpl_patch.specs.declared.pattern.PatToken.{PatToken}
use Rattle.smpl_patch.specs.declared.rule.Iso.{Iso}
use Rattle.iso_expand.specs.declared.iso_forms.fault.FormsFault.{FormsFault}
use Rattle.iso_expand.specs.declared.iso_forms.fault.FormsFault.TheVariants as fault
use Rattle.iso_expand.specs.IsoForms.Kinds.{is_expression}
use Rattle.iso_expand.specs.IsoForms.Replacing.{becomes}

-- one member of each list, the choices of the first varying slowest
abbrev pub choices : List (List Tree) → List (List Tree)
choices [] = [] ∷ []
choices (ts ∷ more) = join (map (λ t. map (λ cs. t ∷ cs) (choices more)) ts)

abbrev pub is_among : List Tree → Tree → Bool
is_among list t = list_any (λ u. same_tree u t) list

-- a tree that is not in the list yet is appended
abbrev pub with_form : List Tree → Tree → List Tree
with_form list t = if is_among list t then list else list ++ t ∷ []

abbrev pub with_forms : List Tree → List Tree → List Tree
with_forms list [] = list
with_forms list (t ∷ ts) = with_forms (with_form list t) ts

abbrev pub branches : Label → List (List Tree) → List Tree
branches l css = map (λ cs. Branch l cs) css

module _ (tokens : List PatToken) where
  -- the list, and what its trees become, of those listed before the isomorphism's turn
  abbrev pub with_iso : List Tree → Iso → List Tree
  with_iso list iso = with_forms list (join (map (becomes tokens iso) list))

  abbrev pub with_isos : List Tree → List Iso → List Tree
  with_isos list [] = list
  with_isos list (iso ∷ isos) = with_isos (with_iso list iso) isos

  module _ (isos : List Iso) where
    -- the branches of the choices, and at an expression what each isomorphism in turn makes of them
    abbrev pub of_choices : Label → List (List Tree) → List Tree
    of_choices l css = if is_expression l then with_isos (branches l css) isos else branches l css

    abbrev pub form_step : Tree-F (List Tree) → List Tree
    form_step (Tree-F.Leaf a) = Leaf a ∷ []
    form_step (Tree-F.Branch l fss) = of_choices l (choices fss)

    -- a leaf has itself, a branch has the branches of one form of each child
    abbrev pub forms : Tree → List Tree
    forms = fold-Tree (List Tree) form_step

-- a list is refused if it is longer than the limit, or when out of memory
abbrev pub Refused : {A : Type 0} → ℕ → List A → FormsFault → Type 0
Refused limit list fault.TooMany = limit < length list
Refused limit list fault.NoMemory = Unit {0}
