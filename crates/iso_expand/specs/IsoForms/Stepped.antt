-- Internal: what is kept with a list of forms, and what the parts of the expander return.
use Rattle.std.specs.Prelude.{ℕ, ◌≡◌, ◌<◌, ◌≤◌, ◌-◌, Bool, true, false, not, nat_lt, take, drop, List, [], ◌∷◌, ◌++◌, map, length, Option, Some, None}
use Rattle.std.specs.List.{list_all, list_any}
use Rattle.c_terms.specs.declared.tree.Tree.{Tree, out-Tree}
use Rattle.c_terms.specs.declared.tree.Tree.TheOpen.{Tree-F}
use Rattle.c_terms.specs.Same.{same_label}
use Rattle.c_terms.specs.Names.{has_name}
use Rattle.smpl_patch.specs.declared.rule.Iso.{Iso}
use Rattle.iso_expand.specs.declared.iso_forms.matching.Bound.{Bound}
use Rattle.iso_expand.specs.declared.iso_forms.listed.Listed.{Listed}
use Rattle.iso_expand.specs.IsoForms.Forms.{is_among}
use Rattle.iso_expand.specs.IsoForms.Spelled.{spelled}

-- whether a side matched, and what its variables stand for then
abbrev pub Answers : Bool → List Bound → Option (List Bound) → Type 0
Answers true bound o = o ≡ Some bound
Answers false bound o = o ≡ None

-- of the sides before side i, exactly those from `low` on lead to it by arrows that all go both ways
pub record IsLowest (both : List Bool) (i low : ℕ) : Type 0 where
  pub within : low ≤ i
  pub leads : (j : ℕ) → j < i → list_all (λ b. b) (take (i - j) (drop j both)) ≡ not (nat_lt j low)

-- the choice with each of the trees
abbrev pub longer : List Tree → List Tree → List (List Tree)
longer cs ts = map (λ t. cs ++ t ∷ []) ts

-- each choice with each of the trees
abbrev pub grown : List (List Tree) → List Tree → List (List Tree)
grown [] ts = []
grown (cs ∷ css) ts = longer cs ts ++ grown css ts

abbrev pub grown_by : List (List Tree) → List (List Tree) → List (List Tree)
grown_by css [] = css
grown_by css (ts ∷ more) = grown_by (grown css ts) more

-- a tree is in the list exactly if its spelling is among these
abbrev pub Knows : List (List ℕ) → List Tree → Type 0
Knows seen list = (t : Tree) → has_name seen (spelled t) ≡ is_among list t

-- the list is this one and within the limit, and the spellings seen are those of its trees
pub record Has (limit : ℕ) (forms : Listed) (list : List Tree) : Type 0 where
  pub is : forms.list ≡ list
  pub knows : Knows forms.seen forms.list
  pub few : length forms.list ≤ limit

-- the second list is the first one, possibly with more at its end
abbrev pub Extends : List Tree → List Tree → Type 0
Extends list all = (more : List Tree) × (all ≡ list ++ more)

-- the side is a branch with the tree's label, or a leaf: others match no tree
abbrev pub may_match : Tree-F Tree → Tree-F Tree → Bool
may_match (Tree-F.Leaf a) u = true
may_match (Tree-F.Branch l ss) (Tree-F.Leaf b) = false
may_match (Tree-F.Branch l ss) (Tree-F.Branch k us) = same_label l k

abbrev pub has_side_for : List Tree → Tree → Bool
has_side_for sides t = list_any (λ s. may_match (out-Tree s) (out-Tree t)) sides

-- some side may match some tree
abbrev pub may_grow : List Iso → List Tree → Bool
may_grow isos list = list_any (λ iso. list_any (has_side_for iso.sides) list) isos
