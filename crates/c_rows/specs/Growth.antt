-- How a left-grouping tree grows from its first operand.
use Rattle.std.specs.Prelude.{◌≡◌, Bool, true, IsTrue, Option, Some, None, List, ◌∷◌}
use Rattle.c_terms.specs.declared.tree.Tree.{Tree}
use Rattle.c_terms.specs.declared.tree.Tree.TheVariants as tree
use Rattle.c_rows.specs.declared.class.Class.{Class}
use Rattle.c_rows.specs.declared.kind.Kind.{Kind}
use Rattle.c_rows.specs.declared.kind.Family.{Family}
use Rattle.c_rows.specs.declared.rule.Rule.{Rule}
use Rattle.c_rows.specs.Kinds.{family_of, has_leaf, within}
use Rattle.c_rows.specs.Rows.{kind_of, build}
use Rattle.c_rows.specs.Branches.{begins, allows}
use Rattle.c_rows.specs.Choice.{bottom, ends, left, own}
use Rattle.c_rows.specs.Seen.{Seen, front}
use Rattle.c_rows.specs.Spells.{Runs}

-- a tree's rule, or None for a leaf
abbrev pub Root : Type 0
Root = Option Rule

abbrev pub root_kind : Family → Root → Kind
root_kind f None = bottom f
root_kind f (Some r) = kind_of r

abbrev pub root_ends : Root → Class → Bool
root_ends None c = true
root_ends (Some r) c = ends (own r) c

-- a tree that begins with a token of its own and not with a tree to its left
pub data Operand (m : Kind) : Root → List Seen → Tree → List Seen → Type 0 where
  token : {s : Seen} {ys : List Seen} → IsTrue (has_leaf (family_of m) s.class) → Operand m None (s ∷ ys) (tree.Leaf s.token) ys
  headed : {xs ys : List Seen} {cs : List Tree} → (r : Rule) → IsTrue (within (kind_of r) m) → left r ≡ None
      → IsTrue (begins r (front xs)) → IsTrue (allows r cs) → Runs (own r) xs cs ys
      → Operand m (Some r) xs (build r cs) ys

-- the first tree, which ends at the first list, is the left end of the second, which ends at the second
pub data Grows (m : Kind) : Root → Tree → List Seen → Root → Tree → List Seen → Type 0 where
  here : {q : Root} {t : Tree} {xs : List Seen} → Grows m q t xs q t xs
  more : {p q : Root} {a t : Tree} {xs ys zs : List Seen} {cs : List Tree} → (r : Rule) (l : Kind) → IsTrue (within (kind_of r) m) → left r ≡ Some l
      → IsTrue (within (root_kind (family_of m) p) l) → IsTrue (allows r (a ∷ cs)) → Runs (own r) xs cs ys
      → Grows m (Some r) (build r (a ∷ cs)) ys q t zs → Grows m p a xs q t zs
