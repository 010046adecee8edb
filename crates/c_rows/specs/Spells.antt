-- Which trees the rows allow.
use Rattle.std.specs.Prelude.{◌≡◌, ℕ, Bool, true, false, IsTrue, Some, List, [], ◌∷◌, slice_get}
use Rattle.c_terms.specs.declared.tree.Tree.{Tree}
use Rattle.c_terms.specs.declared.tree.Tree.TheVariants as tree
use Rattle.c_rows.specs.declared.word.Word as words
use Rattle.c_rows.specs.declared.kind.Kind.{Kind}
use Rattle.c_rows.specs.declared.kind.Kind.TheVariants as kind
use Rattle.c_rows.specs.declared.rule.Rule.{Rule}
use Rattle.c_rows.specs.declared.symbol.Symbol.TheVariants.{Word, Child, Argument, Fork}
use Rattle.c_rows.specs.declared.symbol.Fork as forks
use Rattle.c_rows.specs.Words.{fits}
use Rattle.c_rows.specs.Kinds.{family_of, within, has_leaf}
use Rattle.c_rows.specs.Rows.{Row, ways, row, kind_of, build}
use Rattle.c_rows.specs.Branches.{begins, allows, may_go}
use Rattle.c_rows.specs.Seen.{Seen, front, front_typed}

-- A member of an argument list is a type if no expression can be there, and otherwise an expression without commas.
abbrev pub member_kind : Bool → Kind
member_kind true = kind.TypeArg
member_kind false = kind.AssignLevel

mutual
  -- a tree of this kind spells the tokens from the first list to the second
  pub data Spells : Kind → List Seen → Tree → List Seen → Type 0 where
    -- a token by itself
    leaf : {m : Kind} {s : Seen} {ys : List Seen} → IsTrue (has_leaf (family_of m) s.class) → Spells m (s ∷ ys) (tree.Leaf s.token) ys
    -- the parts of a row
    branch : {m : Kind} {xs ys : List Seen} {cs : List Tree} → (r : Rule) → IsTrue (within (kind_of r) m) → IsTrue (begins r (front xs)) → IsTrue (allows r cs)
        → Runs (row r) xs cs ys → Spells m xs (build r cs) ys

  -- trees in the order of a row's parts
  pub data Runs : Row → List Seen → List Tree → List Seen → Type 0 where
    done : {xs : List Seen} → Runs [] xs [] xs
    word : {w : words.Word} {ps : Row} {s : Seen} {xs ys : List Seen} {cs : List Tree} → IsTrue (fits w s.class)
        → Runs ps xs cs ys → Runs (Word w ∷ ps) (s ∷ xs) (tree.Leaf s.token ∷ cs) ys
    child : {k : Kind} {ps : Row} {xs ys zs : List Seen} {t : Tree} {cs : List Tree} → Spells k xs t ys
        → Runs ps ys cs zs → Runs (Child k ∷ ps) xs (t ∷ cs) zs
    argument : {ps : Row} {xs ys zs : List Seen} {t : Tree} {cs : List Tree} → Spells (member_kind (front_typed xs)) xs t ys
        → Runs ps ys cs zs → Runs (Argument ∷ ps) xs (t ∷ cs) zs
    -- one of the ways of a fork
    fork : {f : forks.Fork} {ps : Row} {xs ys : List Seen} {cs : List Tree} → (i : ℕ) → slice_get (ways f) i ≡ Some ps → IsTrue (may_go f ps (front xs))
        → Runs ps xs cs ys → Runs (Fork f ∷ []) xs cs ys
