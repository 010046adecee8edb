-- Which trees the rows derive from the tokens.
use Rattle.std.specs.Prelude.{◌≡◌, ⊤, ℕ, IsTrue, Some, List, [], ◌∷◌, slice_get}
use Rattle.c_terms.specs.declared.token.Token.{Token}
use Rattle.c_terms.specs.declared.tree.Tree.{Tree}
use Rattle.c_terms.specs.declared.tree.Tree.TheVariants as tree
use Rattle.c_rows.specs.declared.word.Word as words
use Rattle.c_rows.specs.declared.kind.Kind.{Kind}
use Rattle.c_rows.specs.declared.kind.Kind.TheVariants as kind
use Rattle.c_rows.specs.declared.rule.Rule.{Rule}
use Rattle.c_rows.specs.declared.symbol.Symbol.TheVariants.{Word, Child, Argument, Fork}
use Rattle.c_rows.specs.declared.symbol.Fork as forks
use Rattle.c_rows.specs.Look.{Names, look}
use Rattle.c_rows.specs.Words.{fits}
use Rattle.c_rows.specs.Kinds.{family_of, within, has_leaf}
use Rattle.c_rows.specs.Rows.{Row, ways, row, kind_of, build}
use Rattle.c_rows.specs.Branches.{begins, allows, may_go}

-- `may` takes two lists, the second of which is the end of the first, and says whether a type that spells the tokens
-- between them may be a member of an argument list.
module _ (names : Names) (may : List Token → List Token → Type 0) where
  mutual
    -- By the rows, a tree of this kind spells the tokens from the first list to the second.
    pub data Derives : Kind → List Token → Tree → List Token → Type 0 where
      -- a token by itself
      leaf : {m : Kind} {t : Token} {ys : List Token} → IsTrue (has_leaf (family_of m) (look names (t ∷ ys))) → Derives m (t ∷ ys) (tree.Leaf t) ys
      -- the parts of a row
      branch : {m : Kind} {xs ys : List Token} {cs : List Tree} → (r : Rule) → IsTrue (within (kind_of r) m) → IsTrue (begins r (look names xs))
          → IsTrue (allows r cs) → DerivesRow (row r) xs cs ys → Derives m xs (build r cs) ys

    -- trees in the order of a row's parts
    pub data DerivesRow : Row → List Token → List Tree → List Token → Type 0 where
      done : {xs : List Token} → DerivesRow [] xs [] xs
      word : {w : words.Word} {ps : Row} {t : Token} {xs ys : List Token} {cs : List Tree} → IsTrue (fits w (look names (t ∷ xs)))
          → DerivesRow ps xs cs ys → DerivesRow (Word w ∷ ps) (t ∷ xs) (tree.Leaf t ∷ cs) ys
      child : {k : Kind} {ps : Row} {xs ys zs : List Token} {t : Tree} {cs : List Tree} → Derives k xs t ys
          → DerivesRow ps ys cs zs → DerivesRow (Child k ∷ ps) xs (t ∷ cs) zs
      -- a member of an argument list: an expression without commas, or a type if `may` allows it
      argument : {ps : Row} {xs ys zs : List Token} {t : Tree} {cs : List Tree} → Derives kind.AssignLevel xs t ys
          → DerivesRow ps ys cs zs → DerivesRow (Argument ∷ ps) xs (t ∷ cs) zs
      type_argument : {ps : Row} {xs ys zs : List Token} {t : Tree} {cs : List Tree} → may xs ys → Derives kind.TypeArg xs t ys
          → DerivesRow ps ys cs zs → DerivesRow (Argument ∷ ps) xs (t ∷ cs) zs
      -- one of the ways of a fork
      fork : {f : forks.Fork} {ps : Row} {xs ys : List Token} {cs : List Tree} → (i : ℕ) → slice_get (ways f) i ≡ Some ps → IsTrue (may_go f ps (look names xs))
          → DerivesRow ps xs cs ys → DerivesRow (Fork f ∷ []) xs cs ys

-- the rows alone: a type may be a member wherever an expression may
abbrev pub Anywhere : List Token → List Token → Type 0
Anywhere xs ys = ⊤
