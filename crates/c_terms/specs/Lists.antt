-- The members of a list of arguments or parameters, and runs of them.
use Rattle.std.specs.Prelude.{Bool, true, false, ◌&&◌, List, [], ◌∷◌, ◌++◌, Option, None, Some, if◌then◌else◌, codes}
use Rattle.c_terms.specs.declared.label.Label.{Label}
use Rattle.c_terms.specs.declared.token.Token.{Token}
use Rattle.c_terms.specs.declared.token.TokenKind.{TokenKind}
use Rattle.c_terms.specs.declared.token.TokenKind.TheVariants as kind
use Rattle.c_terms.specs.declared.list.Member.{Member}
use Rattle.c_terms.specs.declared.tree.Tree.{Tree, out-Tree}
use Rattle.c_terms.specs.declared.tree.Tree.TheOpen.{Tree-F}
use Rattle.c_terms.specs.declared.tree.Tree.TheVariants.{Leaf, Branch}
use Rattle.c_terms.specs.Same.{same_bytes}

abbrev pub is_punct : TokenKind → Bool
is_punct kind.Punct = true
is_punct _ = false

-- the token `,`
abbrev pub is_comma : Token → Bool
is_comma token = is_punct token.kind && same_bytes token.text (codes ",")

abbrev pub comma_at : Tree-F Tree → Option Token
comma_at (Tree-F.Leaf token) = if is_comma token then Some token else None
comma_at (Tree-F.Branch l cs) = None

-- the token of a child of a list, if it is a comma
abbrev pub comma : Tree → Option Token
comma t = comma_at (out-Tree t)

-- the members after a comma, or at the beginning
abbrev pub members_from : Option Token → List Tree → List Member
members_from before [] = []
members_from before (t ∷ ts) = elim (comma t) as (λ o. List Member) [
  | None ↦ record { comma = before; tree = t } ∷ members_from None ts
  | Some c ↦ members_from (Some c) ts
]

-- the children that are not commas, each with the comma before it: the later one if two commas are side by side
abbrev pub members : List Tree → List Member
members = members_from None

abbrev pub comma_kids : Option Token → List Tree
comma_kids None = []
comma_kids (Some token) = Leaf token ∷ []

abbrev pub more_kids : List Member → List Tree
more_kids [] = []
more_kids (m ∷ ms) = comma_kids m.comma ++ m.tree ∷ more_kids ms

-- the children of a run of members: the commas between them are part of it, and the one before the first is not
abbrev pub run_kids : List Member → List Tree
run_kids [] = []
run_kids (m ∷ ms) = m.tree ∷ more_kids ms

-- a run of members as a list of this label
abbrev pub run : Label → List Member → Tree
run l ms = Branch l (run_kids ms)
