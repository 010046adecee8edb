-- When a tree matches a side, and what the side's variables stand for then. Ids don't count. If a variable stands for
-- several equal trees, the first from the left is its value.
use Rattle.std.specs.Prelude.{ℕ, Bool, false, if◌then◌else◌, List, [], ◌∷◌, ◌++◌, Option, Some, None}
use Rattle.c_terms.specs.declared.token.Token.{Token}
use Rattle.c_terms.specs.declared.token.TokenKind.{TokenKind}
use Rattle.c_terms.specs.declared.token.TokenKind.TheVariants as kind
use Rattle.c_terms.specs.declared.token.MetaKind.{MetaKind}
use Rattle.c_terms.specs.declared.label.Label.{Label}
use Rattle.c_terms.specs.declared.tree.Tree.{Tree, out-Tree}
use Rattle.c_terms.specs.declared.tree.Tree.TheOpen.{Tree-F}
use Rattle.c_terms.specs.declared.tree.Tree.TheFolds.{fold-Tree}
use Rattle.c_terms.specs.Same.{same_bytes, same_token, same_label, same_tree}
use Rattle.smpl_patch.specs.declared.pattern.VarDecl.{VarDecl}
use Rattle.iso_expand.specs.declared.iso_forms.matching.Bound.{Bound}
use Rattle.iso_expand.specs.IsoForms.Kinds.{is_of_kind, excepted}

abbrev pub value : List Bound → List ℕ → Option Tree
value [] name = None
value (b ∷ bs) name = if same_bytes b.name name then Some b.tree else value bs name

-- whether a tree matches: what its variables and those before it stand for
abbrev pub Matcher : Type 0
Matcher = Tree → List Bound → Option (List Bound)

-- a variable that stands for nothing yet, and a variable that has a value
abbrev pub bind : Option Tree → List ℕ → Matcher
bind None name t bs = Some (bs ++ record { name = name; tree = t } ∷ [])
bind (Some v) name t bs = if same_tree v t then Some bs else None

abbrev pub is_same_leaf : Token → Tree-F Tree → Bool
is_same_leaf a (Tree-F.Leaf b) = same_token a b
is_same_leaf a (Tree-F.Branch k us) = false

abbrev pub each : List Matcher → List Tree → List Bound → Option (List Bound)
each [] [] bs = Some bs
each [] (t ∷ ts) bs = None
each (m ∷ ms) [] bs = None
each (m ∷ ms) (t ∷ ts) bs = elim (m t bs) as (λ o. Option (List Bound)) [
  | None ↦ None
  | Some more ↦ each ms ts more
]

abbrev pub match_branch : Label → List Matcher → Tree-F Tree → List Bound → Option (List Bound)
match_branch l ms (Tree-F.Leaf b) bs = None
match_branch l ms (Tree-F.Branch k us) bs = if same_label l k then each ms us bs else None

module _ (vars : List VarDecl) where
  abbrev pub match_variable : MetaKind → List ℕ → Matcher
  match_variable k name t bs = if is_of_kind k (excepted vars name) (out-Tree t) then bind (value bs name) name t bs else None

  abbrev pub match_leaf : TokenKind → Token → Matcher
  match_leaf (kind.Meta k) a t bs = match_variable k a.text t bs
  match_leaf _ a t bs = if is_same_leaf a (out-Tree t) then Some bs else None

  abbrev pub match_step : Tree-F Matcher → Matcher
  match_step (Tree-F.Leaf a) t bs = match_leaf a.kind a t bs
  match_step (Tree-F.Branch l ms) t bs = match_branch l ms (out-Tree t) bs

  abbrev pub matched : Tree → Matcher
  matched = fold-Tree Matcher match_step
