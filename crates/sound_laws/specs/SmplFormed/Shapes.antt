-- The shape of the trees that rows build: where lists of statements, dots and nests occur in them.
use Rattle.std.specs.Prelude.{◌≡◌, ◌≤◌, ℕ, suc, Bool, true, false, not, ◌&&◌, nat_le, if◌then◌else◌, Option, None, Some, List, [], ◌∷◌, length, slice_get}
use Rattle.std.specs.List.{list_all}
use Rattle.c_terms.specs.declared.token.Token.{Token}
use Rattle.c_terms.specs.declared.label.Label.{Label}
use Rattle.c_terms.specs.declared.label.Label.TheVariants as label
use Rattle.c_terms.specs.declared.tree.Tree.{Tree, out-Tree}
use Rattle.c_terms.specs.declared.tree.Tree.TheOpen.{Tree-F}
use Rattle.c_terms.specs.declared.tree.Tree.TheVariants.{Leaf, Branch}
use Rattle.smpl_patch.specs.Patterns.{is_sign_tree}
use Rattle.smpl_body.specs.SmplElem.Forms.{is_list, is_list_at, first_kid, last_kid}
use Rattle.smpl_body.specs.DotsOf.{is_dots}

abbrev pub is_nest_label : Label → Bool
is_nest_label label.PatNest = true
is_nest_label _ = false

abbrev pub is_dots_in : Tree-F Tree → Bool
is_dots_in (Tree-F.Leaf t) = is_dots t.kind
is_dots_in (Tree-F.Branch l cs) = is_nest_label l

-- dots or a nest
abbrev pub is_dots_tree : Tree → Bool
is_dots_tree t = is_dots_in (out-Tree t)

abbrev pub is_leaf_in : Tree-F Tree → Bool
is_leaf_in (Tree-F.Leaf t) = true
is_leaf_in (Tree-F.Branch l cs) = false

abbrev pub is_leaf : Tree → Bool
is_leaf t = is_leaf_in (out-Tree t)

-- the first is dots or a nest
abbrev pub begins : List Tree → Bool
begins [] = false
begins (t ∷ ts) = is_dots_tree t

abbrev pub finishes : List Tree → Bool
finishes [] = false
finishes (t ∷ []) = is_dots_tree t
finishes (t ∷ u ∷ ts) = finishes (u ∷ ts)

-- no two of dots and nests are adjacent
abbrev pub apart : List Tree → Bool
apart [] = true
apart (t ∷ ts) = not (is_dots_tree t && begins ts) && apart ts

abbrev pub unlisted : List Tree → Bool
unlisted cs = list_all (λ c. not (is_list c)) cs

abbrev pub undotted : List Tree → Bool
undotted cs = list_all (λ c. not (is_dots_tree c)) cs

-- the number of lists of statements
abbrev pub lists : List Tree → ℕ
lists [] = 0
lists (c ∷ cs) = if is_list c then suc (lists cs) else lists cs

abbrev pub is_sign_at : Option Tree → Bool
is_sign_at None = true
is_sign_at (Some t) = is_sign_tree t

-- there is a first branch, and it is no sign
abbrev pub has_branch : List Tree → Bool
has_branch cs = not (is_sign_at (slice_get cs 1))

-- between signs there are at least two lists of statements, or else only expressions
abbrev pub is_choice : List Tree → Bool
is_choice cs = has_branch cs && (if is_list_at (slice_get cs 1) then nat_le 2 (lists cs) && undotted cs else true)

abbrev pub is_firm : Label → List Tree → Bool
is_firm label.PatOr cs = has_branch cs
is_firm l cs = true

-- Lists of statements occur only between the signs of a disjunction or a conjunction. No two of dots and nests are adjacent
-- in a list of statements. A nest begins and ends with a token.
abbrev pub has_form : Label → List Tree → Bool
has_form label.PatOr cs = is_choice cs
has_form label.PatAnd cs = is_choice cs
has_form label.StmtList cs = unlisted cs && apart cs
has_form label.Block cs = unlisted cs && apart cs
has_form label.PatNest cs = unlisted cs && (apart cs && (is_leaf (first_kid cs) && is_leaf (last_kid cs)))
has_form l cs = unlisted cs

mutual
  -- a tree each branch of which has its form, and at most this many children
  pub data Formed (most : ℕ) : Tree → Type 0 where
    token : (a : Token) → Formed most (Leaf a)
    branch : (l : Label) (cs : List Tree) → has_form l cs ≡ true → length cs ≤ most → AllFormed most cs → Formed most (Branch l cs)

  pub data AllFormed (most : ℕ) : List Tree → Type 0 where
    none : AllFormed most []
    more : (c : Tree) (cs : List Tree) → Formed most c → AllFormed most cs → AllFormed most (c ∷ cs)

mutual
  -- a tree each token of which passes the test, and each branch of which is firm and has at most this many children
  pub data Sound (ok : Token → Bool) (most : ℕ) : Tree → Type 0 where
    sound_token : (a : Token) → ok a ≡ true → Sound ok most (Leaf a)
    sound_branch : (l : Label) (cs : List Tree) → is_firm l cs ≡ true → length cs ≤ most → AllSound ok most cs → Sound ok most (Branch l cs)

  pub data AllSound (ok : Token → Bool) (most : ℕ) : List Tree → Type 0 where
    no_more : AllSound ok most []
    one_more : (c : Tree) (cs : List Tree) → Sound ok most c → AllSound ok most cs → AllSound ok most (c ∷ cs)
