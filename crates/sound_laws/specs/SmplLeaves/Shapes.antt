-- The shape of trees that rows build: what a law on their tokens requires of them.
use Rattle.std.specs.Prelude.{◌≡◌, Bool, true, false, ◌&&◌, ◌||◌, nat_lt, if◌then◌else◌, List, [], ◌∷◌, length, slice_get}
use Rattle.std.specs.List.{list_all}
use Rattle.c_terms.specs.declared.token.Token.{Token}
use Rattle.c_terms.specs.declared.token.TokenKind.{TokenKind}
use Rattle.c_terms.specs.declared.token.TokenKind.TheVariants as kind
use Rattle.c_terms.specs.declared.label.Label.{Label}
use Rattle.c_terms.specs.declared.label.Label.TheVariants as label
use Rattle.c_terms.specs.declared.tree.Tree.{Tree, out-Tree}
use Rattle.c_terms.specs.declared.tree.Tree.TheOpen.{Tree-F}
use Rattle.c_terms.specs.declared.tree.Tree.TheVariants.{Leaf, Branch}
use Rattle.smpl_body.specs.SmplElem.Forms.{is_list, is_list_at, first_kid, last_kid}

abbrev pub is_sign_kind : TokenKind → Bool
is_sign_kind kind.Pat = true
is_sign_kind _ = false

abbrev pub is_sign_in : Tree-F Tree → Bool
is_sign_in (Tree-F.Leaf t) = is_sign_kind t.kind
is_sign_in (Tree-F.Branch l cs) = false

-- a sign of patterns
abbrev pub is_sign : Tree → Bool
is_sign t = is_sign_in (out-Tree t)

abbrev pub lists_and_signs : List Tree → Bool
lists_and_signs cs = list_all (λ c. is_list c || is_sign c) cs

-- a block and a nest have a first and a last child, and those of a nest are signs; lists of statements are separated by
-- signs
abbrev pub has_shape : Label → List Tree → Bool
has_shape label.Block cs = nat_lt 1 (length cs)
has_shape label.PatNest cs = nat_lt 1 (length cs) && (is_sign (first_kid cs) && is_sign (last_kid cs))
has_shape label.PatOr cs = if is_list_at (slice_get cs 1) then lists_and_signs cs else true
has_shape label.PatAnd cs = if is_list_at (slice_get cs 1) then lists_and_signs cs else true
has_shape l cs = true

mutual
  pub data Shaped : Tree → Type 0 where
    token : (a : Token) → Shaped (Leaf a)
    branch : (l : Label) (cs : List Tree) → has_shape l cs ≡ true → AllShaped cs → Shaped (Branch l cs)

  pub data AllShaped : List Tree → Type 0 where
    none : AllShaped []
    more : (c : Tree) (cs : List Tree) → Shaped c → AllShaped cs → AllShaped (c ∷ cs)
