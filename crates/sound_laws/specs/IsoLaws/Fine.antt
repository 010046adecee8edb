-- Isomorphisms that add no variable to a pattern, and no branch that is too wide.
use Rattle.std.specs.Prelude.{ℕ, ◌≡◌, ◌+◌, ⊤, Bool, true, false, not, ◌&&◌, ◌||◌, nat_lt, List, [], ◌∷◌}
use Rattle.std.specs.List.{list_any, list_all}
use Rattle.c_terms.specs.declared.token.Token.{Token}
use Rattle.c_terms.specs.declared.token.TokenKind.{TokenKind}
use Rattle.c_terms.specs.declared.token.TokenKind.TheVariants as kind
use Rattle.c_terms.specs.declared.tree.Tree.{Tree}
use Rattle.c_terms.specs.Same.{same_bytes}
use Rattle.c_terms.specs.Trees.{leaves, width}
use Rattle.smpl_patch.specs.declared.rule.Iso.{Iso}
use Rattle.iso_expand.specs.IsoForms.Replacing.{may_become}

abbrev pub is_variable : TokenKind → Bool
is_variable (kind.Meta k) = true
is_variable _ = false

-- a variable of this name is among the tokens
abbrev pub holds : List Token → List ℕ → Bool
holds tokens name = list_any (λ a. is_variable a.kind && same_bytes a.text name) tokens

-- each variable of the second side occurs in the first
abbrev pub covers : Tree → Tree → Bool
covers s t = list_all (λ a. not (is_variable a.kind) || holds (leaves s) a.text) (leaves t)

-- side i covers each of these sides that may replace it; the first of them has the number j
abbrev pub covers_from : List Bool → (i j : ℕ) → Tree → List Tree → Bool
covers_from both i j s [] = true
covers_from both i j s (t ∷ ts) = (not (may_become both i j) || covers s t) && covers_from both i (j + 1) s ts

-- each of these sides, the first of which has the number i, covers each that may replace it
abbrev pub all_cover : Iso → ℕ → List Tree → Bool
all_cover iso i [] = true
all_cover iso i (s ∷ ss) = covers_from iso.both i 0 s iso.sides && all_cover iso (i + 1) ss

-- no variable is lost when a side is replaced by another, and each branch of a side has fewer than 2^32 children
pub record IsFine (iso : Iso) : Type 0 where
  pub covered : all_cover iso 0 iso.sides ≡ true
  pub narrow : list_all (λ s. nat_lt (width s) 4294967296) iso.sides ≡ true

abbrev pub AreFine : List Iso → Type 0
AreFine [] = ⊤
AreFine (iso ∷ isos) = IsFine iso × AreFine isos
