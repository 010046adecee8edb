-- How a tree is written out: the texts of its tokens, with a space between two neighbours that run together or that are
-- written with one in C.
use Rattle.std.specs.Prelude.{ℕ, ◌+◌, ◌==◌, ◌&&◌, ◌||◌, Bool, true, false, List, [], ◌∷◌, ◌++◌, Option, None, Some, if◌then◌else◌, codes}
use Rattle.std.specs.Str.{bytes_eq}
use Rattle.c_terms.specs.declared.label.Label.{Label}
use Rattle.c_terms.specs.declared.label.Label.TheVariants.{Binary, Assign, Cond, CondShort, InitDecl, Pointer}
use Rattle.c_terms.specs.declared.token.Token.{Token}
use Rattle.c_terms.specs.declared.token.TokenKind.{TokenKind}
use Rattle.c_terms.specs.declared.token.TokenKind.TheVariants.{Name, Keyword}
use Rattle.c_terms.specs.declared.tree.Tree.{Tree}
use Rattle.c_terms.specs.declared.tree.Tree.TheOpen.{Tree-F}
use Rattle.c_terms.specs.declared.tree.Tree.TheFolds.{fold-Tree}
use Rattle.c_show.specs.declared.page.Role.{Role}
use Rattle.c_show.specs.declared.page.Role.TheVariants.{Plain, Operator, Star}
use Rattle.c_show.specs.Joint.{runs_together}

abbrev pub operator_if : Bool → Role
operator_if true = Operator
operator_if false = Plain

-- the part that a token plays as the child with this index
abbrev pub role_of : Label → ℕ → Role
role_of Binary n = operator_if (n == 1)
role_of Assign n = operator_if (n == 1)
role_of Cond n = operator_if (n == 1 || n == 3)
role_of CondShort n = operator_if (n == 1 || n == 2)
role_of InitDecl n = operator_if (n == 1)
role_of Pointer n = if n == 0 then Star else Plain
role_of l n = Plain

-- a token and the part that it plays
pub record Shown : Type 0 where
  pub kind : TokenKind
  pub text : List ℕ
  pub role : Role

abbrev pub shown_token : Token → Role → Shown
shown_token t role = record { kind = t.kind; text = t.text; role = role }

abbrev pub shown_kids : Label → ℕ → List (Role → List Shown) → List Shown
shown_kids l n [] = []
shown_kids l n (f ∷ fs) = f (role_of l n) ++ shown_kids l (n + 1) fs

abbrev pub shown_step : Tree-F (Role → List Shown) → Role → List Shown
shown_step (Tree-F.Leaf t) role = shown_token t role ∷ []
shown_step (Tree-F.Branch l fs) role = shown_kids l 0 fs

-- the tokens from left to right, with the parts that they play; the tree as a whole plays the given one
abbrev pub shown : Tree → Role → List Shown
shown = fold-Tree (Role → List Shown) shown_step

abbrev pub is_operator : Role → Bool
is_operator Plain = false
is_operator Operator = true
is_operator Star = false

abbrev pub is_star : Role → Bool
is_star Plain = false
is_star Operator = false
is_star Star = true

abbrev pub is_named : TokenKind → Bool
is_named Name = true
is_named Keyword = true
is_named kind = false

-- whether a space comes after it
abbrev pub is_wide_after : List ℕ → Bool
is_wide_after text = bytes_eq text (codes ",") || bytes_eq text (codes ";") || bytes_eq text (codes "{")

-- whether a space comes before it
abbrev pub is_wide_before : List ℕ → Bool
is_wide_before text = bytes_eq text (codes "{") || bytes_eq text (codes "}")

-- whether a space separates two neighbours
abbrev pub is_parted : Shown → Shown → Bool
is_parted t u =
    runs_together t.text u.text || is_wide_after t.text || is_wide_before u.text
    || is_operator t.role || is_operator u.role || is_named t.kind && is_star u.role

abbrev pub blank_before : Option Shown → Shown → List ℕ
blank_before None u = []
blank_before (Some t) u = if is_parted t u then 32 ∷ [] else []

-- the texts with the spaces between them, after the given token if there is one
abbrev pub joined : Option Shown → List Shown → List ℕ
joined left [] = []
joined left (u ∷ us) = blank_before left u ++ (u.text ++ joined (Some u) us)

-- the tree written out
abbrev pub show_of : Tree → List ℕ
show_of t = joined None (shown t Plain)
