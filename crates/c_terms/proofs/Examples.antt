-- The definitions at small trees and texts, above all where they could be read in two ways.
use Rattle.std.proofs.Common.{◌≡◌, ℕ, ◌+◌, true, false, refl, List, [], ◌∷◌, Some}
use Rattle.std.specs.Prelude.{codes}
use Rattle.std.specs.declared.cmp.Ordering.TheVariants.{Less, Greater}
use Rattle.c_terms.specs.declared.token.Token.{Token}
use Rattle.c_terms.specs.declared.token.TokenKind.{TokenKind}
use Rattle.c_terms.specs.declared.token.TokenKind.TheVariants as kind
use Rattle.c_terms.specs.declared.token.MetaKind.TheVariants as meta
use Rattle.c_terms.specs.declared.label.Label.TheVariants as label
use Rattle.c_terms.specs.declared.tree.Tree.{Tree}
use Rattle.c_terms.specs.declared.tree.Tree.TheVariants.{Leaf, Branch}
use Rattle.c_terms.specs.Trees.{leaves, levels}
use Rattle.c_terms.specs.Same.{same_token}
use Rattle.c_terms.specs.Order.{token_order, tree_order}
use Rattle.c_terms.specs.Names.{has_name, with_name, listed_names}
use Rattle.c_terms.specs.Shapes.{is_body, may_hold}
use Rattle.c_terms.specs.Places.{child}
use Rattle.c_terms.proofs.TreeLemmas.{leaves-Leaf, leaves-Branch, levels-Leaf, levels-Branch}
use Rattle.c_terms.proofs.OrderLemmas.{order-Leaf-Branch, order-Branch-Branch}
use Rattle.c_terms.proofs.PlaceLemmas.{child-Branch}

abbrev token : TokenKind → List ℕ → ℕ → Token
token k text id = record { kind = k; text = text; id = id }

abbrev name : List ℕ → ℕ → Token
name = token kind.Name

abbrev punct : List ℕ → ℕ → Token
punct = token kind.Punct

-- `f(x)`
abbrev call : ℕ → Tree
call from = Branch label.Call (Leaf (name (codes "f") from) ∷ Leaf (punct (codes "(") (from + 1))
    ∷ Branch label.Args (Leaf (name (codes "x") (from + 2)) ∷ []) ∷ Leaf (punct (codes ")") (from + 3)) ∷ [])

-- ids don't count, kinds and bytes do
ids_aside : same_token (name (codes "a") 1) (name (codes "a") 2) ≡ true
ids_aside = refl

kinds_count : same_token (name (codes "x") 1) (token (kind.Meta meta.Expr) (codes "x") 1) ≡ false
kinds_count = refl

-- a token is ordered by its kind before its bytes: the name `z` before the number `1`
kind_first : token_order (name (codes "z") 5) (token kind.Number (codes "1") 3) ≡ Less
kind_first = refl

-- metavariables are between strays and dots
meta_after_stray : token_order (token (kind.Meta meta.Expr) (codes "a") 0) (token kind.Stray (codes "z") 0) ≡ Greater
meta_after_stray = refl

meta_before_dots : token_order (token (kind.Meta meta.Params) (codes "z") 0) (token kind.Dots (codes "...") 0) ≡ Less
meta_before_dots = refl

-- a proper prefix comes first, and bytes are compared as numbers
prefix_first : token_order (name (codes "a") 0) (name (codes "ab") 0) ≡ Less
prefix_first = refl

capitals_first : token_order (name (codes "B") 0) (name (codes "a") 0) ≡ Less
capitals_first = refl

-- a leaf comes before a branch, whatever they hold
leaf_first : (a : Token) → tree_order (Leaf a) (call 0) ≡ Less
leaf_first a = order-Leaf-Branch a label.Call _

-- the label counts before the children: `( z )` before `f(x)`
label_first : tree_order (Branch label.Paren (Leaf (punct (codes "(") 0) ∷ Leaf (name (codes "z") 1) ∷ Leaf (punct (codes ")") 2) ∷ [])) (call 0) ≡ Less
label_first = order-Branch-Branch label.Paren _ label.Call _

-- an empty list of statements comes before a list of one
none_first : tree_order (Branch label.StmtList []) (Branch label.StmtList (Branch label.Empty [] ∷ [])) ≡ Less
none_first = order-Branch-Branch label.StmtList [] label.StmtList (Branch label.Empty [] ∷ [])

call_leaves : leaves (call 7) ≡ name (codes "f") 7 ∷ punct (codes "(") 8 ∷ name (codes "x") 9 ∷ punct (codes ")") 10 ∷ []
call_leaves = simp (leaves-Branch, leaves-Leaf)

call_levels : levels (call 7) ≡ 2
call_levels = simp (levels-Branch, levels-Leaf)

call_argument : child (call 7) 2 ≡ Some (Branch label.Args (Leaf (name (codes "x") 9) ∷ []))
call_argument = child-Branch label.Call _ 2

listed : has_name listed_names (codes "u8") ≡ true
listed = refl

not_listed : has_name listed_names (codes "u128") ≡ false
not_listed = refl

-- a name that is there stays where it is
known_stays : with_name (codes "a" ∷ codes "b" ∷ []) (codes "a") ≡ codes "a" ∷ codes "b" ∷ []
known_stays = refl

new_goes_last : with_name (codes "a" ∷ codes "b" ∷ []) (codes "c") ≡ codes "a" ∷ codes "b" ∷ codes "c" ∷ []
new_goes_last = refl

-- `if (c) s` has its body at 4, `if (c) s else t` at 4 and 6, `for (;;) s` at its end, `do s while (c);` at 1
if_body : is_body label.If 5 4 ≡ true
if_body = refl

else_body : is_body label.IfElse 7 6 ≡ true
else_body = refl

else_word : is_body label.IfElse 7 5 ≡ false
else_word = refl

for_body : is_body label.For 6 5 ≡ true
for_body = refl

do_body : is_body label.Do 7 1 ≡ true
do_body = refl

do_semicolon : is_body label.Do 7 6 ≡ false
do_semicolon = refl

-- a member's name fills no expression part, though it is a name
member_name : may_hold label.Member 2 ≡ false
member_name = refl

-- nor does a declarator's name
array_name : may_hold label.DArray 0 ≡ false
array_name = refl
