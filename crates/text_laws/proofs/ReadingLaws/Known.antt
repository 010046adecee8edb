-- The rows accept no Stray, so no token of a tree is one.
use Rattle.std.proofs.Common.{◌≡◌, ℕ, refl, List, [], ◌∷◌}
use Rattle.std.specs.Prelude.{Bool, true, false, not, ◌&&◌, IsTrue}
use Rattle.std.specs.List.{list_all}
use Rattle.c_terms.specs.declared.token.Token.{Token}
use Rattle.c_terms.specs.declared.token.TokenKind.{TokenKind}
use Rattle.c_terms.specs.declared.token.TokenKind.TheVariants as token
use Rattle.c_terms.specs.declared.tree.Tree.{Tree}
use Rattle.c_rows.specs.declared.class.Class.{Class}
use Rattle.c_rows.specs.declared.class.Class.TheVariants as class
use Rattle.c_rows.specs.declared.kind.Kind.{Kind}
use Rattle.c_rows.specs.declared.kind.Family.{Family}
use Rattle.c_rows.specs.declared.kind.Family.TheVariants as family
use Rattle.c_rows.specs.declared.rule.Rule.{Rule}
use Rattle.c_rows.specs.declared.rule.Rule.TheVariants as rule
use Rattle.c_rows.specs.declared.symbol.Symbol.TheVariants as symbol
use Rattle.c_rows.specs.declared.symbol.Fork.{Fork}
use Rattle.c_rows.specs.declared.symbol.Fork.TheVariants as forks
use Rattle.c_rows.specs.Kinds.{family_of, has_leaf}
use Rattle.c_rows.specs.Words.{fits}
use Rattle.c_rows.specs.Rows.{Row, row, ways}
use Rattle.c_rows.specs.Look.{Names, class_of, look}
use Rattle.c_rows.specs.Derives.{Derives, leaf, branch, DerivesRow, done, word, child, argument, type_argument, fork}
use Rattle.c_rows.specs.Trees.{IsTreeOf}
use Rattle.c_rows.proofs.FirstChecks.{and_left, and_right, not_true, row_at}
use Rattle.edit_unparse.specs.Fair.{is_stray}

-- from the first list to the second no token is a Stray
data Known : List Token → List Token → Type 0 where
  none : {xs : List Token} → Known xs xs
  more : {t : Token} {xs ys : List Token} → is_stray t.kind ≡ false → Known xs ys → Known (t ∷ xs) ys

both : {xs ys zs : List Token} → Known xs ys → Known ys zs → Known xs zs
both none k = k
both (more e h) k = more e (both h k)

abbrev pub NoStrays : List Token → Type 0
NoStrays [] = Unit {0}
NoStrays (t ∷ tokens) = (is_stray t.kind ≡ false) × NoStrays tokens

no_strays_by : {xs ys : List Token} → Known xs ys → ys ≡ [] → NoStrays xs
no_strays_by {xs = []} none e = tt
no_strays_by {xs = x ∷ xs} none e = absurd cc
no_strays_by (more own h) e = (own, no_strays_by h e)

leaf_other : (f : Family) → has_leaf f class.Other ≡ false
leaf_other family.Expression = refl
leaf_other family.TypeName = refl
leaf_other family.Specs = refl
leaf_other family.Declarator = refl
leaf_other family.Enumerator = refl
leaf_other family.Statement = refl
leaf_other _ = refl

-- no part of the row is a token of class Other
abbrev sure : Row → Bool
sure [] = true
sure (symbol.Word w ∷ ps) = not (fits w class.Other) && sure ps
sure (symbol.Child k ∷ ps) = sure ps
sure (symbol.Argument ∷ ps) = sure ps
sure (symbol.Fork f ∷ ps) = sure ps

sure_rule : (r : Rule) → IsTrue (sure (row r))
sure_rule rule.Strings = refl
sure_rule _ = refl

sure_ways : (f : Fork) → IsTrue (list_all sure (ways f))
sure_ways forks.FirstString = refl
sure_ways _ = refl

-- a Stray's class is Other
known : (names : Names) (k : TokenKind) (s : List ℕ) (ts : List Token) (next : Class) (P : Class → Bool) → P class.Other ≡ false
    → IsTrue (P (class_of names k s ts next)) → is_stray k ≡ false
known names token.Stray s ts next P e h = let never : ⊥ = cc in absurd never
known names _ s ts next P e h = refl

known_token : (names : Names) (t : Token) (ts : List Token) (P : Class → Bool) → P class.Other ≡ false → IsTrue (P (look names (t ∷ ts)))
    → is_stray t.kind ≡ false
unfolding look
known_token names t ts P e h = known names t.kind t.text ts (look names ts) P e h

module _ (names : Names) (may : List Token → List Token → Type 0) where
  mutual
    tree_known : {k : Kind} {xs ys : List Token} {t : Tree} → Derives names may k xs t ys → Known xs ys
    tree_known {k} (leaf {t = t} {ys = ys} h) = more (known_token names t ys (has_leaf (family_of k)) (leaf_other (family_of k)) h) none
    tree_known (branch r w b al parts) = row_known parts (sure_rule r)

    row_known : {ps : Row} {xs ys : List Token} {cs : List Tree} → DerivesRow names may ps xs cs ys → IsTrue (sure ps) → Known xs ys
    row_known done h = none
    row_known (word {w = w} {ps = ps} {t = t} {xs = xs} f rest) h =
        let other : IsTrue (not (fits w class.Other)) = and_left (not (fits w class.Other)) (sure ps) h in
        more (known_token names t xs (fits w) (not_true (fits w class.Other) other) f) (row_known rest (and_right (not (fits w class.Other)) (sure ps) h))
    row_known (child d rest) h = both (tree_known d) (row_known rest h)
    row_known (argument d rest) h = both (tree_known d) (row_known rest h)
    row_known (type_argument a d rest) h = both (tree_known d) (row_known rest h)
    row_known (fork {f = f} {ps = ps} i w v way) h = row_known way (row_at sure (ways f) i ps (sure_ways f) w)

pub tree_no_strays : (k : Kind) (names : Names) (tokens : List Token) (t : Tree) → IsTreeOf k names tokens t → NoStrays tokens
tree_no_strays k names tokens t h = no_strays_by (tree_known names _ h.derived) refl
