-- Each expression in a tree that rows derive has a token.
-- Proof: each row of an expression has a word, or begins with one in each of its ways.
use Rattle.std.proofs.Common.{◌≡◌, ℕ, zero, suc, ◌+◌, ◌<◌, Bool, true, false, ◌&&◌, cond, refl, sym, subst, ◌∙◌, arith, length-append}
use Rattle.std.proofs.Common.{List, [], ◌∷◌, ◌++◌, map, length, Some, slice_get}
use Rattle.std.specs.Prelude.{IsTrue}
use Rattle.std.specs.List.{list_all}
use Rattle.std.proofs.lemmas.Option.{none-some, same_Some, option_and_then_some}
use Rattle.c_terms.specs.declared.token.Token.{Token}
use Rattle.c_terms.specs.declared.label.Label.{Label}
use Rattle.c_terms.specs.declared.label.Label.TheVariants as label
use Rattle.c_terms.specs.declared.tree.Tree.{Tree, out-Tree}
use Rattle.c_terms.specs.declared.tree.Tree.TheVariants.{Leaf, Branch}
use Rattle.c_terms.specs.Trees.{join, leaves}
use Rattle.c_terms.specs.Places.{Place, below, child as child_of, subtree, part_at, parts, parts_from}
use Rattle.c_terms.specs.Shapes.{expression_at, is_expression, is_expression_label, is_expression_part, may_hold}
use Rattle.c_terms.proofs.Induct.{Each, tree_induction}
use Rattle.c_terms.proofs.TreeLemmas.{leaves-Leaf, leaves-Branch}
use Rattle.c_terms.proofs.SameLemmas.{out-Branch}
use Rattle.c_terms.proofs.PlaceLemmas.{child-Leaf, child-Branch}
use Rattle.c_terms.proofs.PlaceLaws.{child_known, parts-Leaf, parts-Branch}
use Rattle.c_terms.proofs.FoundLaws.{parts-found}
use Rattle.c_rows.specs.declared.kind.Kind.{Kind}
use Rattle.c_rows.specs.declared.rule.Rule.{Rule}
use Rattle.c_rows.specs.declared.rule.Rule.TheVariants as rule
use Rattle.c_rows.specs.declared.symbol.Symbol.TheVariants as symbol
use Rattle.c_rows.specs.Labels.{labelled, is_block_label, is_blockless, external_label, macro_label}
use Rattle.c_rows.specs.Rows.{Row, ways, row, label_of}
use Rattle.c_rows.specs.Look.{Names}
use Rattle.c_rows.specs.Derives.{Derives, leaf, branch, DerivesRow, done, word, child, argument, type_argument, fork}
use Rattle.c_rows.proofs.Checks.{and_left, and_right}

-- ---- rows with words

abbrev begins_with_word : Row → Bool
begins_with_word (symbol.Word w ∷ ps) = true
begins_with_word _ = false

-- a word is among the parts, or first in each way of a fork
abbrev has_word : Row → Bool
has_word [] = false
has_word (symbol.Word w ∷ ps) = true
has_word (symbol.Child k ∷ ps) = has_word ps
has_word (symbol.Argument ∷ ps) = has_word ps
has_word (symbol.Fork f ∷ ps) = list_all begins_with_word (ways f)

begins-has : (ps : Row) → IsTrue (begins_with_word ps) → IsTrue (has_word ps)
begins-has [] h = h
begins-has (symbol.Word w ∷ ps) h = refl
begins-has (symbol.Child k ∷ ps) h = let never : ⊥ = cc in absurd never
begins-has (symbol.Argument ∷ ps) h = let never : ⊥ = cc in absurd never
begins-has (symbol.Fork f ∷ ps) h = let never : ⊥ = cc in absurd never

way-begins : (rows : List Row) (i : ℕ) (ps : Row) → IsTrue (list_all begins_with_word rows) → slice_get rows i ≡ Some ps → IsTrue (begins_with_word ps)
way-begins [] i ps h e = absurd (none-some ps e)
way-begins (r ∷ rows) zero ps h e =
    subst (λ (x : Row). IsTrue (begins_with_word x)) (same_Some r ps e) (and_left (begins_with_word r) (list_all begins_with_word rows) h)
way-begins (r ∷ rows) (suc i) ps h e = way-begins rows i ps (and_right (begins_with_word r) (list_all begins_with_word rows) h) e

-- the label of an item is none of an expression
item-label : (cs : List Tree) → is_expression_label (external_label cs) ≡ false
item-label [] = refl
item-label (a ∷ []) = refl
item-label (a ∷ b ∷ []) = refl
item-label (a ∷ b ∷ c ∷ []) = by (labelled is_block_label (out-Tree c))
  where
    by : (d : Bool) → is_expression_label (cond d label.FunDef label.Decl) ≡ false
    by true = refl
    by false = refl
item-label (a ∷ b ∷ c ∷ d ∷ cs) = refl

macro-label : (d : Bool) → is_expression_label (cond d label.MacroItem label.MacroFun) ≡ false
macro-label true = refl
macro-label false = refl

never : {A : Type 0} (b : Bool) → b ≡ false → IsTrue b → A
never true e h = let no : ⊥ = cc in absurd no
never false e h = let no : ⊥ = cc in absurd no

-- a row of an expression has a word
words_in : (r : Rule) (cs : List Tree) → IsTrue (is_expression_label (label_of r cs)) → IsTrue (has_word (row r))
words_in rule.Args cs h = never false refl h
words_in rule.TypeArg cs h = never false refl h
words_in rule.TypeName cs h = never false refl h
words_in rule.Specs cs h = never false refl h
words_in rule.Field cs h = never false refl h
words_in rule.MacroItem cs h = never false refl h
words_in rule.Params cs h = never false refl h
words_in rule.Param cs h = never false refl h
words_in rule.InitItem cs h = never false refl h
words_in rule.Decl cs h = never false refl h
words_in rule.PatNest cs h = never false refl h
words_in rule.StmtList cs h = never false refl h
words_in rule.External cs h = never (is_expression_label (external_label cs)) (item-label cs) h
words_in rule.ExternalMacro cs h = never (is_expression_label (macro_label cs)) (macro-label (is_blockless cs)) h
words_in _ cs h = refl

-- ---- tokens

first-leaf : (a : Token) (ts : List Token) → 0 < length (leaves (Leaf a) ++ ts)
first-leaf a ts = subst (λ (xs : List Token). 0 < length (xs ++ ts)) (sym (leaves-Leaf a)) (omega arith)

more : (xs ys : List Token) → 0 < length ys → 0 < length (xs ++ ys)
more xs ys h = let n : length (xs ++ ys) ≡ length xs + length ys = length-append xs ys in omega (arith, n, h)

-- each expression in the tree has a token
abbrev Good : Tree → Type 0
Good t = (path : List ℕ) (u : Tree) → subtree t path ≡ Some u → IsTrue (is_expression u) → 0 < length (leaves u)

leaf-good : (a : Token) (path : List ℕ) (u : Tree) → subtree (Leaf a) path ≡ Some u → IsTrue (is_expression u) → 0 < length (leaves u)
leaf-good a [] u e x =
    let one : 0 < length (leaves (Leaf a)) = subst (λ (xs : List Token). 0 < length xs) (sym (leaves-Leaf a)) (omega arith) in
    subst (λ v. 0 < length (leaves v)) (same_Some (Leaf a) u e) one
leaf-good a (i ∷ path) u e x =
    option_and_then_some (λ c. subtree c path) (child_of (Leaf a) i) u e (λ c f g. absurd (none-some c (sym (child-Leaf a i) ∙ f)))

each-at : (cs : List Tree) (i : ℕ) (c : Tree) → Each Good cs → slice_get cs i ≡ Some c → Good c
each-at [] i c k e = absurd (none-some c e)
each-at (b ∷ cs) zero c k e = subst Good (same_Some b c e) k.0
each-at (b ∷ cs) (suc i) c k e = each-at cs i c k.1 e

branch-good : (l : Label) (cs : List Tree) → (IsTrue (is_expression_label l) → 0 < length (join (map leaves cs))) → Each Good cs
    → (path : List ℕ) (u : Tree) → subtree (Branch l cs) path ≡ Some u → IsTrue (is_expression u) → 0 < length (leaves u)
branch-good l cs own kids [] u e x =
    let same : Branch l cs ≡ u = same_Some (Branch l cs) u e in
    let here : IsTrue (is_expression (Branch l cs)) = subst (λ v. IsTrue (is_expression v)) (sym same) x in
    let named : IsTrue (is_expression_label l) = subst (λ o. IsTrue (expression_at o)) (out-Branch l cs) here in
    subst (λ v. 0 < length (leaves v)) same (subst (λ (ts : List Token). 0 < length ts) (sym (leaves-Branch l cs)) (own named))
branch-good l cs own kids (i ∷ path) u e x =
    option_and_then_some (λ c. subtree c path) (child_of (Branch l cs) i) u e
    (λ c f g. each-at cs i c kids (sym (child-Branch l cs i) ∙ f) path u g x)

module _ (names : Names) (may : List Token → List Token → Type 0) where
  row-words : {ps : Row} {xs ys : List Token} {cs : List Tree} → DerivesRow names may ps xs cs ys → IsTrue (has_word ps)
      → 0 < length (join (map leaves cs))
  row-words done h = never false refl h
  row-words (word {t = t} {cs = cs} f rest) h = first-leaf t (join (map leaves cs))
  row-words (child {t = t} {cs = cs} d rest) h = more (leaves t) (join (map leaves cs)) (row-words rest h)
  row-words (argument {t = t} {cs = cs} d rest) h = more (leaves t) (join (map leaves cs)) (row-words rest h)
  row-words (type_argument {t = t} {cs = cs} a d rest) h = more (leaves t) (join (map leaves cs)) (row-words rest h)
  row-words (fork {f = f} {ps = ps} i w v way) h = row-words way (begins-has ps (way-begins (ways f) i ps h w))

  mutual
    tree-good : {k : Kind} {xs ys : List Token} {t : Tree} → Derives names may k xs t ys → Good t
    tree-good (leaf {t = t} h) = leaf-good t
    tree-good (branch {cs = cs} r w b al parts) = branch-good (label_of r cs) cs (λ h. row-words parts (words_in r cs h)) (row-good parts)

    row-good : {ps : Row} {xs ys : List Token} {cs : List Tree} → DerivesRow names may ps xs cs ys → Each Good cs
    row-good done = tt
    row-good (word {t = t} h rest) = (leaf-good t, row-good rest)
    row-good (child d rest) = (tree-good d, row-good rest)
    row-good (argument d rest) = (tree-good d, row-good rest)
    row-good (type_argument a d rest) = (tree-good d, row-good rest)
    row-good (fork i w v way) = row-good way

-- ---- parts are expressions

abbrev AllPass : List Place → Type 0
AllPass [] = Unit {0}
AllPass (p ∷ ps) = IsTrue (is_expression p.tree) × AllPass ps

pass-append : (ps qs : List Place) → AllPass ps → AllPass qs → AllPass (ps ++ qs)
pass-append [] qs f g = g
pass-append (p ∷ ps) qs f g = (f.0, pass-append ps qs f.1 g)

pass-below : (i : ℕ) (ps : List Place) → AllPass ps → AllPass (map (below i) ps)
pass-below i [] f = tt
pass-below i (p ∷ ps) f = (f.0, pass-below i ps f.1)

pass-own : (l : Label) (i : ℕ) (c : Tree) → AllPass (part_at is_expression_part l i c)
pass-own l i c = by (may_hold l i) (is_expression c) refl
  where
    by : (a b : Bool) → is_expression c ≡ b → AllPass (cond (a && b) (record { path = i ∷ []; tree = c } ∷ []) [])
    by true true e = (e, tt)
    by true false e = tt
    by false b e = tt

pass-kids : (l : Label) (i : ℕ) (cs : List Tree) → Each (λ c. AllPass (parts is_expression_part c)) cs
    → AllPass (parts_from is_expression_part l i (map (child_known is_expression_part) cs))
pass-kids l i [] e = tt
pass-kids l i (c ∷ cs) e =
    pass-append (part_at is_expression_part l i c ++ map (below i) (parts is_expression_part c)) _
    (pass-append (part_at is_expression_part l i c) (map (below i) (parts is_expression_part c)) (pass-own l i c)
    (pass-below i (parts is_expression_part c) e.0)) (pass-kids l (suc i) cs e.1)

all-pass : (t : Tree) → AllPass (parts is_expression_part t)
all-pass =
    tree_induction (λ t. AllPass (parts is_expression_part t)) (λ a. subst AllPass (sym (parts-Leaf is_expression_part a)) tt)
    (λ l cs e. subst AllPass (sym (parts-Branch is_expression_part l cs)) (pass-kids l 0 cs e))

pass-at : (ps : List Place) → AllPass ps → (j : ℕ) (p : Place) → slice_get ps j ≡ Some p → IsTrue (is_expression p.tree)
pass-at [] f j p e = absurd (none-some p e)
pass-at (q ∷ ps) f zero p e = subst (λ (x : Place). IsTrue (is_expression x.tree)) (same_Some q p e) f.0
pass-at (q ∷ ps) f (suc j) p e = pass-at ps f.1 j p e

pub part_tokens : (names : Names) (may : List Token → List Token → Type 0) {k : Kind} {xs ys : List Token} {t : Tree} → Derives names may k xs t ys
    → (j : ℕ) (p : Place) → slice_get (parts is_expression_part t) j ≡ Some p → 0 < length (leaves p.tree)
part_tokens names may {t = t} d j p e =
    tree-good names may d p.path p.tree (parts-found is_expression_part t j p e)
    (pass-at (parts is_expression_part t) (all-pass t) j p e)
