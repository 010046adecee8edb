-- The trees that rows build have their shape.
-- Proof: by recursion on the derivation. Whether a row ends with a sign, has a part, or has nothing but lists and signs,
-- follows from its parts, and from those of the alternatives of its fork.
use Rattle.std.proofs.Common.{◌≡◌, ℕ, zero, suc, subst, refl, ap, sym, ◌∙◌, List, [], ◌∷◌, length, slice_get}
use Rattle.std.proofs.lemmas.Bool.{false≢true}
use Rattle.std.specs.Prelude.{true, false, ◌&&◌, ◌||◌, nat_lt, IsTrue, Some}
use Rattle.c_terms.specs.declared.token.Token.{Token}
use Rattle.c_terms.specs.declared.label.Label.TheVariants as label
use Rattle.c_terms.specs.declared.tree.Tree.{Tree}
use Rattle.c_terms.specs.declared.tree.Tree.TheVariants.{Leaf}
use Rattle.c_terms.proofs.SameLemmas.{out-Leaf, out-Branch}
use Rattle.c_rows.specs.declared.class.Class.TheVariants as class
use Rattle.c_rows.specs.declared.word.Word.{Word}
use Rattle.c_rows.specs.declared.word.Word.TheVariants as words
use Rattle.c_rows.specs.declared.kind.Kind.{Kind}
use Rattle.c_rows.specs.declared.kind.Kind.TheVariants as kind
use Rattle.c_rows.specs.declared.rule.Rule.{Rule}
use Rattle.c_rows.specs.declared.rule.Rule.TheVariants as rule
use Rattle.c_rows.specs.declared.symbol.Symbol.{Symbol}
use Rattle.c_rows.specs.declared.symbol.Symbol.TheVariants as symbol
use Rattle.c_rows.specs.declared.symbol.Fork.TheVariants as forks
use Rattle.c_rows.specs.Branches.{label_of}
use Rattle.c_rows.specs.Rows.{Row, row, ways}
use Rattle.c_rows.specs.Look.{Names, look}
use Rattle.c_rows.specs.Derives.{Derives, leaf, branch as derived, DerivesRow, done, word, child, argument, type_argument, fork}
use Rattle.c_rows.proofs.FirstChecks.{and_left, and_right, row_at}
use Rattle.smpl_body.specs.SmplElem.Forms.{is_list_in, is_list, last_kid}
use Rattle.sound_laws.specs.SmplLeaves.Shapes.{is_sign, lists_and_signs, has_shape, Shaped, token, branch, AllShaped, none, more}
use Rattle.sound_laws.proofs.SmplLeaves.SignLemmas.{is_sign_word, word_signed}
use Rattle.sound_laws.proofs.SmplLeaves.RowTests.{is_list_kind, no_leaf, list_label, listless_rule, listed, listed_ways}
use Rattle.sound_laws.proofs.SmplLeaves.RowTests.{ends_signed, signed_ways, filled, filled_ways}
use Rattle.sound_laws.proofs.SmplLeaves.LabelShapes.{two_shape, at_shape, if_shape, case_shape, for_shape, external_shape}
use Rattle.sound_laws.proofs.SmplLeaves.LabelShapes.{macro_shape, choice, choice_shape, choice_listed, choice_listless, or_left}
use Rattle.sound_laws.proofs.SmplLeaves.LabelShapes.{or_right, and_both, later, signed_some}

-- ---- derivations

module _ (names : Names) (may : List Token → List Token → Type 0) where
  list_tree : {k : Kind} {xs ys : List Token} {t : Tree} → IsTrue (is_list_kind k) → Derives names may k xs t ys → is_list t ≡ true
  list_tree {k} h (leaf {t = t} {ys = ys} l) = absurd (no_leaf k (look names (t ∷ ys)) h l)
  list_tree {k} h (derived {cs = cs} r w b al parts) = ap is_list_in (out-Branch (label_of r cs) cs) ∙ list_label k r cs h w

  listless_tree : {xs ys : List Token} {t : Tree} → Derives names may kind.Expr xs t ys → is_list t ≡ false
  listless_tree (leaf {t = t} l) = ap is_list_in (out-Leaf t)
  listless_tree (derived {cs = cs} r w b al parts) = ap is_list_in (out-Branch (label_of r cs) cs) ∙ listless_rule r cs w

  row_listed : {ps : Row} {xs ys : List Token} {cs : List Tree} → DerivesRow names may ps xs cs ys → IsTrue (listed ps) → lists_and_signs cs ≡ true
  row_listed done h = refl
  row_listed (word {w = w} {ps = ps} {t = t} {xs = xs} {cs = cs} f rest) h =
      and_both (is_list (Leaf t) || is_sign (Leaf t)) (lists_and_signs cs)
      (or_right (is_list (Leaf t)) (is_sign (Leaf t)) (word_signed names w t xs (and_left (is_sign_word w) (listed ps) h) f))
      (row_listed rest (and_right (is_sign_word w) (listed ps) h))
  row_listed (child {k = k} {ps = ps} {t = t} {cs = cs} d rest) h =
      and_both (is_list t || is_sign t) (lists_and_signs cs) (or_left (is_list t) (is_sign t) (list_tree (and_left (is_list_kind k) (listed ps) h) d))
      (row_listed rest (and_right (is_list_kind k) (listed ps) h))
  row_listed (argument d rest) h = absurd (false≢true h)
  row_listed (type_argument a d rest) h = absurd (false≢true h)
  row_listed (fork {f = f} {ps = ps} i w v way) h = row_listed way (row_at listed (ways f) i ps (listed_ways f h) w)

  row_signed : {ps : Row} {xs ys : List Token} {cs : List Tree} → DerivesRow names may ps xs cs ys → IsTrue (ends_signed ps) → is_sign (last_kid cs) ≡ true
  row_signed done h = absurd (false≢true h)
  row_signed (word {w = w} {ps = []} {t = t} {xs = xs} f done) h = word_signed names w t xs h f
  row_signed (word {ps = p ∷ ps} {t = t} {cs = cs} f rest) h = later (Leaf t) cs (row_signed rest h)
  row_signed (child {ps = []} d done) h = absurd (false≢true h)
  row_signed (child {ps = p ∷ ps} {t = t} {cs = cs} d rest) h = later t cs (row_signed rest h)
  row_signed (argument {ps = []} d done) h = absurd (false≢true h)
  row_signed (argument {ps = p ∷ ps} {t = t} {cs = cs} d rest) h = later t cs (row_signed rest h)
  row_signed (type_argument {ps = []} a d done) h = absurd (false≢true h)
  row_signed (type_argument {ps = p ∷ ps} {t = t} {cs = cs} a d rest) h = later t cs (row_signed rest h)
  row_signed (fork {f = f} {ps = ps} i w v way) h = row_signed way (row_at ends_signed (ways f) i ps (signed_ways f h) w)

  row_filled : {ps : Row} {xs ys : List Token} {cs : List Tree} → DerivesRow names may ps xs cs ys → IsTrue (filled ps) → cs ≡ [] → ⊥
  row_filled done h e = false≢true h
  row_filled (word f rest) h e = let no : ⊥ = cc in no
  row_filled (child d rest) h e = let no : ⊥ = cc in no
  row_filled (argument d rest) h e = let no : ⊥ = cc in no
  row_filled (type_argument a d rest) h e = let no : ⊥ = cc in no
  row_filled (fork {f = f} {ps = ps} i w v way) h e = row_filled way (row_at filled (ways f) i ps (filled_ways f h) w) e

  block_shape : {xs ys : List Token} {cs : List Tree} → DerivesRow names may (row rule.Block) xs cs ys → nat_lt 1 (length cs) ≡ true
  block_shape (word {t = t} {cs = cs} f rest) = two_shape (Leaf t) cs (row_filled rest refl)

  -- a sign, parts, and a sign at their end
  nest_way : {w : Word} {p : Symbol} {ps : Row} {xs ys : List Token} {cs : List Tree} → IsTrue (is_sign_word w) → IsTrue (ends_signed (p ∷ ps))
      → DerivesRow names may (symbol.Word w ∷ p ∷ ps) xs cs ys → has_shape label.PatNest cs ≡ true
  nest_way {w = w} h e (word {t = t} {xs = xs} {cs = cs} f rest) =
      let last : is_sign (last_kid cs) ≡ true = row_signed rest e in
      and_both (nat_lt 1 (length (Leaf t ∷ cs))) (is_sign (Leaf t) && is_sign (last_kid (Leaf t ∷ cs))) (two_shape (Leaf t) cs (signed_some cs last))
      (and_both (is_sign (Leaf t)) (is_sign (last_kid (Leaf t ∷ cs))) (word_signed names w t xs h f) (later (Leaf t) cs last))

  nest_ways : (i : ℕ) (ps : Row) {xs ys : List Token} {cs : List Tree} → slice_get (ways forks.NestStart) i ≡ Some ps → DerivesRow names may ps xs cs ys
      → has_shape label.PatNest cs ≡ true
  nest_ways zero ps {xs} {ys} {cs} w way =
      let same : symbol.Word (words.One class.PatNestOfExpression) ∷ symbol.Child kind.Expr ∷ symbol.Word (words.One class.PatNestClose) ∷ [] ≡ ps = cc in
      nest_way refl refl (subst (λ (qs : Row). DerivesRow names may qs xs cs ys) (sym same) way)
  nest_ways (suc zero) ps {xs} {ys} {cs} w way =
      let same : symbol.Word (words.One class.PatNestOfStatements) ∷ symbol.Fork forks.NestStatements ∷ [] ≡ ps = cc in
      nest_way refl refl (subst (λ (qs : Row). DerivesRow names may qs xs cs ys) (sym same) way)
  nest_ways (suc (suc i)) ps w way = let no : ⊥ = cc in absurd no

  nest_shape : {xs ys : List Token} {cs : List Tree} → DerivesRow names may (row rule.PatNest) xs cs ys → has_shape label.PatNest cs ≡ true
  nest_shape (fork {ps = ps} i w v way) = nest_ways i ps w way

  branches_shape : {xs ys : List Token} {cs : List Tree} → DerivesRow names may (row rule.PatBranches) xs cs ys → choice cs ≡ true
  branches_shape (word {t = t} f (child {t = u} {cs = cs} d rest)) = choice_listless (Leaf t) u cs (listless_tree d)

  rule_shape : (r : Rule) {xs ys : List Token} (cs : List Tree) → DerivesRow names may (row r) xs cs ys → has_shape (label_of r cs) cs ≡ true
  rule_shape rule.Block cs parts = block_shape parts
  rule_shape rule.PatNest cs parts = nest_shape parts
  rule_shape rule.PatBranches cs parts = choice_shape cs (branches_shape parts)
  rule_shape rule.PatLists cs parts = choice_shape cs (choice_listed cs (row_listed parts refl))
  rule_shape rule.At cs parts = at_shape cs
  rule_shape rule.If cs parts = if_shape cs
  rule_shape rule.For cs parts = for_shape cs
  rule_shape rule.Case cs parts = case_shape cs
  rule_shape rule.External cs parts = external_shape cs
  rule_shape rule.ExternalMacro cs parts = macro_shape cs
  rule_shape _ cs parts = refl

  mutual
    pub tree_shaped : {k : Kind} {xs ys : List Token} {t : Tree} → Derives names may k xs t ys → Shaped t
    tree_shaped (leaf {t = t} h) = token t
    tree_shaped (derived {cs = cs} r w b al parts) = branch (label_of r cs) cs (rule_shape r cs parts) (row_shaped parts)

    row_shaped : {ps : Row} {xs ys : List Token} {cs : List Tree} → DerivesRow names may ps xs cs ys → AllShaped cs
    row_shaped done = none
    row_shaped (word {t = t} {cs = cs} f rest) = more (Leaf t) cs (token t) (row_shaped rest)
    row_shaped (child {t = t} {cs = cs} d rest) = more t cs (tree_shaped d) (row_shaped rest)
    row_shaped (argument {t = t} {cs = cs} d rest) = more t cs (tree_shaped d) (row_shaped rest)
    row_shaped (type_argument {t = t} {cs = cs} a d rest) = more t cs (tree_shaped d) (row_shaped rest)
    row_shaped (fork i w v way) = row_shaped way
