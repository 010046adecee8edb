-- The rule on types in an argument list, if the rows alone say which expressions there are.
use Rattle.std.proofs.Common.{◌≤◌, length, ℕ, zero, suc, List, [], ◌∷◌, refl, arith}
use Rattle.std.specs.Prelude.{true, false, IsTrue}
use Rattle.c_terms.specs.declared.token.Token.{Token}
use Rattle.c_terms.specs.declared.tree.Tree.{Tree}
use Rattle.c_terms.specs.Trees.{levels}
use Rattle.c_rows.specs.declared.kind.Kind.{Kind}
use Rattle.c_rows.specs.declared.kind.Kind.TheVariants as kind
use Rattle.c_rows.specs.Words.{ends_member}
use Rattle.c_rows.specs.Rows.{Row, kind_of}
use Rattle.c_rows.specs.Look.{Names, look}
use Rattle.c_rows.specs.Choice.{after}
use Rattle.c_rows.specs.Derives.{Derives, leaf, branch, DerivesRow, done, word, child, argument, type_argument, fork, Anywhere}
use Rattle.c_rows.specs.Trees.{NoRival, IsTreeOf, stands_alone}
use Rattle.c_rows.specs.Letter.{NoExpression, IsLetterTreeOf, AllLow}
use Rattle.c_rows.proofs.Checks.{closes, joins, joins_rule, joins_way, closes_rule, closes_way, member_after}
use Rattle.c_rows.proofs.FirstLemmas.{after_mono}
use Rattle.c_rows.proofs.DerivesLemmas.{tree_first, member_end, child_end, joins_rest, joins_member, closes_rest, closes_member}
use Rattle.c_rows.proofs.FilterLemmas.{filters, loosened, unfiltered}
use Rattle.c_rows.proofs.SightLemmas.{some_token, some_expression}
use Rattle.c_rows.proofs.TreeLemmas.{alone_after}

module _ (names : Names) where
  -- `Rest` holds for the remaining tokens. Where a type may be a member by `may`, it may also be one by `also`.
  module _ (may also : List Token → List Token → Type 0) (Rest : List Token → Type 0) (fall : (t : Token) (ts : List Token) → Rest (t ∷ ts) → Rest ts) where
    mutual
      rest_tree : {k : Kind} {xs ys : List Token} {t : Tree} → Derives names may k xs t ys → Rest xs → Rest ys
      rest_tree (leaf {t = t} {ys = ys} h) p = fall t ys p
      rest_tree (branch r w b al parts) p = rest_row parts p

      rest_row : {ps : Row} {xs ys : List Token} {cs : List Tree} → DerivesRow names may ps xs cs ys → Rest xs → Rest ys
      rest_row done p = p
      rest_row (word {t = t} {xs = xs} h rest) p = rest_row rest (fall t xs p)
      rest_row (child d rest) p = rest_row rest (rest_tree d p)
      rest_row (argument d rest) p = rest_row rest (rest_tree d p)
      rest_row (type_argument a d rest) p = rest_row rest (rest_tree d p)
      rest_row (fork i w v way) p = rest_row way p

    module _ (go : (ts us : List Token) (t : Tree) → Rest ts → Derives names may kind.TypeArg ts t us
        → IsTrue (ends_member (look names us)) → may ts us → also ts us) where
      mutual
        pub changed : {k : Kind} {xs ys : List Token} {t : Tree} → Derives names may k xs t ys → Rest xs
            → IsTrue (after k (look names ys)) → Derives names also k xs t ys
        changed (leaf h) p f = leaf h
        changed {k} {ys = ys} (branch r w b al parts) p f =
            branch r w b al (changed_row parts p (joins_rule r) (closes_rule r (look names ys) (after_mono (kind_of r) k (look names ys) w f)))

        changed_row : {ps : Row} {xs ys : List Token} {cs : List Tree} → DerivesRow names may ps xs cs ys → Rest xs
            → IsTrue (joins ps) → IsTrue (closes ps (look names ys)) → DerivesRow names also ps xs cs ys
        changed_row done p j c = done
        changed_row (word {t = t} {xs = xs} h rest) p j c = word h (changed_row rest (fall t xs p) j c)
        changed_row (child {k = k} {ps = ps} {zs = ys} d rest) p j c =
            child (changed d p (child_end names may k rest j c)) (changed_row rest (rest_tree d p) (joins_rest k ps j) (closes_rest k ps (look names ys) c))
        changed_row (argument {ps = ps} {ys = us} {zs = ys} d rest) p j c =
            argument (changed d p (member_after false (look names us) (member_end names may rest j c)))
            (changed_row rest (rest_tree d p) (joins_member ps j) (closes_member ps (look names ys) c))
        changed_row (type_argument {ps = ps} {xs = xs} {ys = us} {zs = ys} {t = t} a d rest) p j c =
            let h : IsTrue (ends_member (look names us)) = member_end names may rest j c in
            type_argument (go xs us t p d h a) (changed d p (member_after true (look names us) h))
            (changed_row rest (rest_tree d p) (joins_member ps j) (closes_member ps (look names ys) c))
        changed_row (fork {f = f} {ps = ps} {ys = ys} i w v way) p j c =
            fork i w v (changed_row way p (joins_way f i ps w) (closes_way f i ps (look names ys) w c))

  -- Where the rows derive no expression, there is none that obeys the rule.
  none_loose : (n : ℕ) (xs ys : List Token) → NoExpression names xs ys → NoRival names n xs ys
  none_loose zero xs ys f = tt
  none_loose (suc n) xs ys f = λ u d l. f u (unfiltered names (NoRival names n) d)

  pub letter_tree : (k : Kind) (ts : List Token) (t : Tree) → IsLetterTreeOf k names ts t → IsTreeOf k names ts t
  letter_tree k ts t h = record {
    derived =
        loosened names (NoExpression names) (NoRival names (length ts)) (none_loose (length ts)) h.derived;
    shallow = h.shallow;
  }

  low_here : (ts : List Token) (u : Tree) (ys : List Token) → AllLow names ts → Derives names Anywhere kind.AssignLevel ts u ys
      → IsTrue (ends_member (look names ys)) → levels u ≤ 1000
  low_here [] u ys p d h = absurd (some_expression names [] (tree_first names Anywhere d (member_after false (look names ys) h)) refl)
  low_here (t ∷ ts) u ys p d h = p.0 u ys d h

  abbrev Low : ℕ → List Token → Type 0
  Low n ts = AllLow names ts × (length ts ≤ n)

  fall_low : (n : ℕ) (t : Token) (ts : List Token) → Low n (t ∷ ts) → Low n ts
  fall_low n t ts p = (p.0.1, less (length ts) p.1)
    where
      less : (m : ℕ) → suc m ≤ n → m ≤ n
      less m h = omega arith

  le_self : (n : ℕ) → n ≤ n
  le_self n = omega arith

  none_short : (t : Token) (ts : List Token) → length (t ∷ ts) ≤ 0 → ⊥
  none_short t ts h = omega arith

  -- If no expression that obeys the rule has the tokens of a type, the rows derive none with these tokens, provided
  -- that all expressions are low. Proof: an expression to the letter would have the same tokens, and obeys the rule.
  none_low : (n : ℕ) (ts us : List Token) (t : Tree) → Low n ts → Derives names (NoRival names n) kind.TypeArg ts t us
      → IsTrue (ends_member (look names us)) → NoRival names n ts us → NoExpression names ts us
  none_low zero [] us t p d h r = absurd (some_token names [] (tree_first names (NoRival names 0) d (member_after true (look names us) h)) refl)
  none_low zero (x ∷ ts) us t p d h r = absurd (none_short x ts p.1)
  none_low (suc n) ts us t p d h r = λ u e.
      filters names (length ts) false ts us u e h (le_self (length ts)) (λ x.
      r x.tree (loosened names (NoExpression names) (NoRival names n) (none_loose n) x.derived)
      (low_here ts x.tree us p.0 (unfiltered names (NoExpression names) x.derived) h))

  pub tree_letter : (k : Kind) (ts : List Token) (t : Tree) → IsTrue (stands_alone k) → AllLow names ts → IsTreeOf k names ts t → IsLetterTreeOf k names ts t
  unfolding look
  tree_letter k ts t o p h = record {
    derived = changed (NoRival names (length ts)) (NoExpression names) (Low (length ts)) (fall_low (length ts))
        (none_low (length ts)) h.derived (p, le_self (length ts)) (alone_after k o);
    shallow = h.shallow;
  }
