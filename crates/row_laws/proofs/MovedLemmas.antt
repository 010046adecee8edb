-- A tree that is no list of a call applies the condition on types only after its first token.
use Rattle.std.proofs.Common.{List, ◌∷◌, refl, subst}
use Rattle.std.specs.Prelude.{not, IsTrue}
use Rattle.c_terms.specs.declared.token.Token.{Token}
use Rattle.c_terms.specs.declared.tree.Tree.{Tree}
use Rattle.c_rows.specs.declared.kind.Kind.{Kind}
use Rattle.c_rows.specs.declared.kind.Kind.TheVariants as kind
use Rattle.c_rows.specs.declared.kind.Family.{Family}
use Rattle.c_rows.specs.Kinds.{family_of}
use Rattle.c_rows.specs.Branches.{kind_of}
use Rattle.c_rows.specs.Rows.{Row, row}
use Rattle.c_rows.specs.Look.{Names}
use Rattle.c_rows.specs.Choice.{implies}
use Rattle.c_rows.specs.Derives.{Derives, leaf, branch, DerivesRow, done, word, child, argument, type_argument, fork}
use Rattle.c_rows.proofs.Checks.{and_left, and_right, modus}
use Rattle.c_rows.proofs.FirstLemmas.{within_family}
use Rattle.c_rows.proofs.MemberLemmas.{is_args, needs, needs_test, lead_word, led, led_rule, led_way, needs_way, never_needs}

pub no_args : {A : Type 0} → IsTrue (is_args (family_of kind.AssignLevel)) → A
no_args h = let never : ⊥ = cc in absurd never

no_args_type : {A : Type 0} → IsTrue (is_args (family_of kind.TypeArg)) → A
no_args_type h = let never : ⊥ = cc in absurd never

-- `Wide` holds of what is left of the tokens, and `Narrow` behind the first of them.
module _ (names : Names) (may also : List Token → List Token → Type 0) (Wide Narrow : List Token → Type 0)
    (fall : (t : Token) (ts : List Token) → Wide (t ∷ ts) → Narrow ts)
    (widen : (ts : List Token) → Narrow ts → Wide ts) where
  mutual
    pub left_wide : {k : Kind} {xs ys : List Token} {t : Tree} → Derives names may k xs t ys → Wide xs → Wide ys
    left_wide (leaf {t = t} {ys = ys} h) p = widen ys (fall t ys p)
    left_wide (branch r w b al parts) p = left_row parts p

    left_row : {ps : Row} {xs ys : List Token} {cs : List Tree} → DerivesRow names may ps xs cs ys → Wide xs → Wide ys
    left_row done p = p
    left_row (word {t = t} {xs = xs} h rest) p = left_row rest (widen xs (fall t xs p))
    left_row (child d rest) p = left_row rest (left_wide d p)
    left_row (argument d rest) p = left_row rest (left_wide d p)
    left_row (type_argument a d rest) p = left_row rest (left_wide d p)
    left_row (fork i w v way) p = left_row way p

  -- Where types are members by one condition, and by another one behind the first token, so is the tree derived.
  module _ (go : (xs ys : List Token) → Narrow xs → may xs ys → also xs ys) where
    mutual
      pub moved : {k : Kind} {xs ys : List Token} {t : Tree} → Derives names may k xs t ys → Wide xs
          → (IsTrue (is_args (family_of k)) → Narrow xs) → Derives names also k xs t ys
      moved (leaf h) p m = leaf h
      moved {k} {xs} (branch r w b al parts) p m =
          let args : IsTrue (needs (row r)) → Narrow xs =
          λ h. m (subst (λ (o : Family). IsTrue (is_args o)) (within_family (kind_of r) k w)
          (modus (needs (row r)) (is_args (family_of (kind_of r))) (needs_test r) h)) in
          branch r w b al (moved_row parts p args (led_rule r))

      moved_row : {ps : Row} {xs ys : List Token} {cs : List Tree} → DerivesRow names may ps xs cs ys → Wide xs
          → (IsTrue (needs ps) → Narrow xs) → IsTrue (led ps) → DerivesRow names also ps xs cs ys
      moved_row done p m e = done
      moved_row (word {w = w} {ps = ps} {t = t} {xs = xs} h rest) p m e =
          word h (moved_row rest (widen xs (fall t xs p)) (λ i. fall t xs p) (and_right (implies (needs ps) (lead_word w)) (led ps) e))
      moved_row (child {ps = ps} d rest) p m e =
          child (moved d p m) (moved_row rest (left_wide d p) (never_needs (needs ps) (and_left (not (needs ps)) (led ps) e))
          (and_right (not (needs ps)) (led ps) e))
      moved_row (argument {ps = ps} d rest) p m e =
          argument (moved d p no_args) (moved_row rest (left_wide d p)
          (never_needs (needs ps) (and_left (not (needs ps)) (led ps) e)) (and_right (not (needs ps)) (led ps) e))
      moved_row (type_argument {ps = ps} {xs = xs} {ys = ys} a d rest) p m e =
          type_argument (go xs ys (m refl) a) (moved d p no_args_type)
          (moved_row rest (left_wide d p) (never_needs (needs ps) (and_left (not (needs ps)) (led ps) e)) (and_right (not (needs ps)) (led ps) e))
      moved_row (fork {f = f} {ps = ps} i w v way) p m e = fork i w v (moved_row way p (λ b. m (needs_way f i ps w b)) (led_way f i ps w))
