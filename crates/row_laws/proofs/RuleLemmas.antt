-- The rule on types determines where a type may be a member. Proof: by induction on the number of tokens.
use Rattle.std.proofs.Common.{◌≤◌, length, ℕ, zero, suc, List, [], ◌∷◌, refl, arith}
use Rattle.c_terms.specs.declared.token.Token.{Token}
use Rattle.c_terms.specs.declared.tree.Tree.{Tree}
use Rattle.c_rows.specs.declared.kind.Kind.{Kind}
use Rattle.c_rows.specs.declared.kind.Kind.TheVariants as kind
use Rattle.c_rows.specs.Look.{Names, look}
use Rattle.c_rows.specs.Derives.{Derives}
use Rattle.c_rows.specs.Trees.{NoRival}
use Rattle.c_rows.proofs.DerivesLemmas.{tree_first}
use Rattle.c_rows.proofs.SightLemmas.{some_expression}
use Rattle.row_laws.specs.Rule.{IsTheRule}
use Rattle.row_laws.proofs.MovedLemmas.{moved, left_wide, no_args}

module _ (names : Names) where
  -- An expression from at most n tokens, with types by one condition, is one with types by another that it gives on
  -- lists of fewer than n.
  turned : (may also : List Token → List Token → Type 0) (n : ℕ) → ((xs ys : List Token) → suc (length xs) ≤ n → may xs ys → also xs ys)
      → {xs ys : List Token} {t : Tree} → Derives names may kind.AssignLevel xs t ys → length xs ≤ n → Derives names also kind.AssignLevel xs t ys
  turned may also n go d s = moved names may also (λ ts. length ts ≤ n) (λ ts. suc (length ts) ≤ n) (λ t ts h. omega arith) (λ ts h. omega arith) go d s no_args

  -- Two conditions that are the rule agree.
  pub agree : (may also : List Token → List Token → Type 0) (m n : ℕ) → IsTheRule names m may → IsTheRule names m also → n ≤ m
      → (xs ys : List Token) → length xs ≤ n → may xs ys → also xs ys
  agree may also m zero p q l xs ys s a =
      q.stands_else xs ys (omega arith) (λ u d low. p.gives_way xs ys (omega arith) a u
      (turned also may 0 (λ us vs h b. let never : ⊥ = omega arith in absurd never) d s) low)
  agree may also m (suc n) p q l xs ys s a =
      q.stands_else xs ys (omega arith) (λ u d low.
      p.gives_way xs ys (omega arith) a u (turned also may (suc n) (λ us vs h b. agree also may m n q p (omega arith) us vs (omega arith) b) d s) low)

  pub fewer : (may : List Token → List Token → Type 0) (m n : ℕ) → m ≤ n → IsTheRule names n may → IsTheRule names m may
  fewer may m n l p = record {
    gives_way = λ xs ys s a. p.gives_way xs ys (omega arith) a;
    stands_else = λ xs ys s h. p.stands_else xs ys (omega arith) h;
  }

  none_at : (may : List Token → List Token → Type 0) (ys : List Token) (u : Tree) → Derives names may kind.AssignLevel [] u ys → length ys ≤ 0 → ⊥
  unfolding look
  none_at may [] u d s = some_expression names [] (tree_first names may d refl) refl
  none_at may (y ∷ ys) u d s = omega arith

  -- no expression has no tokens
  none_here : (may : List Token → List Token → Type 0) (xs ys : List Token) (u : Tree) → Derives names may kind.AssignLevel xs u ys → length xs ≤ 0 → ⊥
  none_here may [] ys u d s = none_at may ys u d (left_wide names may may (λ ts. length ts ≤ 0) (λ ts. length ts ≤ 0) (λ t ts h. omega arith) (λ ts h. h) d s)
  none_here may (x ∷ xs) ys u d s = omega arith

  -- With a number of tokens, the rule that is asked so often is the rule.
  pub rule : (n : ℕ) → IsTheRule names n (NoRival names n)
  rule zero = record {
    gives_way = λ xs ys s a u d low. none_here (NoRival names 0) xs ys u d s;
    stands_else = λ xs ys s h. tt;
  }
  rule (suc n) = let r : IsTheRule names n (NoRival names n) = rule n in record {
    gives_way = λ xs ys s a u d low. a u (turned (NoRival names (suc n)) (NoRival names n) (suc n) (λ us vs h b. r.stands_else us vs (omega arith) b) d s) low;
    stands_else = λ xs ys s h u d low. h u (turned (NoRival names n) (NoRival names (suc n)) (suc n) (λ us vs h b. r.gives_way us vs (omega arith) b) d s) low;
  }

  pub le_self : (n : ℕ) → n ≤ n
  le_self n = omega arith

  -- Two conditions that are the rule for lists of at most n tokens derive the same trees from those.
  pub trees_same : (may also : List Token → List Token → Type 0) (n : ℕ) → IsTheRule names n may → IsTheRule names n also
      → (k : Kind) (xs ys : List Token) (t : Tree) → length xs ≤ n → Derives names may k xs t ys → Derives names also k xs t ys
  trees_same may also n p q k xs ys t s d =
      moved names may also (λ ts. length ts ≤ n) (λ ts. length ts ≤ n) (λ t ts h. omega arith) (λ ts h. h) (agree may also n n p q (le_self n)) d s (λ h. s)

  pub types_agree : (m n : ℕ) (xs ys : List Token) → length xs ≤ m → length xs ≤ n → NoRival names m xs ys → NoRival names n xs ys
  types_agree m n xs ys s h =
      agree (NoRival names m) (NoRival names n) (length xs) (length xs) (fewer (NoRival names m) (length xs) m s (rule m))
      (fewer (NoRival names n) (length xs) n h (rule n)) (le_self (length xs)) xs ys (le_self (length xs))

  pub trees_agree : (m n : ℕ) (k : Kind) (xs ys : List Token) (t : Tree) → length xs ≤ m → length xs ≤ n
      → Derives names (NoRival names m) k xs t ys → Derives names (NoRival names n) k xs t ys
  trees_agree m n k xs ys t s h d =
      trees_same (NoRival names m) (NoRival names n) (length xs) (fewer (NoRival names m) (length xs) m s (rule m))
      (fewer (NoRival names n) (length xs) n h (rule n)) k xs ys t (le_self (length xs)) d
