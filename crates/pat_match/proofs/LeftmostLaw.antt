-- The leftmost alignment of a list is one of its alignments, and none is further left.
use Rattle.std.proofs.Common.{◌≡◌, ℕ, suc, zero, ◌<◌, ◌≤◌, Bool, true, false, ◌&&◌, ◌||◌, cond, nat_le, nat_lt, nat_eq, refl}
use Rattle.std.proofs.Common.{sym, ap, ◌∙◌, subst, arith, List, [], ◌∷◌, length, take, drop, Option, Some, None, inl, inr, ◌⊎◌}
use Rattle.std.proofs.Common.{⊎_elim}
use Rattle.std.proofs.lemmas.Bool.Decides.{nat_tests}
use Rattle.c_terms.specs.declared.token.Token.{Token}
use Rattle.c_terms.specs.declared.label.Label.{Label}
use Rattle.c_terms.specs.declared.list.Member.{Member}
use Rattle.smpl_terms.specs.Environments.{Environment}
use Rattle.smpl_patch.specs.declared.pattern.VarDecl.{VarDecl}
use Rattle.smpl_patch.specs.declared.pattern.PatToken.{PatToken}
use Rattle.pat_match.specs.Runs.{Piece, as_comma, comma_fits, takes, some_below, least, runs_from, is_left, leftmost, runs_align}
use Rattle.pat_match.proofs.ValueLemmas.{and_left, and_right, both_true, or_left, or_right}

-- numbers

pub cases_of : (k n : ℕ) → k < suc n → (k < n) ⊎ (k ≡ n)
cases_of zero zero lt = inr refl
cases_of zero (suc n) lt = inl (omega arith)
cases_of (suc k) zero lt = absurd (omega arith)
cases_of (suc k) (suc n) lt = ⊎_elim (λ a. inl (omega (arith, a))) (λ e. inr (ap suc e)) (cases_of k n (omega arith))

pub below_intro : (test : ℕ → Bool) (n k : ℕ) → k < n → test k ≡ true → some_below test n ≡ true
below_intro test zero k lt h = absurd (omega arith)
below_intro test (suc n) k lt h = ⊎_elim
    (λ less. or_left _ _ (below_intro test n k less h)) (λ e. or_right _ _ (ap test (sym e) ∙ h)) (cases_of k n lt)

pub least-passes : (test : ℕ → Bool) (n : ℕ) → some_below test n ≡ true → (least test n < n) × (test (least test n) ≡ true)
least-passes test zero h = absurd (cc)
least-passes test (suc n) h = by (some_below test n) refl (least-passes test n) h
  where
    by : (b : Bool) → some_below test n ≡ b → (some_below test n ≡ true → (least test n < n) × (test (least test n) ≡ true))
        → (b || test n) ≡ true → (cond b (least test n) n < suc n) × (test (cond b (least test n) n) ≡ true)
    by true e below k = let r = below e in (omega (arith, r.0), r.1)
    by false e below k = (omega arith, k)

least-lowest : (test : ℕ → Bool) (n k : ℕ) → k < n → test k ≡ true → least test n ≤ k
least-lowest test zero k lt h = absurd (omega arith)
least-lowest test (suc n) k lt h = by (some_below test n) refl (λ less. least-lowest test n k less h) (cases_of k n lt)
  where
    by : (b : Bool) → some_below test n ≡ b → (k < n → least test n ≤ k) → (k < n) ⊎ (k ≡ n) → cond b (least test n) n ≤ k
    by true e below (inl less) = below less
    by true e below (inr same) = let r = least-passes test n e in omega (arith, r.0, same)
    by false e below (inl less) = let s = below_intro test n k less h in absurd (cc)
    by false e below (inr same) = omega (arith, same)

le_test : (a b : ℕ) → a < suc b → nat_le a b ≡ true
le_test a b h = grind (arith, nat_tests)

le_fact : (a b : ℕ) → nat_le a b ≡ true → a < suc b
le_fact a b h = grind (arith, nat_tests)

less_or_same : (a b : ℕ) → a ≤ b → (nat_lt a b ≡ true) ⊎ (a ≡ b)
less_or_same a b le = by (nat_lt a b) refl
  where
    by : (t : Bool) → nat_lt a b ≡ t → (nat_lt a b ≡ true) ⊎ (a ≡ b)
    by true e = inl e
    by false e = inr (grind (arith, nat_tests))

same_test : (a b : ℕ) → a ≡ b → nat_eq a b ≡ true
same_test a b e = grind (arith, nat_tests)

module _ (decls : List VarDecl) (tokens : List PatToken) (env : Environment) (l : Label) where
  abbrev fits : Option Token → List Piece → List Member → Bool
  fits before ps ms = runs_from decls tokens env l before ps ms

  abbrev taken : Option Token → List Piece → List Member → List ℕ → Bool
  taken before ps ms ks = runs_align decls tokens env l before ps ms ks

  abbrev first : Option Token → List Piece → List Member → List ℕ
  first before ps ms = leftmost decls tokens env l before ps ms

  -- the first member takes k members, and the others fit what is left
  abbrev test : Option Token → Piece → List Piece → List Member → ℕ → Bool
  test before p ps ms k = takes decls tokens env l before p (take k ms) && fits None ps (drop k ms)

  abbrev few : Option Token → Piece → List Piece → List Member → ℕ
  few before p ps ms = least (test before p ps ms) (suc (length ms))

  abbrev fits_at : Option Token → Option Token → Piece → List Piece → List Member → Bool
  fits_at o before p ps ms = elim o as (λ o. Bool) [
    | None ↦ some_below (test before p ps ms) (suc (length ms))
    | Some c ↦ comma_fits decls tokens env before [] && fits (Some c) ps ms
  ]

  abbrev first_at : Option Token → Option Token → Piece → List Piece → List Member → List ℕ
  first_at o before p ps ms = elim o as (λ o. List ℕ) [
    | None ↦ few before p ps ms ∷ first None ps (drop (few before p ps ms) ms)
    | Some c ↦ first (Some c) ps ms
  ]

  abbrev taken_at : Option Token → Option Token → Piece → List Piece → List Member → List ℕ → Bool
  taken_at o before p ps ms ks = elim o as (λ o. Bool) [
    | None ↦ elim ks as (λ ks. Bool) [
      | [] ↦ false
      | k ∷ ks ↦ nat_le k (length ms) && (takes decls tokens env l before p (take k ms) && taken None ps (drop k ms) ks)
    ]
    | Some c ↦ comma_fits decls tokens env before [] && taken (Some c) ps ms ks
  ]

  -- the leftmost alignment meets the cases
  pub leftmost_aligns : (before : Option Token) (ps : List Piece) (ms : List Member) → fits before ps ms ≡ true → taken before ps ms (first before ps ms) ≡ true
  leftmost_aligns before [] [] h = h
  leftmost_aligns before [] (m ∷ ms) h = absurd (cc)
  leftmost_aligns before (p ∷ ps) ms h = by (as_comma p.token) (λ before ms. leftmost_aligns before ps ms) h
    where
      by : (o : Option Token) → ((before : Option Token) (ms : List Member) → fits before ps ms ≡ true → taken before ps ms (first before ps ms) ≡ true)
          → fits_at o before p ps ms ≡ true → taken_at o before p ps ms (first_at o before p ps ms) ≡ true
      by None rest h =
          let r = least-passes (test before p ps ms) (suc (length ms)) h in
          both_true _ _ (le_test _ _ r.0) (both_true _ _ (and_left _ _ r.1) (rest None (drop (few before p ps ms) ms) (and_right _ _ r.1)))
      by (Some c) rest h = both_true _ _ (and_left _ _ h) (rest (Some c) ms (and_right _ _ h))

  -- if some alignment does, the list fits
  pub aligned_fits : (before : Option Token) (ps : List Piece) (ms : List Member) (ks : List ℕ) → taken before ps ms ks ≡ true → fits before ps ms ≡ true
  aligned_fits before [] [] [] h = h
  aligned_fits before [] [] (k ∷ ks) h = absurd (cc)
  aligned_fits before [] (m ∷ ms) ks h = absurd (cc)
  aligned_fits before (p ∷ ps) ms ks h = by (as_comma p.token) (λ before ms ks. aligned_fits before ps ms ks) ks h
    where
      by : (o : Option Token) → ((before : Option Token) (ms : List Member) (ks : List ℕ) → taken before ps ms ks ≡ true → fits before ps ms ≡ true)
          → (ks : List ℕ) → taken_at o before p ps ms ks ≡ true → fits_at o before p ps ms ≡ true
      by None rest [] h = absurd (cc)
      by None rest (k ∷ ks) h = below_intro (test before p ps ms) (suc (length ms)) k (le_fact k (length ms) (and_left _ _ h))
          (both_true _ _ (and_left _ _ (and_right _ _ h)) (rest None (drop k ms) ks (and_right _ _ (and_right _ _ h))))
      by (Some c) rest ks h = both_true _ _ (and_left _ _ h) (rest (Some c) ms ks (and_right _ _ h))

  -- and it is no further left than the leftmost
  pub none_further : (before : Option Token) (ps : List Piece) (ms : List Member) (ks : List ℕ) → taken before ps ms ks ≡ true
      → is_left (first before ps ms) ks ≡ true
  none_further before [] ms ks h = refl
  none_further before (p ∷ ps) ms ks h = by (as_comma p.token) (λ before ms ks. none_further before ps ms ks) ks h
    where
      by : (o : Option Token)
          → ((before : Option Token) (ms : List Member) (ks : List ℕ) → taken before ps ms ks ≡ true → is_left (first before ps ms) ks ≡ true)
          → (ks : List ℕ) → taken_at o before p ps ms ks ≡ true → is_left (first_at o before p ps ms) ks ≡ true
      by None more [] h = absurd (cc)
      by None more (k ∷ ks) h =
          let rest = and_right _ _ (and_right _ _ h) in
          let passes = both_true _ _ (and_left _ _ (and_right _ _ h)) (aligned_fits None ps (drop k ms) ks rest) in
          let lowest = least-lowest (test before p ps ms) (suc (length ms)) k (le_fact k (length ms) (and_left _ _ h)) passes in
          ⊎_elim (λ less. or_left _ _ less)
          (λ same. or_right _ _ (both_true _ _ (same_test _ _ same)
          (subst (λ j. is_left (first None ps (drop j ms)) ks ≡ true) (sym same) (more None (drop k ms) ks rest))))
          (less_or_same (few before p ps ms) k lowest)
      by (Some c) more ks h = more (Some c) ms ks (and_right _ _ h)
