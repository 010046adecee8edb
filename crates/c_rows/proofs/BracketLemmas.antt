-- A scan for the end of a member of an argument list passes over what a tree spells.
use Rattle.std.proofs.Common.{◌≡◌, ◌⊎◌, ℕ, zero, suc, List, [], ◌∷◌, refl, subst, ap, sym, ◌∙◌, inl, inr, eqb-true}
use Rattle.std.specs.Prelude.{Bool, true, false, not, ◌||◌, ◌==◌, IsTrue}
use Rattle.c_terms.specs.declared.token.Token.{Token}
use Rattle.c_terms.specs.declared.tree.Tree.{Tree}
use Rattle.c_rows.specs.declared.class.Class.{Class}
use Rattle.c_rows.specs.declared.kind.Kind.{Kind}
use Rattle.c_rows.specs.declared.kind.Kind.TheVariants as kind
use Rattle.c_rows.specs.Kinds.{family_of}
use Rattle.c_rows.specs.Rows.{Row, kind_of}
use Rattle.c_rows.specs.Look.{Names, look}
use Rattle.c_rows.specs.Words.{ends_member}
use Rattle.c_rows.specs.Derives.{Derives, leaf, branch, DerivesRow, done, word, child, argument, type_argument, fork}
use Rattle.c_rows.specs.Choice.{implies}
use Rattle.c_rows.proofs.Checks.{and_left, and_right, modus, not_true, Passes, passes_at}
use Rattle.c_rows.proofs.BracketTests.{Place, inside, expression, typed, word_turn, turn_of, leaf_turn, suits, suits_within}
use Rattle.c_rows.proofs.BracketTests.{suits_fork, depth, deep, is_inside, may_ask, fine_word, fine, rule_fine, way_fine}
use Rattle.c_rows.specs.declared.turn.Turn.{Turn}
use Rattle.c_rows.specs.declared.turn.Turn.TheVariants as turns
use Rattle.c_rows.specs.Scan.{turn, step, scan, ends_as_member}

-- ---- the scan

-- e more brackets than b
abbrev above : ℕ → ℕ → ℕ
above zero b = b
above (suc e) b = suc (above e b)

abbrev base : Place → ℕ → ℕ
base inside n = suc n
base expression n = zero
base typed n = zero

abbrev is_asking : Turn → Bool
is_asking turns.Asking = true
is_asking _ = false

module _ (names : Names) where
  step_scan : (u : Turn) (t : Token) (ts : List Token) (d : ℕ) → turn (look names (t ∷ ts)) ≡ u
      → scan names d (t ∷ ts) ≡ step u d (t ∷ ts) (λ e. scan names e ts)
  unfolding scan
  step_scan u t ts d e = ap (λ (x : Turn). step x d (t ∷ ts) (λ n. scan names n ts)) e

  -- The scan passes from the first list, in d brackets, to the second, in b of them; or, in an expression, it ends at a `?`.
  abbrev Goes : Place → List Token → ℕ → ℕ → List Token → Type 0
  Goes p xs d b ys = (scan names d xs ≡ scan names b ys) ⊎ (IsTrue (may_ask p) × IsTrue (is_asking (turn (look names (scan names d xs)))))

  carry : (p : Place) (xs us ys : List Token) (d c b : ℕ) → scan names d xs ≡ scan names c us → Goes p us c b ys → Goes p xs d b ys
  carry p xs us ys d c b e g = elim g as (λ _. Goes p xs d b ys) [
    | inl h ↦ inl (e ∙ h)
    | inr h ↦ inr (h.0, subst (λ (l : List Token). IsTrue (is_asking (turn (look names l)))) (sym e) h.1)
  ]

  chain : (q p : Place) (xs us ys : List Token) (d b : ℕ) → (IsTrue (may_ask q) → IsTrue (may_ask p)) → Goes q xs d d us → Goes p us d b ys → Goes p xs d b ys
  chain q p xs us ys d b m f g = elim f as (λ _. Goes p xs d b ys) [
    | inl h ↦ carry p xs us ys d d b h g
    | inr h ↦ inr (m h.0, h.1)
  ]

  never_asks : (p : Place) → IsTrue (may_ask inside) → IsTrue (may_ask p)
  never_asks p h = let never : ⊥ = cc in absurd never

  -- a word of a row, with e brackets of the row open before it
  word_goes : (u : Turn) (e : ℕ) (p : Place) (n : ℕ) (t : Token) (ts ys : List Token) (ps : Row)
      → turn (look names (t ∷ ts)) ≡ u → IsTrue (fine_word u e p (fine p ps))
      → ((i : ℕ) → IsTrue (fine p ps i) → Goes p ts (above i (base p n)) (base p n) ys) → Goes p (t ∷ ts) (above e (base p n)) (base p n) ys
  word_goes turns.Opening e p n t ts ys ps h l go =
      carry p (t ∷ ts) ts ys _ (above (suc e) (base p n)) _ (step_scan turns.Opening t ts (above e (base p n)) h) (go (suc e) l)
  word_goes turns.Closing zero p n t ts ys ps h l go = let never : ⊥ = cc in absurd never
  word_goes turns.Closing (suc e) p n t ts ys ps h l go =
      carry p (t ∷ ts) ts ys _ (above e (base p n)) _ (step_scan turns.Closing t ts (above (suc e) (base p n)) h) (go e l)
  word_goes turns.Asking zero inside n t ts ys ps h l go = carry inside (t ∷ ts) ts ys _ (suc n) _ (step_scan turns.Asking t ts (suc n) h) (go 0 l)
  word_goes turns.Asking zero expression n t ts ys ps h l go =
      inr (refl, subst (λ (x : List Token). IsTrue (is_asking (turn (look names x)))) (sym (step_scan turns.Asking t ts 0 h)) (ap is_asking h))
  word_goes turns.Asking zero typed n t ts ys ps h l go = let never : ⊥ = cc in absurd never
  word_goes turns.Asking (suc e) p n t ts ys ps h l go =
      carry p (t ∷ ts) ts ys _ (above (suc e) (base p n)) _ (step_scan turns.Asking t ts (above (suc e) (base p n)) h) (go (suc e) l)
  word_goes turns.Parting zero inside n t ts ys ps h l go = carry inside (t ∷ ts) ts ys _ (suc n) _ (step_scan turns.Parting t ts (suc n) h) (go 0 l)
  word_goes turns.Parting zero expression n t ts ys ps h l go = let never : ⊥ = cc in absurd never
  word_goes turns.Parting zero typed n t ts ys ps h l go = let never : ⊥ = cc in absurd never
  word_goes turns.Parting (suc e) p n t ts ys ps h l go =
      carry p (t ∷ ts) ts ys _ (above (suc e) (base p n)) _ (step_scan turns.Parting t ts (above (suc e) (base p n)) h) (go (suc e) l)
  word_goes turns.Plain e p n t ts ys ps h l go = carry p (t ∷ ts) ts ys _ (above e (base p n)) _ (step_scan turns.Plain t ts (above e (base p n)) h) (go e l)

  child_goes : (e : ℕ) (p : Place) (n : ℕ) (k : Kind) (xs us ys : List Token) → IsTrue (deep e || suits p k)
      → ((q : Place) (m : ℕ) → IsTrue (suits q k) → Goes q xs (base q m) (base q m) us)
      → Goes p us (above e (base p n)) (base p n) ys → Goes p xs (above e (base p n)) (base p n) ys
  child_goes zero p n k xs us ys s tree rest = chain p p xs us ys (base p n) (base p n) (λ a. a) (tree p n s) rest
  child_goes (suc e) p n k xs us ys s tree rest =
      chain inside p xs us ys (suc (above e (base p n))) (base p n) (never_asks p) (tree inside (above e (base p n)) refl) rest

  member_suits : (e : ℕ) (p : Place) (k : Kind) → IsTrue (deep e || is_inside p) → IsTrue (deep e || suits p k)
  member_suits zero inside k h = refl
  member_suits zero expression k h = let never : ⊥ = cc in absurd never
  member_suits zero typed k h = let never : ⊥ = cc in absurd never
  member_suits (suc e) p k h = refl

  module _ (may : List Token → List Token → Type 0) where
    mutual
      -- the scan passes over a tree
      tree_goes : {k : Kind} {xs ys : List Token} {t : Tree} → Derives names may k xs t ys → (p : Place) (n : ℕ)
          → IsTrue (suits p k) → Goes p xs (base p n) (base p n) ys
      tree_goes {k} (leaf {t = t} {ys = ys} h) p n s = inl (step_scan turns.Plain t ys (base p n) (leaf_turn (family_of k) (look names (t ∷ ys)) h))
      tree_goes {k} (branch r w b al parts) p n s = row_goes parts p n 0 (rule_fine p r (suits_within p (kind_of r) k w s))

      row_goes : {ps : Row} {xs ys : List Token} {cs : List Tree} → DerivesRow names may ps xs cs ys → (p : Place) (n e : ℕ)
          → IsTrue (fine p ps e) → Goes p xs (above e (base p n)) (base p n) ys
      row_goes (done {xs = xs}) p n e l = inl (ap (λ (i : ℕ). scan names (above i (base p n)) xs) (eqb-true e 0 l))
      row_goes (word {w = w} {ps = ps} {t = t} {xs = ts} {ys = ys} f rest) p n e l =
          word_goes (word_turn w) e p n t ts ys ps (turn_of w (look names (t ∷ ts)) f) l (λ i m. row_goes rest p n i m)
      row_goes (child {k = k} {ps = ps} {xs = xs} {ys = us} {zs = ys} d rest) p n e l =
          child_goes e p n k xs us ys (and_left (deep e || suits p k) (fine p ps e) l) (λ q m s. tree_goes d q m s)
          (row_goes rest p n e (and_right (deep e || suits p k) (fine p ps e) l))
      row_goes (argument {ps = ps} {xs = xs} {ys = us} {zs = ys} d rest) p n e l =
          child_goes e p n kind.AssignLevel xs us ys
          (member_suits e p kind.AssignLevel (and_left (deep e || is_inside p) (fine p ps e) l)) (λ q m s. tree_goes d q m s)
          (row_goes rest p n e (and_right (deep e || is_inside p) (fine p ps e) l))
      row_goes (type_argument {ps = ps} {xs = xs} {ys = us} {zs = ys} a d rest) p n e l =
          child_goes e p n kind.TypeArg xs us ys (member_suits e p kind.TypeArg (and_left (deep e || is_inside p) (fine p ps e) l)) (λ q m s. tree_goes d q m s)
          (row_goes rest p n e (and_right (deep e || is_inside p) (fine p ps e) l))
      row_goes (fork {f = f} {ps = ps} {xs = xs} {ys = ys} i g v way) p n e l =
          let z : depth f ≡ e = eqb-true (depth f) e (and_left (depth f == e) (suits_fork p f) l) in
          subst (λ (j : ℕ). Goes p xs (above j (base p n)) (base p n) ys) z
          (row_goes way p n (depth f) (way_fine p f i ps g (and_right (depth f == e) (suits_fork p f) l)))

  -- ---- the end of a member

  abbrev halts : Turn → Bool
  halts turns.Opening = false
  halts turns.Closing = true
  halts turns.Asking = true
  halts turns.Parting = true
  halts turns.Plain = false

  halt : (u : Turn) (here : List Token) (go : ℕ → List Token) → IsTrue (halts u) → step u 0 here go ≡ here
  halt turns.Opening here go h = let never : ⊥ = cc in absurd never
  halt turns.Closing here go h = refl
  halt turns.Asking here go h = refl
  halt turns.Parting here go h = refl
  halt turns.Plain here go h = let never : ⊥ = cc in absurd never

  abbrev end_halts_at : Class → Bool
  end_halts_at c = implies (ends_member c) (halts (turn c))

  end_halts_test : Passes end_halts_at
  end_halts_test = refl

  abbrev end_asks_at : Class → Bool
  end_asks_at c = implies (ends_member c) (not (is_asking (turn c)))

  end_asks_test : Passes end_asks_at
  end_asks_test = refl

  stays : (xs : List Token) → IsTrue (ends_member (look names xs)) → scan names 0 xs ≡ xs
  unfolding scan
  stays [] h = refl
  stays (t ∷ ts) h =
      halt (turn (look names (t ∷ ts))) (t ∷ ts) (λ e. scan names e ts)
      (modus (ends_member (look names (t ∷ ts))) (halts (turn (look names (t ∷ ts)))) (passes_at end_halts_at end_halts_test (look names (t ∷ ts))) h)

  -- A type and an expression without commas that begin at the same token, and end where a member of an argument list
  -- may end, end at the same token. Proof: outside brackets a type has no `?` and no comma, and an expression has a
  -- comma only after a `?`.
  pub same_end : (may also : List Token → List Token → Type 0) {xs ys zs : List Token} {t u : Tree} → Derives names may kind.TypeArg xs t ys
      → Derives names also kind.AssignLevel xs u zs → IsTrue (ends_member (look names ys)) → IsTrue (ends_member (look names zs)) → ys ≡ zs
  same_end may also {xs} {ys} {zs} d e h g =
      let a : scan names 0 xs ≡ ys =
      elim (tree_goes may d typed 0 refl) as (λ _. scan names 0 xs ≡ ys) [
        | inl i ↦ i ∙ stays ys h
        | inr i ↦ let never : ⊥ = true_false (sym i.0) in absurd never
      ] in
      elim (tree_goes also e expression 0 refl) as (λ _. ys ≡ zs) [
        | inl i ↦ sym a ∙ i ∙ stays zs g
        | inr i ↦ let asks : IsTrue (is_asking (turn (look names ys))) = subst (λ (l : List Token). IsTrue (is_asking (turn (look names l)))) a i.1 in
            let quiet : is_asking (turn (look names ys)) ≡ false =
            not_true (is_asking (turn (look names ys)))
            (modus (ends_member (look names ys)) (not (is_asking (turn (look names ys)))) (passes_at end_asks_at end_asks_test (look names ys)) h) in
            absurd (true_false (sym asks ∙ quiet))
      ]
    where
      true_false : true ≡ false → ⊥
      true_false e = cc

  -- A member that can be a type ends where the scan from its first token does.
  pub type_ends : (may : List Token → List Token → Type 0) {xs ys : List Token} {t : Tree}
      → Derives names may kind.TypeArg xs t ys → IsTrue (ends_member (look names ys)) → IsTrue (ends_as_member names xs)
  type_ends may {xs} {ys} d h = elim (tree_goes may d typed 0 refl) as (λ _. IsTrue (ends_as_member names xs)) [
    | inl i ↦ subst (λ (l : List Token). IsTrue (ends_member (look names l))) (sym (i ∙ stays ys h)) h
    | inr i ↦ let never : ⊥ = true_false (sym i.0) in absurd never
  ]
    where
      true_false : true ≡ false → ⊥
      true_false e = cc
