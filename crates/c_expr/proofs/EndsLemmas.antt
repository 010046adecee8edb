-- Where members end, as the code's answers cite it.
use Rattle.std.proofs.Common.{◌≡◌, ℕ, zero, suc, ◌-◌, ◌+◌, ◌≤◌, ◌<◌, List, [], ◌∷◌, drop, length, reverse, get_or, refl, subst, ap, sym, ◌∙◌, arith}
use Rattle.std.proofs.lemmas.List.{drop_more, drop_all}
use Rattle.std.specs.Prelude.{Bool}
use Rattle.c_terms.specs.declared.token.Token.{Token}
use Rattle.c_rows.specs.declared.class.Class.{Class}
use Rattle.c_rows.specs.declared.turn.Turn.{Turn}
use Rattle.c_rows.specs.declared.turn.Turn.TheVariants as turns
use Rattle.c_rows.specs.Words.{ends_member}
use Rattle.c_rows.specs.Look.{Names, look}
use Rattle.c_rows.specs.Scan.{turn, step, scan, ends_as_member}
use Rattle.c_expr.specs.Ends.{end_at, behind_first, passed}

behind-first : (cs : List Class) (d : ℕ) → end_at (behind_first cs) d ≡ end_at cs (suc d)
behind-first [] d = refl
behind-first (c ∷ cs) d = refl

module _ (names : Names) where
  -- The list says where a scan ends, in any number of brackets.
  abbrev pub Tells : List Class → List Token → Type 0
  Tells cs ts = (d : ℕ) → end_at cs d ≡ look names (scan names d ts)

  pub tells_none : Tells [] []
  unfolding look scan
  tells_none d = refl

  scan-cons : (u : Turn) (t : Token) (ts : List Token) (d : ℕ) → turn (look names (t ∷ ts)) ≡ u
      → scan names d (t ∷ ts) ≡ step u d (t ∷ ts) (λ e. scan names e ts)
  unfolding scan
  scan-cons u t ts d e = ap (λ (x : Turn). step x d (t ∷ ts) (λ n. scan names n ts)) e

  tells_turn : (u : Turn) (t : Token) (ts : List Token) (cs : List Class) → Tells cs ts → (d : ℕ)
      → end_at (passed u (look names (t ∷ ts)) cs) d ≡ look names (step u d (t ∷ ts) (λ e. scan names e ts))
  tells_turn turns.Opening t ts cs h d = behind-first cs d ∙ h (suc d)
  tells_turn turns.Closing t ts cs h zero = refl
  tells_turn turns.Closing t ts cs h (suc d) = h d
  tells_turn turns.Asking t ts cs h zero = refl
  tells_turn turns.Asking t ts cs h (suc d) = behind-first cs d ∙ h (suc d)
  tells_turn turns.Parting t ts cs h zero = refl
  tells_turn turns.Parting t ts cs h (suc d) = behind-first cs d ∙ h (suc d)
  tells_turn turns.Plain t ts cs h d = h d

  tells_more : (t : Token) (ts : List Token) (cs : List Class) → Tells cs ts → Tells (passed (turn (look names (t ∷ ts))) (look names (t ∷ ts)) cs) (t ∷ ts)
  tells_more t ts cs h d = tells_turn (turn (look names (t ∷ ts))) t ts cs h d ∙ ap (look names) (sym (scan-cons (turn (look names (t ∷ ts))) t ts d refl))

  -- one token more, from the last one backwards
  pub tells_next : (tokens : List Token) (i : ℕ) (t : Token) (class : Class) (old new : List Class) → 0 < i → i ≤ length tokens
      → class ≡ look names (drop (i - 1) tokens) → new ≡ passed (turn class) class old
      → Tells old (drop i tokens) → Tells new (drop (i - 1) tokens)
  tells_next tokens i t class old new pos fits c n h =
      let u : Token = get_or tokens (i - 1) t in
      let us : List Token = drop (i - 1 + 1) tokens in
      let here : drop (i - 1) tokens ≡ u ∷ us = drop_more tokens (i - 1) t (omega arith) in
      let up : i ≡ i - 1 + 1 = omega arith in
      let before : Tells old us = subst (λ (k : ℕ). Tells old (drop k tokens)) up h in
      let same : class ≡ look names (u ∷ us) = c ∙ ap (look names) here in
      let all : Tells (passed (turn class) class old) (u ∷ us) =
      subst (λ (x : Class). Tells (passed (turn x) x old) (u ∷ us)) (sym same) (tells_more u us old before) in
      subst (λ (ts : List Token). Tells new ts) (sym here) (subst (λ (cs : List Class). Tells cs (u ∷ us)) (sym n) all)

  pub tells_start : (tokens : List Token) (items : List Class) → items ≡ [] → Tells (reverse items) (drop (length tokens) tokens)
  tells_start tokens items e =
      subst (λ (xs : List Class). Tells (reverse xs) (drop (length tokens) tokens)) (sym e)
      (subst (λ (ts : List Token). Tells [] ts) (sym (drop_all (length tokens) tokens (omega arith))) tells_none)

  pub ends_here : (cs : List Class) (ts : List Token) (b : Bool) (class : Class) → b ≡ ends_member class → class ≡ end_at cs 0
      → Tells cs ts → b ≡ ends_as_member names ts
  ends_here cs ts b class e f h = e ∙ ap ends_member f ∙ ap ends_member (h 0)
