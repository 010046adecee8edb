-- What holds of the tokens of a body holds of those of its parts: its own tokens, and those of each piece of `when` code.
-- Proof: by recursion on the grammar of clauses.
use Rattle.std.proofs.Common.{◌≡◌, ℕ, zero, suc, ◌+◌, ◌<◌, ◌≤◌, refl, sym, ap, ◌∙◌, subst, arith, List, [], ◌∷◌, ◌++◌, length}
use Rattle.std.proofs.Common.{Some, None, slice_get, ◌⊎◌, inl, inr}
use Rattle.std.proofs.lemmas.List.{length-append}
use Rattle.std.specs.Prelude.{Bool, true, false, ◌==◌, if◌then◌else◌}
use Rattle.std.specs.List.{list_all}
use Rattle.c_terms.specs.declared.token.Token.{Token}
use Rattle.smpl_meta.specs.declared.patterns.Placed.{Placed}
use Rattle.smpl_body.specs.declared.smpl_when.cutting.Code.{Code}
use Rattle.smpl_body.specs.SmplWhen.Grammar.{up_to_end_of, behind_end_of, Parts, Spot, IsParted, ends, plain, dots, apart, any}
use Rattle.smpl_body.specs.SmplWhen.Grammar.{strict, differs, malformed, numbers_at, said_at, said_from}
use Rattle.smpl_body.specs.Bodies.{codes_of}
use Rattle.sound_laws.specs.SmplFormed.Bodies.{tokens_of, CountFrom}
use Rattle.sound_laws.proofs.SmplFormed.SequenceLemmas.{and_both, left_true, right_true}

-- ---- each token passes a test

module _ (ok : Token → Bool) where
  abbrev pub AllPass : List Code → Type 0
  AllPass [] = Unit {0}
  AllPass (c ∷ cs) = (list_all ok c.tokens ≡ true) × AllPass cs

  pass_append : (cs ds : List Code) → AllPass cs → AllPass ds → AllPass (cs ++ ds)
  pass_append [] ds h g = g
  pass_append (c ∷ cs) ds h g = (h.0, pass_append cs ds h.1 g)

  abbrev passes : List Placed → Bool
  passes ps = list_all ok (tokens_of ps)

  front_pass : (line : ℕ) (ps : List Placed) → passes ps ≡ true → passes (up_to_end_of line ps) ≡ true
  front_pass line [] h = refl
  front_pass line (p ∷ ps) h = by (line == p.line) (front_pass line ps (right_true (ok p.token) (passes ps) h))
    where
      by : (b : Bool) → passes (up_to_end_of line ps) ≡ true → passes (if b then p ∷ up_to_end_of line ps else []) ≡ true
      by true r = and_both (ok p.token) (passes (up_to_end_of line ps)) (left_true (ok p.token) (passes ps) h) r
      by false r = refl

  back_pass : (line : ℕ) (ps : List Placed) → passes ps ≡ true → passes (behind_end_of line ps) ≡ true
  back_pass line [] h = refl
  back_pass line (p ∷ ps) h = by (line == p.line) (back_pass line ps (right_true (ok p.token) (passes ps) h))
    where
      by : (b : Bool) → passes (behind_end_of line ps) ≡ true → passes (if b then behind_end_of line ps else p ∷ ps) ≡ true
      by true r = r
      by false r = h

  rest_pass : (p : Placed) (ps : List Placed) → passes (p ∷ ps) ≡ true → passes ps ≡ true
  rest_pass p ps h = right_true (ok p.token) (passes ps) h

  pub parts_pass : {nested : Bool} {spot : Spot} {ps : List Placed} {r : Parts} → IsParted nested spot ps r → passes ps ≡ true
      → (list_all ok r.own ≡ true) × AllPass r.codes
  parts_pass ends h = (refl, tt)
  parts_pass (plain {ps = ps} {r = r} p e d) h =
      let q = parts_pass d (rest_pass p ps h) in (and_both (ok p.token) (list_all ok r.own) (left_true (ok p.token) (passes ps) h) q.0, q.1)
  parts_pass (dots {ps = ps} {r = r} p e d) h =
      let q = parts_pass d (rest_pass p ps h) in (and_both (ok p.token) (list_all ok r.own) (left_true (ok p.token) (passes ps) h) q.0, q.1)
  parts_pass (apart e d) h = parts_pass d h
  parts_pass (any {ps = ps} w a e d) h = parts_pass d (rest_pass a ps (rest_pass w (a ∷ ps) h))
  parts_pass (strict {ps = ps} w a e d) h = parts_pass d (rest_pass a ps (rest_pass w (a ∷ ps) h))
  parts_pass (differs {ps = ps} {c = c} {r = r} w a e code d) h =
      let rest = rest_pass a ps (rest_pass w (a ∷ ps) h) in
      let one = parts_pass code (front_pass w.line ps rest) in
      let more = parts_pass d (back_pass w.line ps rest) in
      (more.0, (one.0, pass_append c.codes r.codes one.1 more.1))
  parts_pass (malformed {ps = ps} w e d) h = parts_pass d (rest_pass w ps h)

-- ---- how many tokens there are

abbrev pub AllShort : ℕ → List Code → Type 0
AllShort n [] = Unit {0}
AllShort n (c ∷ cs) = (length c.tokens ≤ n) × AllShort n cs

short_more : (n m : ℕ) (cs : List Code) → n ≤ m → AllShort n cs → AllShort m cs
short_more n m [] h s = tt
short_more n m (c ∷ cs) h s = (omega (arith, s.0, h), short_more n m cs h s.1)

short_append : (n : ℕ) (cs ds : List Code) → AllShort n cs → AllShort n ds → AllShort n (cs ++ ds)
short_append n [] ds h g = g
short_append n (c ∷ cs) ds h g = (h.0, short_append n cs ds h.1 g)

line_long : (line : ℕ) (ps : List Placed) → length (up_to_end_of line ps) + length (behind_end_of line ps) ≤ length ps
line_long line [] = omega arith
line_long line (p ∷ ps) = by (line == p.line) (line_long line ps)
  where
    by : (b : Bool) → length (up_to_end_of line ps) + length (behind_end_of line ps) ≤ length ps
        → length (if b then p ∷ up_to_end_of line ps else []) + length (if b then behind_end_of line ps else p ∷ ps) ≤ suc (length ps)
    by true h = omega (arith, h)
    by false h = omega arith

pub record ShortParts (n : ℕ) (r : Parts) : Type 0 where
  pub own : length r.own ≤ n
  pub each : AllShort n r.codes
  pub count : length r.codes ≤ n

wider : (n m : ℕ) (r : Parts) → n ≤ m → ShortParts n r → ShortParts m r
wider n m r h s = record { own = omega (arith, s.own, h); each = short_more n m r.codes h s.each; count = omega (arith, s.count, h) }

pub parts_short : {nested : Bool} {spot : Spot} {ps : List Placed} {r : Parts} → IsParted nested spot ps r → ShortParts (length ps) r
parts_short ends = record { own = omega arith; each = tt; count = omega arith }
parts_short (plain {ps = ps} {r = r} p e d) =
    let s = wider (length ps) (suc (length ps)) r (omega arith) (parts_short d) in
    record { own = omega (arith, (parts_short d).own); each = s.each; count = s.count }
parts_short (dots {ps = ps} {r = r} p e d) =
    let s = wider (length ps) (suc (length ps)) r (omega arith) (parts_short d) in
    record { own = omega (arith, (parts_short d).own); each = s.each; count = s.count }
parts_short (apart e d) = parts_short d
parts_short (any {ps = ps} {r = r} w a e d) =
    let s = wider (length ps) (suc (suc (length ps))) r (omega arith) (parts_short d) in record { own = s.own; each = s.each; count = s.count }
parts_short (strict {ps = ps} {r = r} w a e d) =
    let s = wider (length ps) (suc (suc (length ps))) r (omega arith) (parts_short d) in record { own = s.own; each = s.each; count = s.count }
parts_short (differs {ps = ps} {c = c} {r = r} w a e code d) =
    let one = parts_short code in
    let more = parts_short d in
    let front = length (up_to_end_of w.line ps) in let back = length (behind_end_of w.line ps) in
    let n = suc (suc (length ps)) in
    record {
      own = omega (arith, more.own, line_long w.line ps);
      each = (
        omega (arith, one.own, line_long w.line ps),
        short_append n c.codes r.codes (short_more front n c.codes (omega (arith, line_long w.line ps)) one.each)
            (short_more back n r.codes (omega (arith, line_long w.line ps)) more.each),
      );
      count = omega (arith, one.count, more.count, line_long w.line ps, length-append c.codes r.codes);
    }
parts_short (malformed {ps = ps} {r = r} w e d) =
    let s = wider (length ps) (suc (length ps)) r (omega arith) (parts_short d) in record { own = s.own; each = s.each; count = s.count }

-- ---- how often a token's number stands among the own tokens

abbrev pub bit : Bool → ℕ
bit true = 1
bit false = 0

module _ (n : ℕ) where
  abbrev pub times : List Token → ℕ
  times [] = 0
  times (t ∷ ts) = bit (t.id == n) + times ts

  abbrev placed_times : List Placed → ℕ
  placed_times ps = times (tokens_of ps)

  behind_times : (line : ℕ) (ps : List Placed) → placed_times (behind_end_of line ps) ≤ placed_times ps
  behind_times line [] = omega arith
  behind_times line (p ∷ ps) = by (line == p.line) (behind_times line ps)
    where
      by : (b : Bool) → placed_times (behind_end_of line ps) ≤ placed_times ps
          → placed_times (if b then behind_end_of line ps else p ∷ ps) ≤ placed_times (p ∷ ps)
      by true h = omega (arith, h)
      by false h = omega arith

  pub own_times : {nested : Bool} {spot : Spot} {ps : List Placed} {r : Parts} → IsParted nested spot ps r → times r.own ≤ placed_times ps
  own_times ends = omega arith
  own_times (plain p e d) = omega (arith, own_times d)
  own_times (dots p e d) = omega (arith, own_times d)
  own_times (apart e d) = own_times d
  own_times (any w a e d) = omega (arith, own_times d)
  own_times (strict w a e d) = omega (arith, own_times d)
  own_times (differs {ps = ps} w a e code d) = omega (arith, own_times d, behind_times w.line ps)
  own_times (malformed w e d) = omega (arith, own_times d)

past_times : (n m : ℕ) (ps : List Placed) → n < m → CountFrom m ps → times n (tokens_of ps) ≡ 0
past_times n m [] h c = refl
past_times n m (p ∷ ps) h c =
    let off : (p.token.id == n) ≡ false = ap (λ (i : ℕ). i == n) c.0 ∙ other m n h in
    let here : bit (p.token.id == n) ≡ 0 = ap bit off in
    omega (arith, here, past_times n (suc m) ps (omega (arith, h)) c.1)
  where
    other : (a b : ℕ) → b < a → (a == b) ≡ false
    other a b lt = grind (arith, lt)

pub count_once : (n m : ℕ) (ps : List Placed) → CountFrom m ps → times n (tokens_of ps) ≤ 1
count_once n m [] c = omega arith
count_once n m (p ∷ ps) c = by (p.token.id == n) refl (count_once n (suc m) ps c.1)
  where
    same : (a b : ℕ) → (a == b) ≡ true → a ≡ b
    same a b e = grind (arith, e)

    by : (b : Bool) → (p.token.id == n) ≡ b → times n (tokens_of ps) ≤ 1 → bit b + times n (tokens_of ps) ≤ 1
    by true e h = let is : p.token.id ≡ n = same p.token.id n e in let at = c.0 in omega (arith, past_times n (suc m) ps (omega (arith, is, at)) c.1)
    by false e h = omega (arith, h)

-- ---- what is said of a token

at_past : (ps : List Placed) (r : Parts) (n i : ℕ) → (slice_get (said_from n ps r) i ≡ None) ⊎ (slice_get (said_from n ps r) i ≡ Some (said_at (n + i) r))
at_past [] r n i = inl refl
at_past (p ∷ ps) r n zero = let e : n + zero ≡ n = omega arith in inr (ap (λ (m : ℕ). Some (said_at m r)) (sym e))
at_past (p ∷ ps) r n (suc i) =
    let e : suc n + i ≡ n + suc i = omega arith in
    subst (λ (m : ℕ). (slice_get (said_from (suc n) ps r) i ≡ None) ⊎ (slice_get (said_from (suc n) ps r) i ≡ Some (said_at m r))) e (at_past ps r (suc n) i)

-- the codes of a token, or none
pub codes_at : (ps : List Placed) (r : Parts) (id : ℕ)
    → (codes_of (slice_get (said_from 0 ps r) id) ≡ []) ⊎ (codes_of (slice_get (said_from 0 ps r) id) ≡ numbers_at id 0 r.codes)
codes_at ps r id = by (at_past ps r 0 id)
  where
    by : (slice_get (said_from 0 ps r) id ≡ None) ⊎ (slice_get (said_from 0 ps r) id ≡ Some (said_at (0 + id) r))
        → (codes_of (slice_get (said_from 0 ps r) id) ≡ []) ⊎ (codes_of (slice_get (said_from 0 ps r) id) ≡ numbers_at id 0 r.codes)
    by (inl e) = inl (ap codes_of e)
    by (inr e) = let z : 0 + id ≡ id = omega arith in inr (ap codes_of e ∙ ap (λ (m : ℕ). numbers_at m 0 r.codes) z)

numbers_short : (n k : ℕ) (cs : List Code) → length (numbers_at n k cs) ≤ length cs
numbers_short n k [] = omega arith
numbers_short n k (c ∷ cs) = by (n == c.host) (numbers_short n (suc k) cs)
  where
    by : (b : Bool) → length (numbers_at n (suc k) cs) ≤ length cs
        → length (if b then k ∷ numbers_at n (suc k) cs else numbers_at n (suc k) cs) ≤ suc (length cs)
    by true h = omega (arith, h)
    by false h = omega (arith, h)

pub codes_short : (ps : List Placed) (r : Parts) (id : ℕ) → length (codes_of (slice_get (said_from 0 ps r) id)) ≤ length r.codes
codes_short ps r id = by (codes_at ps r id)
  where
    by : (codes_of (slice_get (said_from 0 ps r) id) ≡ [])
        ⊎ (codes_of (slice_get (said_from 0 ps r) id) ≡ numbers_at id 0 r.codes) → length (codes_of (slice_get (said_from 0 ps r) id)) ≤ length r.codes
    by (inl e) = omega (arith, ap length e)
    by (inr e) = omega (arith, ap length e, numbers_short id 0 r.codes)
