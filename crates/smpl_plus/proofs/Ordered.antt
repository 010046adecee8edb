-- The tokens of patterns are in the order of their lines.
use Rattle.std.proofs.Common.{◌≡◌, ℕ, suc, ◌+◌, ◌<◌, ◌≤◌, ◌||◌, ◌==◌, Bool, true, false, if◌then◌else◌, List, [], ◌∷◌, ◌++◌}
use Rattle.std.proofs.Common.{length, take, drop, Option, Some, None, refl, sym, ap, ◌∙◌, subst, arith, nat_lt}
use Rattle.std.proofs.lemmas.List.{take-append-drop, length-take-le, length-drop, drop-drop}
use Rattle.std.proofs.Math.Seq.{take-append-add}
use Rattle.std.proofs.lemmas.Bool.{eqb-true}
use Rattle.std.proofs.lemmas.Bool.Decides.{nat_tests}
use Rattle.smpl_terms.specs.declared.var.Var.{Var as Variable}
use Rattle.smpl_patch.specs.declared.pattern.VarDecl.{VarDecl}
use Rattle.smpl_lexer.specs.declared.token.PatchToken.{PatchToken}
use Rattle.smpl_lexer.specs.declared.text.BodyLine.{BodyLine}
use Rattle.smpl_meta.specs.declared.patterns.Placed.{Placed}
use Rattle.smpl_meta.specs.Patterns.{with_position, at_position, put, put_tokens, put_line, put_lines, pattern_tokens}
use Rattle.smpl_plus.specs.Anchors.{tokens_before}
use Rattle.smpl_plus.specs.Blocks.{has_tokens}
use Rattle.smpl_plus.specs.SoFar.{RisingFrom, AllBelow, run_length, AtLine}

-- ---- how they are put

pub record InOrder (line : ℕ) (ps : List Placed) : Type 0 where
  pub rising : RisingFrom 0 ps
  pub below : AllBelow (suc line) ps

rising-append : (m : ℕ) (ps : List Placed) (p : Placed) → RisingFrom m ps → AllBelow (suc p.line) ps → m ≤ p.line → RisingFrom m (ps ++ p ∷ [])
rising-append m [] p r b h = (h, tt)
rising-append m (q ∷ qs) p r b h = (r.0, rising-append q.line qs p r.1 b.1 (omega (arith, b.0)))

below-append : (n : ℕ) (ps : List Placed) (p : Placed) → AllBelow n ps → p.line < n → AllBelow n (ps ++ p ∷ [])
below-append n [] p b h = (h, tt)
below-append n (q ∷ qs) p b h = (b.0, below-append n qs p b.1 h)

rising-position : (v : Variable) (m : ℕ) (ps : List Placed) → RisingFrom m ps → RisingFrom m (with_position v ps)
rising-position v m [] r = r
rising-position v m (p ∷ []) r = r
rising-position v m (p ∷ q ∷ ps) r = (r.0, rising-position v p.line (q ∷ ps) r.1)

below-position : (v : Variable) (n : ℕ) (ps : List Placed) → AllBelow n ps → AllBelow n (with_position v ps)
below-position v n [] b = b
below-position v n (p ∷ []) b = b
below-position v n (p ∷ q ∷ ps) b = (b.0, below-position v n (q ∷ ps) b.1)

below-more : (n : ℕ) (ps : List Placed) → AllBelow n ps → AllBelow (suc n) ps
below-more n [] b = tt
below-more n (p ∷ ps) b = (omega (arith, b.0), below-more n ps b.1)

module _ (vars : List VarDecl) (sign line : ℕ) where
  order-put : (out : List Placed) (t : PatchToken) → InOrder line out → InOrder line (put vars sign line out t)
  order-put out t o = record {
    rising = rising-append 0 out _ o.rising o.below (omega arith);
    below = below-append (suc line) out _ o.below (omega arith);
  }

  order-position : (v : Variable) (out : List Placed) → InOrder line out → InOrder line (with_position v out)
  order-position v out o = record { rising = rising-position v 0 out o.rising; below = below-position v (suc line) out o.below }

  two_by : (out : List Placed) (t n : PatchToken) (ts : List PatchToken) (o : Option Variable)
      → ((v : Variable) → InOrder line (put_tokens vars sign line (with_position v out) ts))
      → InOrder line (put_tokens vars sign line (put vars sign line out t) (n ∷ ts))
      → InOrder line (elim o as (λ o. List Placed) [
        | Some v ↦ put_tokens vars sign line (with_position v out) ts
        | None ↦
            put_tokens vars sign line (put vars sign line out t) (n ∷ ts)
      ])
  two_by out t n ts (Some v) some none = some v
  two_by out t n ts None some none = none

  order-tokens : (out : List Placed) (ts : List PatchToken) → InOrder line out → InOrder line (put_tokens vars sign line out ts)
  order-tokens out [] o = o
  order-tokens out (t ∷ []) o = order-put out t o
  order-tokens out (t ∷ n ∷ ts) o =
      two_by out t n ts (at_position vars out t n) (λ v. order-tokens (with_position v out) ts (order-position v out o))
      (order-tokens (put vars sign line out t) (n ∷ ts) (order-put out t o))

order-if : (b : Bool) (line : ℕ) (x y : List Placed) → InOrder line x → InOrder line y → InOrder line (if b then x else y)
order-if true line x y p q = p
order-if false line x y p q = q

order-lines : (vars : List VarDecl) (line : ℕ) (out : List Placed) (ls : List BodyLine) → InOrder line out → RisingFrom 0 (put_lines vars line out ls)
order-lines vars line out [] o = o.rising
order-lines vars line out (l ∷ ls) o =
    let next : InOrder line (put_line vars line out l) =
    order-if (l.sign == 43) line out (put_tokens vars l.sign line out l.tokens) o (order-tokens vars l.sign line out l.tokens o) in
    order-lines vars (suc line) (put_line vars line out l) ls
    (record { rising = next.rising; below = below-more (suc line) (put_line vars line out l) next.below })

pub pattern-tokens-rise : (vars : List VarDecl) (body : List BodyLine) → RisingFrom 0 (pattern_tokens vars body)
pattern-tokens-rise vars body = order-lines vars 0 [] body (record { rising = tt; below = tt })

-- ---- how they are processed

eq_less : (a b : ℕ) → a < b → (a == b) ≡ false
eq_less a b h = grind (arith, nat_tests)

eq_more : (a b : ℕ) → b < a → (a == b) ≡ false
eq_more a b h = grind (arith, nat_tests)

less_yes : (a b : ℕ) → a < b → nat_lt a b ≡ true
less_yes a b h = grind (arith, nat_tests)

less_no : (a b : ℕ) → b ≤ a → nat_lt a b ≡ false
less_no a b h = grind (arith, nat_tests)

any-below : (line : ℕ) (front back : List Placed) → AllBelow line front → has_tokens (front ++ back) line ≡ has_tokens back line
any-below line [] back b = refl
any-below line (p ∷ ps) back b =
    ap (λ x. x || has_tokens (ps ++ back) line) (eq_less p.line line b.0) ∙ any-below line ps back b.1

any-above : (line m : ℕ) (ps : List Placed) → RisingFrom m ps → line < m → has_tokens ps line ≡ false
any-above line m [] r h = refl
any-above line m (p ∷ ps) r h =
    let above : line < p.line = omega (arith, r.0) in
    ap (λ x. x || has_tokens ps line) (eq_more p.line line above) ∙ any-above line p.line ps r.1 above

count-front : (line : ℕ) (front back : List Placed) → AllBelow line front → tokens_before line (front ++ back) ≡ length front + tokens_before line back
count-front line [] back b = omega arith
count-front line (p ∷ ps) back b =
    let here : nat_lt p.line line ≡ true = less_yes p.line line b.0 in
    let rest = count-front line ps back b.1 in
    ap (λ x. if x then suc (tokens_before line (ps ++ back)) else tokens_before line (ps ++ back)) here ∙ omega (arith, rest)

count-back : (line : ℕ) (m : ℕ) (ps : List Placed) → RisingFrom m ps → line ≤ m → tokens_before line ps ≡ 0
count-back line m [] r h = refl
count-back line m (p ∷ ps) r h =
    let above : line ≤ p.line = omega (arith, r.0) in
    ap (λ x. if x then suc (tokens_before line ps) else tokens_before line ps) (less_no p.line line above) ∙ count-back line p.line ps r.1 above

-- a run at the start of a list in order
pub record Run (line : ℕ) (ps : List Placed) : Type 0 where
  pub within : run_length line ps ≤ length ps
  pub front : AllBelow (suc line) (take (run_length line ps) ps)
  pub back : RisingFrom (suc line) (drop (run_length line ps) ps)
  pub some : has_tokens ps line ≡ nat_lt 0 (run_length line ps)

run_by : (line : ℕ) (p : Placed) (ps : List Placed) (b : Bool) → (p.line == line) ≡ b → line ≤ p.line → RisingFrom p.line ps → Run line ps
    → (n : ℕ) → n ≡ (if b then suc (run_length line ps) else 0)
    → (n ≤ length (p ∷ ps)) × AllBelow (suc line) (take n (p ∷ ps)) × RisingFrom (suc line) (drop n (p ∷ ps)) × ((b || has_tokens ps line) ≡ nat_lt 0 n)
run_by line p ps true e low r run n is =
    let here : p.line ≡ line = eqb-true p.line line e in
    subst (λ (k : ℕ). (k ≤ length (p ∷ ps)) × AllBelow (suc line) (take k (p ∷ ps)) × RisingFrom (suc line) (drop k (p ∷ ps))
    × ((true || has_tokens ps line) ≡ nat_lt 0 k)) (sym is)
    (omega (arith, run.within), (omega arith, run.front), run.back, sym (less_yes 0 (suc (run_length line ps)) (omega arith)))
run_by line p ps false e low r run n is =
    let above : line < p.line = grind (arith, nat_tests) in
    subst (λ (k : ℕ). (k ≤ length (p ∷ ps)) × AllBelow (suc line) (take k (p ∷ ps)) × RisingFrom (suc line) (drop k (p ∷ ps))
    × ((false || has_tokens ps line) ≡ nat_lt 0 k)) (sym is)
    (omega arith, tt, (omega (arith, above), r), any-above line p.line ps r above)

pub run-of : (line m : ℕ) (ps : List Placed) → RisingFrom m ps → line ≤ m → Run line ps
run-of line m [] r h = record { within = omega arith; front = tt; back = tt; some = refl }
run-of line m (p ∷ ps) r h =
    let low : line ≤ p.line = omega (arith, r.0) in
    let done = run_by line p ps (p.line == line) refl low r.1 (run-of line p.line ps r.1 low) (run_length line (p ∷ ps)) refl in
    record { within = done.0; front = done.1; back = done.2; some = done.3 }

front-more : (line : ℕ) (a b : List Placed) → AllBelow line a → AllBelow (suc line) b → AllBelow (suc line) (a ++ b)
front-more line [] b below more = more
front-more line (p ∷ ps) b below more = (omega (arith, below.0), front-more line ps b below.1 more)

take_plus : (k n : ℕ) (xs : List Placed) → k ≤ length xs → take (k + n) xs ≡ take k xs ++ take n (drop k xs)
take_plus k n xs within =
    ap (λ (l : List Placed). take (k + n) l) (sym (take-append-drop k xs))
    ∙ ap (λ (i : ℕ). take (i + n) (take k xs ++ drop k xs)) (sym (length-take-le k xs within))
    ∙ take-append-add (take k xs) (drop k xs) n

pub at-first : (ps : List Placed) → RisingFrom 0 ps → AtLine 0 0 ps
at-first ps r = record { within = omega arith; below = tt; rising = r }

pub at-next : (line k : ℕ) (ps : List Placed) → AtLine line k ps → AtLine (suc line) (k + run_length line (drop k ps)) ps
at-next line k ps a =
    let run = run-of line line (drop k ps) a.rising (omega arith) in
    let n = run_length line (drop k ps) in
    record {
      within = omega (arith, run.within, length-drop k ps, a.within);
      below = subst (AllBelow (suc line)) (sym (take_plus k n ps a.within)) (front-more line (take k ps) (take n (drop k ps)) a.below run.front);
      rising = subst (RisingFrom (suc line)) (drop-drop n k ps) run.back;
    }

pub at-count : (line k : ℕ) (ps : List Placed) → AtLine line k ps → k ≡ tokens_before line ps
at-count line k ps a =
    let whole = ap (tokens_before line) (take-append-drop k ps) in
    let front = count-front line (take k ps) (drop k ps) a.below in
    let back = count-back line line (drop k ps) a.rising (omega arith) in
    omega (arith, whole, front, back, length-take-le k ps a.within)

pub at-some : (line k : ℕ) (ps : List Placed) → AtLine line k ps → has_tokens ps line ≡ nat_lt 0 (run_length line (drop k ps))
at-some line k ps a =
    sym (ap (λ (l : List Placed). has_tokens l line) (take-append-drop k ps)) ∙ any-below line (take k ps) (drop k ps) a.below
    ∙ (run-of line line (drop k ps) a.rising (omega arith)).some

pub at-yes : (line k r : ℕ) (ps : List Placed) → AtLine line k ps → r ≡ run_length line (drop k ps) → 0 < r → has_tokens ps line ≡ true
at-yes line k r ps a e some = at-some line k ps a ∙ less_yes 0 (run_length line (drop k ps)) (omega (arith, e, some))

pub at-no : (line k r : ℕ) (ps : List Placed) → AtLine line k ps → r ≡ run_length line (drop k ps) → r ≤ 0 → has_tokens ps line ≡ false
at-no line k r ps a e none = at-some line k ps a ∙ less_no 0 (run_length line (drop k ps)) (omega (arith, e, none))

pub at-step : (line k r : ℕ) (ps : List Placed) → r ≡ run_length line (drop k ps) → AtLine line k ps → AtLine (line + 1) (k + r) ps
at-step line k r ps e a =
    let next : suc line ≡ line + 1 = omega arith in
    subst (λ (m : ℕ). AtLine m (k + r) ps) next (subst (λ (x : ℕ). AtLine (suc line) (k + x) ps) (sym e) (at-next line k ps a))
