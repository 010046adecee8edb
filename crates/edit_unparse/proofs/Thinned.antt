-- Parts without some commas and the blanks behind them, as lists lose them.
use Rattle.std.proofs.Common.{◌≡◌, ◌==◌, ◌&&◌, ◌||◌, ◌⊎◌, ℕ, Bool, true, false, not, refl, sym, ap, ◌∙◌, inl, inr}
use Rattle.std.proofs.Common.{List, [], ◌∷◌, ◌++◌, subst}
use Rattle.std.specs.Prelude.{if◌then◌else◌}
use Rattle.std.specs.List.{list_all}
use Rattle.std.proofs.lemmas.Bool.{false≢true}
use Rattle.c_lexer.specs.declared.piece.PieceKind.{PieceKind}
use Rattle.c_lexer.specs.declared.piece.PieceKind.TheVariants.{Word, Blank, Comment, Line}
use Rattle.tidy_flags.specs.declared.signs.Sign.{Sign}
use Rattle.tidy_flags.specs.declared.signs.Sign.TheVariants as sign
use Rattle.tidy_flags.specs.declared.signs.ListState.{ListState}
use Rattle.tidy_flags.specs.Signs.{depth_after, is_closing, is_comma, is_opening, is_own_comma, state_after, stays_early}
use Rattle.edit_unparse.specs.Output.{Part, is_word}
use Rattle.edit_unparse.specs.Tidy.Commas.{blank_step, front_of, has_no_token, is_from, rest_of, sign_for, sign_of}
use Rattle.edit_unparse.specs.Tidy.Commas.{without_blanks, without_early, without_last}
use Rattle.edit_unparse.specs.Tidy.Places.{is_plain}

-- The second parts are the first without some commas and blanks directly behind them, up to the old piece with this number. The
-- flag says that a comma has gone, and only blanks stood behind it.
pub data Thin : ℕ → Bool → List Part → List Part → Type 0 where
  unchanged : (c : ℕ) (g : Bool) (ps : List Part) → Thin c g ps ps
  stays_here : (c : ℕ) (g h : Bool) (p : Part) (ps qs : List Part) → is_from c p.from ≡ false → (h ≡ true → (g ≡ true) × (p.piece.kind ≡ Blank))
      → Thin c h ps qs → Thin c g (p ∷ ps) (p ∷ qs)
  comma_goes : (c : ℕ) (g : Bool) (p : Part) (ps qs : List Part) → is_from c p.from ≡ false → sign_of p ≡ sign.Comma → Thin c true ps qs → Thin c g (p ∷ ps) qs
  blank_goes : (c : ℕ) (p : Part) (ps qs : List Part) → is_from c p.from ≡ false → p.piece.kind ≡ Blank → Thin c true ps qs → Thin c true (p ∷ ps) qs

-- signs

pub comma_word : (k : PieceKind) (text : List ℕ) → sign_for k text ≡ sign.Comma → is_word k ≡ true
comma_word (Word a id) text e = refl
comma_word Blank text e = absurd (elim (is_plain Blank text) as (λ b. (if b then sign.Blank else sign.Splice) ≡ sign.Comma → ⊥) [
  | true ↦ λ f. cc
  | false ↦ λ f. cc
] e)
comma_word Comment text e = absurd cc
comma_word Line text e = absurd cc

abbrev is_soft : Sign → Bool
is_soft sign.Blank = true
is_soft sign.Splice = true
is_soft s = false

soft_blank : (k : PieceKind) (text : List ℕ) → is_soft (sign_for k text) ≡ true → k ≡ Blank
soft_blank Blank text e = refl
soft_blank (Word a id) text e = absurd (by (is_opening text) (is_closing text) (is_comma text) e)
  where
    by : (o c m : Bool) → is_soft (if o then sign.Opening else (if c then sign.Closing else (if m then sign.Comma else sign.Token))) ≡ true → ⊥
    by true c m f = false≢true f
    by false true m f = false≢true f
    by false false true f = false≢true f
    by false false false f = false≢true f
soft_blank Comment text e = absurd (false≢true e)
soft_blank Line text e = absurd (false≢true e)

-- what goes and what stays of a list

goes_early : (s : ListState) (x : Sign) → stays_early s x ≡ false → (x ≡ sign.Comma) ⊎ ((x ≡ sign.Blank) × (s.gone ≡ true))
goes_early s sign.Opening e = absurd cc
goes_early s sign.Closing e = absurd cc
goes_early s sign.Comma e = inl refl
goes_early s sign.Token e = absurd cc
goes_early s sign.Blank e = inr (refl, by s.gone e)
  where
    by : (b : Bool) → not b ≡ false → b ≡ true
    by true f = refl
    by false f = absurd cc
goes_early s sign.Splice e = absurd cc
goes_early s sign.Solid e = absurd cc

stays_gone : (s : ListState) (x : Sign) → stays_early s x ≡ true → (state_after s x).gone ≡ true → (s.gone ≡ true) × (x ≡ sign.Splice)
stays_gone s sign.Opening e f = absurd cc
stays_gone s sign.Closing e f = absurd cc
stays_gone s sign.Comma e f = absurd (by (s.depth == 0) s.seen e f)
  where
    by : (d seen : Bool) → (not d || seen) ≡ true
        → (let t : ListState = if d then record { depth = 0; seen = false; gone = not seen } else record { depth = s.depth; seen = true; gone = false } in
        t.gone) ≡ true → ⊥
    by true true e f = false≢true f
    by true false e f = false≢true e
    by false seen e f = false≢true f
stays_gone s sign.Token e f = absurd cc
stays_gone s sign.Blank e f = absurd (by s.gone e f)
  where
    by : (b : Bool) → not b ≡ true → b ≡ true → ⊥
    by true g h = false≢true g
    by false g h = false≢true h
stays_gone s sign.Splice e f = (f, refl)
stays_gone s sign.Solid e f = absurd cc

abbrev pub NotFrom : ℕ → List Part → Type 0
NotFrom c parts = list_all (λ p. not (is_from c p.from)) parts ≡ true

first_not : (c : ℕ) (p : Part) (parts : List Part) → NotFrom c (p ∷ parts) → is_from c p.from ≡ false
first_not c p parts e = by (is_from c p.from) e
  where
    by : (b : Bool) → (not b && list_all (λ q. not (is_from c q.from)) parts) ≡ true → b ≡ false
    by true f = absurd (false≢true f)
    by false f = refl

rest_not : (c : ℕ) (p : Part) (parts : List Part) → NotFrom c (p ∷ parts) → NotFrom c parts
rest_not c p parts e = by (is_from c p.from) e
  where
    by : (b : Bool) → (not b && list_all (λ q. not (is_from c q.from)) parts) ≡ true → NotFrom c parts
    by true f = absurd (false≢true f)
    by false f = f

both_not : (c : ℕ) (p : Part) (parts : List Part) → is_from c p.from ≡ false → NotFrom c parts → NotFrom c (p ∷ parts)
both_not c p parts e f = ap (λ (b : Bool). not b && list_all (λ q. not (is_from c q.from)) parts) e ∙ f

module _ (c : ℕ) (rest : List Part) where
  pub early_thin : (s : ListState) (g : Bool) (front : List Part) → NotFrom c front → (s.gone ≡ true → g ≡ true)
      → Thin c g (front ++ rest) (without_early s front ++ rest)
  early_thin s g [] none is = unchanged c g rest
  early_thin s g (p ∷ front) none is =
      by (stays_early s (sign_of p)) refl (λ h. early_thin (state_after s (sign_of p)) h front (rest_not c p front none))
    where
      t : ListState
      t = state_after s (sign_of p)

      left : List Part
      left = without_early (state_after s (sign_of p)) front

      by : (b : Bool) → stays_early s (sign_of p) ≡ b → ((h : Bool) → (t.gone ≡ true → h ≡ true) → Thin c h (front ++ rest) (left ++ rest))
          → Thin c g (p ∷ (front ++ rest)) ((if b then p ∷ left else left) ++ rest)
      by true e more = stays_here c g t.gone p (front ++ rest) (left ++ rest) (first_not c p front none)
          (λ f. let two = stays_gone s (sign_of p) e f in (is two.0, soft_blank p.piece.kind p.piece.text (ap is_soft two.1)))
          (more t.gone (λ f. f))
      by false e more = elim (goes_early s (sign_of p) e) [
        | inl own ↦ comma_goes c g p (front ++ rest) (left ++ rest) (first_not c p front none) own (more true (λ f. refl))
        | inr two ↦ subst (λ (x : Bool). Thin c x (p ∷ (front ++ rest)) (left ++ rest)) (sym (is two.1))
            (blank_goes c p (front ++ rest) (left ++ rest) (first_not c p front none) (soft_blank p.piece.kind p.piece.text (ap is_soft two.0))
            (more true (λ f. refl)))
      ]

  blanks_thin : (front : List Part) → NotFrom c front → Thin c true (front ++ rest) (without_blanks front ++ rest)
  blanks_thin [] none = unchanged c true rest
  blanks_thin (p ∷ front) none = by (sign_of p) refl (blanks_thin front (rest_not c p front none))
    where
      by : (x : Sign) → sign_of p ≡ x → Thin c true (front ++ rest) (without_blanks front ++ rest)
          → Thin c true (p ∷ (front ++ rest)) (blank_step x p front (without_blanks front) ++ rest)
      by sign.Opening e more = unchanged c true (p ∷ (front ++ rest))
      by sign.Closing e more = unchanged c true (p ∷ (front ++ rest))
      by sign.Comma e more = unchanged c true (p ∷ (front ++ rest))
      by sign.Token e more = unchanged c true (p ∷ (front ++ rest))
      by sign.Blank e more = blank_goes c p (front ++ rest) (without_blanks front ++ rest) (first_not c p front none)
          (soft_blank p.piece.kind p.piece.text (ap is_soft e)) more
      by sign.Splice e more = stays_here c true true p (front ++ rest) (without_blanks front ++ rest) (first_not c p front none)
          (λ f. (refl, soft_blank p.piece.kind p.piece.text (ap is_soft e))) more
      by sign.Solid e more = unchanged c true (p ∷ (front ++ rest))

  own_comma : (depth : ℕ) (x : Sign) → is_own_comma depth x ≡ true → x ≡ sign.Comma
  own_comma depth sign.Opening e = absurd cc
  own_comma depth sign.Closing e = absurd cc
  own_comma depth sign.Comma e = refl
  own_comma depth sign.Token e = absurd cc
  own_comma depth sign.Blank e = absurd cc
  own_comma depth sign.Splice e = absurd cc
  own_comma depth sign.Solid e = absurd cc

  first_of : (a b : Bool) → (a && b) ≡ true → a ≡ true
  first_of true b e = refl
  first_of false b e = absurd (false≢true e)

  pub last_thin : (depth : ℕ) (front : List Part) → NotFrom c front → Thin c false (front ++ rest) (without_last depth front ++ rest)
  last_thin depth [] none = unchanged c false rest
  last_thin depth (p ∷ front) none =
      by (is_own_comma depth (sign_of p) && has_no_token front) refl (last_thin (depth_after depth (sign_of p)) front (rest_not c p front none))
    where
      left : List Part
      left = without_last (depth_after depth (sign_of p)) front

      by : (b : Bool) → (is_own_comma depth (sign_of p) && has_no_token front) ≡ b → Thin c false (front ++ rest) (left ++ rest)
          → Thin c false (p ∷ (front ++ rest)) ((if b then without_blanks front else p ∷ left) ++ rest)
      by true e more = comma_goes c false p (front ++ rest) (without_blanks front ++ rest) (first_not c p front none)
          (own_comma depth (sign_of p) (first_of (is_own_comma depth (sign_of p)) (has_no_token front) e)) (blanks_thin front (rest_not c p front none))
      by false e more = stays_here c false false p (front ++ rest) (left ++ rest) (first_not c p front none) (λ f. absurd (false≢true f))
          more

pub early_not : (c : ℕ) (s : ListState) (front : List Part) → NotFrom c front → NotFrom c (without_early s front)
early_not c s [] none = refl
early_not c s (p ∷ front) none =
    let left = without_early (state_after s (sign_of p)) front in
    let more = early_not c (state_after s (sign_of p)) front (rest_not c p front none) in
    elim (stays_early s (sign_of p)) as (λ b. NotFrom c (if b then p ∷ left else left)) [
      | true ↦ both_not c p left (first_not c p front none) more
      | false ↦ more
    ]

pub front_not : (c : ℕ) (parts : List Part) → NotFrom c (front_of c parts)
front_not c [] = refl
front_not c (p ∷ parts) = by (is_from c p.from) refl (front_not c parts)
  where
    by : (b : Bool) → is_from c p.from ≡ b → NotFrom c (front_of c parts) → NotFrom c (if b then [] else p ∷ front_of c parts)
    by true e more = refl
    by false e more = both_not c p (front_of c parts) e more

pub two : (n : ℕ) (parts : List Part) → front_of n parts ++ rest_of n parts ≡ parts
two n [] = refl
two n (p ∷ parts) = by (is_from n p.from) (two n parts)
  where
    by : (b : Bool) → front_of n parts ++ rest_of n parts ≡ parts
        → (if b then [] else p ∷ front_of n parts) ++ (if b then p ∷ parts else rest_of n parts) ≡ p ∷ parts
    by true rest = refl
    by false rest = ap (λ (l : List Part). p ∷ l) rest
