-- How a newline after a text may change its pieces.
-- Proof: by the states of the lexer. In few of them does a newline continue a piece, and in those the text without it is a
-- piece of nearly the same kind, or blanks whose last splice is incomplete.
use Rattle.std.proofs.Common.{◌≡◌, ℕ, ◌==◌, Bool, true, false, ◌&&◌, ◌||◌, refl, sym, ap, ◌∙◌, subst, true≢false, List, [], ◌∷◌}
use Rattle.std.proofs.Common.{◌++◌, Option, Some, None, if◌then◌else◌, option_map, option_and_then, codes}
use Rattle.std.proofs.lemmas.Bool.{eqb-true}
use Rattle.c_lexer.specs.declared.state.Kind.{Kind}
use Rattle.c_lexer.specs.declared.state.Kind.TheVariants as kind
use Rattle.c_lexer.specs.declared.state.Splice.{Splice}
use Rattle.c_lexer.specs.declared.state.Splice.TheVariants.{Plain, Back, BackReturn}
use Rattle.c_lexer.specs.declared.state.Inside.{Inside}
use Rattle.c_lexer.specs.declared.state.Inside.TheVariants.{Fresh, Usual, Escape, EscapeReturn, Double, DoubleReturn}
use Rattle.c_lexer.specs.declared.state.LiteralStep.{LiteralStep}
use Rattle.c_lexer.specs.declared.state.LiteralStep.TheVariants.{In, Close, Broken, Stop}
use Rattle.c_lexer.specs.declared.state.InLine.{InLine}
use Rattle.c_lexer.specs.declared.state.State.{State}
use Rattle.c_lexer.specs.declared.state.State.TheVariants.{Start, Blanks, Backslash, Word, Digits, One, Two, Open, Rest, Literal, Unended, Hash, Closed, Lone}
use Rattle.c_lexer.specs.Words.{is_space, is_letter, is_digit, is_word_byte, is_quote, is_sign, is_exponent, is_among, is_punct1, is_two, is_three}
use Rattle.c_lexer.specs.Kinds.{on, inside, line, literal, is_prefix, one, begin, step, kind_at, advance, walk, named, kind_of}
use Rattle.sound_laws.proofs.SmplSound.BoolLemmas.{front-true}

-- ---- kinds

-- blanks and comments, in which there is no token
abbrev pub silent : Kind → Bool
silent kind.Blank = true
silent kind.Comment = true
silent _ = false

-- what no line of plus code has
abbrev pub bad : Kind → Bool
bad kind.Line = true
bad kind.Stray = true
bad _ = false

abbrev silent_some : Option Kind → Bool
silent_some None = false
silent_some (Some k) = silent k

-- ---- states that are reached

abbrev Good : State → Type 0
Good Start = ⊥
Good (Literal quote prefixed l) = (10 == quote) ≡ false
Good _ = Unit {0}

abbrev AllGood : Option State → Type 0
AllGood None = Unit {0}
AllGood (Some s) = Good s

good-if : (c : Bool) (x y : Option State) → (c ≡ true → AllGood x) → AllGood y → AllGood (if c then x else y)
good-if true x y f g = f refl
good-if false x y f g = g

quote-good : (b : ℕ) → is_quote b ≡ true → (10 == b) ≡ false
quote-good b e = by (10 == b) refl
  where
    by : (c : Bool) → (10 == b) ≡ c → c ≡ false
    by false h = refl
    by true h =
        let same : 10 ≡ b = eqb-true 10 b h in
        absurd (true≢false (sym e ∙ ap is_quote (sym same)))

begin-good : (b : ℕ) → AllGood (begin b)
begin-good b =
    good-if (is_space b) _ _ (λ e. tt) (good-if (b == 92) _ _ (λ e. tt) (good-if (is_letter b) _ _ (λ e. tt) (good-if (is_digit b) _ _ (λ e. tt)
    (good-if (b == 35) _ _ (λ e. tt) (good-if (is_quote b) _ _ (λ e. quote-good b e) (good-if (is_punct1 b) _ _ (λ e. tt) tt))))))

blanks-good : (s : Splice) (b : ℕ) → AllGood (step (Blanks s) b)
blanks-good Plain b = good-if (is_space b) _ _ (λ e. tt) (good-if (b == 92) _ _ (λ e. tt) tt)
blanks-good Back b = good-if (b == 10) _ _ (λ e. tt) (good-if (b == 13) _ _ (λ e. tt) tt)
blanks-good BackReturn b = good-if (b == 10) _ _ (λ e. tt) tt

rest-good : (o : Option Splice) → AllGood (option_map Rest o)
rest-good None = tt
rest-good (Some s) = tt

unended-good : (o : Option Splice) → AllGood (option_map Unended o)
unended-good None = tt
unended-good (Some s) = tt

hash-good : (o : Option InLine) → AllGood (option_map Hash o)
hash-good None = tt
hash-good (Some s) = tt

literal-good : (quote : ℕ) (prefixed : Bool) (w : LiteralStep) → (10 == quote) ≡ false → AllGood (literal quote prefixed w)
literal-good quote prefixed (In l) e = e
literal-good quote prefixed Close e = tt
literal-good quote prefixed Broken e = good-if prefixed _ _ (λ e. tt) tt
literal-good quote prefixed Stop e = tt

step-good : (s : State) (b : ℕ) → Good s → AllGood (step s b)
step-good Start b g = absurd g
step-good (Blanks s) b g = blanks-good s b
step-good Backslash b g = blanks-good Back b
step-good (Word p) b g =
    good-if (is_word_byte b) _ _ (λ e. tt) (good-if (is_quote b && is_prefix p b) _ _ (λ e. quote-good b (front-true (is_quote b) (is_prefix p b) e)) tt)
step-good (Digits last) b g = good-if (is_word_byte b || b == 46 || (is_sign b && is_exponent last)) _ _ (λ e. tt) tt
step-good (One a) b g =
    good-if (is_two a b || (a == 46 && b == 46)) _ _ (λ e. tt) (good-if (a == 46 && is_digit b) _ _ (λ e. tt) (good-if (a == 47 && b == 47) _ _ (λ e. tt)
    (good-if (a == 47 && b == 42) _ _ (λ e. tt) tt)))
step-good (Two a c) b g = good-if (is_three a c b) _ _ (λ e. tt) tt
step-good (Open star) b g = good-if (star && b == 47) _ _ (λ e. tt) tt
step-good (Rest s) b g = rest-good (on s b)
step-good (Literal quote prefixed l) b g = literal-good quote prefixed (inside quote l b) g
step-good (Unended s) b g = unended-good (on s b)
step-good (Hash l) b g = hash-good (line l b)
step-good (Closed k) b g = tt
step-good Lone b g = tt

walk-good : (o : Option State) (bs : List ℕ) → AllGood o → AllGood (walk o bs)
walk-good o [] g = g
walk-good None (b ∷ bs) g = walk-good None bs tt
walk-good (Some s) (b ∷ bs) g = walk-good (step s b) bs (step-good s b g)

-- ---- a newline behind punctuators and literals

one-newline : (a : ℕ) → one a 10 ≡ None
one-newline a = by (a == 10) (is_among (codes "+-<>=&|") a) (a == 45) (a == 46) (a == 47) no
  where
    no : (a == 10 && is_among (codes "+-<>=&|") a) ≡ false
    no = first (a == 10) refl
      where
        first : (c : Bool) → (a == 10) ≡ c → (c && is_among (codes "+-<>=&|") a) ≡ false
        first false h = refl
        first true h = ap (is_among (codes "+-<>=&|")) (eqb-true a 10 h)

    by : (p q x y z : Bool) → (p && q) ≡ false
        → (if ((p && q) || false || (x && false))
        || (y && false) then Some (Two a 10) else
        (if y && false then Some (Digits 10) else (if z && false then Some (Rest Plain) else (if z && false then Some (Open false) else None)))) ≡ None
    by true true x y z h = absurd (true≢false h)
    by true false true true true h = refl
    by true false true true false h = refl
    by true false true false true h = refl
    by true false true false false h = refl
    by true false false true true h = refl
    by true false false true false h = refl
    by true false false false true h = refl
    by true false false false false h = refl
    by false q true true true h = refl
    by false q true true false h = refl
    by false q true false true h = refl
    by false q true false false h = refl
    by false q false true true h = refl
    by false q false true false h = refl
    by false q false false true h = refl
    by false q false false false h = refl

three-newline : (a b : ℕ) → is_three a b 10 ≡ false
three-newline a b = by (a == 46) (b == 46) (a == b)
  where
    by : (x y z : Bool) → ((x && y && false) || (z && false && (a == 60 || a == 62))) ≡ false
    by true true true = refl
    by true true false = refl
    by true false true = refl
    by true false false = refl
    by false y true = refl
    by false y false = refl

-- ---- what a newline may do

-- The text with a newline behind it is of this kind: the text is of a kind that is bad, or both are blanks or comments, or
-- with the newline it is blanks.
pub data Outcome (text : List ℕ) (k : Kind) : Type 0 where
  worse : (j : Kind) → kind_of text ≡ Some j → bad j ≡ true → Outcome text k
  quiet : (j : Kind) → kind_of text ≡ Some j → silent j ≡ true → silent k ≡ true → Outcome text k
  blank : k ≡ kind.Blank → Outcome text k

module _ (text : List ℕ) (k : Kind) where
  abbrev After : Option State → Type 0
  After o = option_map (named (text ++ 10 ∷ [])) (option_and_then kind_at o) ≡ Some k

  nothing : After None → Outcome text k
  nothing h = let no : None ≡ Some k = h in absurd (cc)

  of-kind : (o : Option State) → walk (Some Start) text ≡ o → kind_of text ≡ option_map (named text) (option_and_then kind_at o)
  of-kind o e = ap (λ (x : Option State). option_map (named text) (option_and_then kind_at x)) e

  within : (quote : ℕ) → (10 == quote) ≡ false → (l : Inside) → After (step (Literal quote true l) 10) → Outcome text k
  within quote e Fresh h = nothing (subst (λ (b : Bool). After (literal quote true (if b then Close else Stop))) e h)
  within quote e Usual h = nothing (subst (λ (b : Bool). After (literal quote true (if b then Close else Stop))) e h)
  within quote e Escape h = nothing h
  within quote e EscapeReturn h = nothing (subst (λ (b : Bool). After (literal quote true (if b then Close else In Usual))) e h)
  within quote e Double h = nothing (subst (λ (b : Bool). After (literal quote true (if b then Close else Broken))) e h)
  within quote e DoubleReturn h = nothing (subst (λ (b : Bool). After (literal quote true (if b then Close else Broken))) e h)

  outcome : (s : State) → walk (Some Start) text ≡ Some s → Good s → After (step s 10) → Outcome text k
  outcome Start e g h = absurd g
  outcome (Blanks Plain) e g h = quiet kind.Blank (of-kind (Some (Blanks Plain)) e) refl (sym (ap silent_some h))
  outcome (Blanks Back) e g h = let same : Some kind.Blank ≡ Some k = h in blank (cc)
  outcome (Blanks BackReturn) e g h = let same : Some kind.Blank ≡ Some k = h in blank (cc)
  outcome Backslash e g h = worse kind.Stray (of-kind (Some Backslash) e) refl
  outcome (Word p) e g h = nothing h
  outcome (Digits last) e g h = nothing h
  outcome (One a) e g h = nothing (subst After (one-newline a) h)
  outcome (Two a b) e g h = nothing (subst (λ (c : Bool). After (if c then Some (Closed kind.Punct) else None)) (three-newline a b) h)
  outcome (Open star) e g h = worse kind.Stray (of-kind (Some (Open star)) e) refl
  outcome (Rest Plain) e g h = nothing h
  outcome (Rest Back) e g h = quiet kind.Comment (of-kind (Some (Rest Back)) e) refl (sym (ap silent_some h))
  outcome (Rest BackReturn) e g h = quiet kind.Comment (of-kind (Some (Rest BackReturn)) e) refl (sym (ap silent_some h))
  outcome (Literal quote true l) e g h = within quote g l h
  outcome (Literal quote false l) e g h = worse kind.Stray (of-kind (Some (Literal quote false l)) e) refl
  outcome (Unended s) e g h = worse kind.Stray (of-kind (Some (Unended s)) e) refl
  outcome (Hash l) e g h = worse kind.Line (of-kind (Some (Hash l)) e) refl
  outcome (Closed j) e g h = nothing h
  outcome Lone e g h = worse kind.Stray (of-kind (Some Lone) e) refl

  outcome-of : (o : Option State) → walk (Some Start) text ≡ o → AllGood o → After (advance o 10) → Outcome text k
  outcome-of None e g h = nothing h
  outcome-of (Some s) e g h = outcome s e g h

walk-append : (o : Option State) (xs ys : List ℕ) → walk o (xs ++ ys) ≡ walk (walk o xs) ys
walk-append o [] ys = refl
walk-append o (x ∷ xs) ys = walk-append (advance o x) xs ys

pub newline : (b : ℕ) (bs : List ℕ) (k : Kind) → kind_of (b ∷ bs ++ 10 ∷ []) ≡ Some k → Outcome (b ∷ bs) k
newline b bs k h =
    let text : List ℕ = b ∷ bs in
    let there : After text k (walk (walk (Some Start) text) (10 ∷ [])) = subst (After text k) (walk-append (Some Start) text (10 ∷ [])) h in
    outcome-of text k (walk (Some Start) text) refl (walk-good (begin b) bs (begin-good b)) there
