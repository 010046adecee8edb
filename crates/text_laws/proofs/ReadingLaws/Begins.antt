-- No item begins after a Stray: the item before it ends with `;` or `}`.
use Rattle.std.proofs.Common.{◌≡◌, ◌+◌, ℕ, zero, suc, Bool, true, false, refl, sym, ap, subst, ◌∙◌, arith, List, [], ◌∷◌, map, take, drop, get_or, ◌-◌}
use Rattle.std.specs.Prelude.{if◌then◌else◌}
use Rattle.cpp_lines.specs.declared.sign.Sign.{Sign}
use Rattle.cpp_lines.specs.declared.sign.Sign.TheVariants.{Opening, Closing, Semicolon, Attribute, Marker, Other}
use Rattle.cpp_lines.specs.declared.span.ItemSpan.{ItemSpan}
use Rattle.cpp_lines.specs.Items.{ends_item, last_item, items_from, items_of}
use Rattle.text_laws.proofs.ReadingLaws.Behind.{Follow}

abbrev is_other : Sign → Bool
is_other Other = true
is_other (Opening b) = false
is_other (Closing b) = false
is_other Semicolon = false
is_other Attribute = false
is_other Marker = false

-- the token before this one, if it is not the first, has a sign that says something
abbrev pub Begins : (ℕ → Sign) → ℕ → Type 0
Begins signs first = (j : ℕ) → first ≡ suc j → is_other (signs j) ≡ false

abbrev pub AllBegin : (ℕ → Sign) → List ItemSpan → Type 0
AllBegin signs [] = Unit {0}
AllBegin signs (span ∷ spans) = Begins signs span.first × AllBegin signs spans

ender : (s : Sign) (before : List Sign) → ends_item s before ≡ true → is_other s ≡ false
ender Other before e = absurd cc
ender (Opening b) before e = refl
ender (Closing b) before e = refl
ender Semicolon before e = refl
ender Attribute before e = refl
ender Marker before e = refl

last_begins : (signs : ℕ → Sign) (first : ℕ) (before : List Sign) (number : ℕ) → Begins signs first → AllBegin signs (last_item first before number)
last_begins signs first [] number h = tt
last_begins signs first (s ∷ before) number h = (h, tt)

from_begins : (signs : ℕ → Sign) (first : ℕ) (before : List Sign) (number : ℕ) (tokens : List Sign) → Begins signs first
    → ((m : ℕ) → signs (number + m) ≡ get_or tokens m Other)
    → AllBegin signs (items_from first before number tokens)
from_begins signs first before number [] h at = last_begins signs first before number h
from_begins signs first before number (s ∷ tokens) h at =
    let later : (m : ℕ) → signs (number + 1 + m) ≡ get_or tokens m Other = λ m.
    (let next : number + 1 + m ≡ number + suc m = omega arith in ap signs next ∙ at (suc m)) in
    let here : signs number ≡ s = (let same : number ≡ number + 0 = omega arith in ap signs same ∙ at 0) in
    elim (ends_item s before) as (λ (b : Bool). ends_item s before ≡ b
    → AllBegin signs (if b then (let i : ItemSpan = record { first = first; last = number + 1 } in i) ∷ items_from (number + 1) [] (number + 1) tokens
    else items_from first (s ∷ before) (number + 1) tokens)) [
      | true ↦ λ e.
          let own : Begins signs (number + 1) = λ j same. (let is : number ≡ j = omega (arith, same) in subst (λ (n : ℕ). is_other (signs n) ≡ false) is
          (subst (λ (x : Sign). is_other x ≡ false) (sym here) (ender s before e))) in
          (h, from_begins signs (number + 1) [] (number + 1) tokens own later)
      | false ↦ λ e. from_begins signs first (s ∷ before) (number + 1) tokens h later
    ] refl

pub all_begin : (tokens : List Sign) → AllBegin (λ j. get_or tokens j Other) (items_of tokens)
all_begin tokens =
    from_begins (λ j. get_or tokens j Other) 0 [] 0 tokens (λ j e. absurd (omega (arith, e)))
    (λ m. let same : 0 + m ≡ m = omega arith in ap (λ (n : ℕ). get_or tokens n Other) same)

-- ---- what stands before an item

module _ (stray behind : ℕ → Bool) (sign : ℕ → Sign) (tell : (m : ℕ) → stray m ≡ true → sign m ≡ Other) where
  -- whether the token before that of a place is a Stray
  abbrev before_at : Bool → List ℕ → ℕ → Bool
  before_at prev ms zero = prev
  before_at prev [] (suc j) = false
  before_at prev (m ∷ ms) (suc j) = before_at (stray m) ms j

  no_stray : (m : ℕ) (b : Bool) → stray m ≡ b → is_other (sign m) ≡ false → b ≡ false
  no_stray m true e h = let other : is_other (sign m) ≡ true = ap is_other (tell m e) in absurd cc
  no_stray m false e h = refl

  begins_clear : (prev : Bool) (ms : List ℕ) (first : ℕ) → (first ≡ 0 → prev ≡ false) → Begins (λ j. get_or (map sign ms) j Other) first
      → before_at prev ms first ≡ false
  begins_clear prev ms zero own h = own refl
  begins_clear prev [] (suc j) own h = refl
  begins_clear prev (m ∷ ms) (suc zero) own h = no_stray m (stray m) refl (h 0 refl)
  begins_clear prev (m ∷ ms) (suc (suc j)) own h =
      begins_clear (stray m) ms (suc j) (λ e. absurd (omega (arith, e))) (λ k e. h (suc k) (let next : suc (suc j) ≡ suc (suc k) = ap suc e in next))

  follow_drop : (prev : Bool) (ms : List ℕ) (n : ℕ) → Follow stray behind prev ms → Follow stray behind (before_at prev ms n) (drop n ms)
  follow_drop prev ms zero f = f
  follow_drop prev [] (suc n) f = tt
  follow_drop prev (m ∷ ms) (suc n) f = follow_drop (stray m) ms n f.1

  follow_take : (prev : Bool) (ms : List ℕ) (n : ℕ) → Follow stray behind prev ms → Follow stray behind prev (take n ms)
  follow_take prev ms zero f = tt
  follow_take prev [] (suc n) f = tt
  follow_take prev (m ∷ ms) (suc n) f = (f.0, follow_take (stray m) ms n f.1)

  -- what a span has follows no Stray
  pub span_follows : (ms : List ℕ) (span : ItemSpan) → Follow stray behind false ms → Begins (λ j. get_or (map sign ms) j Other) span.first
      → Follow stray behind false (take (span.last - span.first) (drop span.first ms))
  span_follows ms span f h =
      let clear : before_at false ms span.first ≡ false = begins_clear false ms span.first (λ e. refl) h in
      follow_take false (drop span.first ms) (span.last - span.first) (subst (λ (b : Bool). Follow stray behind b (drop span.first ms)) clear
      (follow_drop false ms span.first f))
