-- The numbers of shown tokens increase.
use Rattle.std.proofs.Common.{◌≡◌, ℕ, ◌+◌, ◌<◌, ◌≤◌, ◌&&◌, Bool, true, false, not, List, [], ◌∷◌, length, get_or, suc, zero, arith, subst}
use Rattle.std.specs.Prelude.{if◌then◌else◌}
use Rattle.c_lexer.specs.Pieces.{TextPiece}
use Rattle.cpp_lines.specs.declared.directive.Directive.{Directive}
use Rattle.cpp_lines.specs.declared.sign.Sign.{Sign}
use Rattle.cpp_lines.specs.Groups.{is_hidden}
use Rattle.cpp_lines.specs.Signs.{sign_of}
use Rattle.cpp_lines.specs.Shown.{is_masked, is_word, shown_from, AreShown}
use Rattle.cpp_lines.specs.Rising.{Rise}

pub rise_within : (from : ℕ) (numbers : List ℕ) (to k d : ℕ) → Rise from numbers to → k < length numbers
    → (from ≤ get_or numbers k d) × (get_or numbers k d < to)
rise_within from [] to k d rise less = absurd (omega arith)
rise_within from (n ∷ numbers) to zero d rise less = (rise.0, rise.1.0)
rise_within from (n ∷ numbers) to (suc k) d rise less = let rest = rise_within (n + 1) numbers to k d rise.1.1 (omega arith) in
    (omega (arith, rest.0, rise.0), rest.1)

pub rise_next : (from : ℕ) (numbers : List ℕ) (to k : ℕ) → Rise from numbers to → suc k < length numbers → get_or numbers k 0 < get_or numbers (suc k) 0
rise_next from [] to k rise less = absurd (omega arith)
rise_next from (n ∷ numbers) to zero rise less = let next = rise_within (n + 1) numbers to 0 0 rise.1.1 (omega arith) in omega (arith, next.0)
rise_next from (n ∷ numbers) to (suc k) rise less = rise_next (n + 1) numbers to k rise.1.1 (omega arith)

pub rise_length : (from : ℕ) (numbers : List ℕ) (to : ℕ) → Rise from numbers to → from ≤ to → from + length numbers ≤ to
rise_length from [] to rise le = omega arith
rise_length from (n ∷ numbers) to rise le = omega (arith, rise.0, rise.1.0, rise_length (n + 1) numbers to rise.1.1 (omega (arith, rise.1.0)))

weaker : (from next : ℕ) (numbers : List ℕ) (to : ℕ) → from ≤ next → Rise next numbers to → Rise from numbers to
weaker from next [] to le rise = tt
weaker from next (n ∷ numbers) to le rise = (omega (arith, rise.0), rise.1)

shown_from_rise : (lines : List Directive) (tokens : List Sign) (number : ℕ) (pieces : List TextPiece) (ds : List Directive)
    → Rise number (shown_from lines tokens number pieces ds) (number + length pieces)
shown_from_rise lines tokens number [] ds = tt
shown_from_rise lines tokens number (p ∷ pieces) [] = tt
shown_from_rise lines tokens number (p ∷ pieces) (d ∷ ds) =
    let to = number + length (p ∷ pieces) in
    let same : number + 1 + length pieces ≡ to = omega arith in
    let all : (more : List Sign) → Rise (number + 1) (shown_from (d ∷ lines) more (number + 1) pieces ds) to =
    λ more. subst (λ (n : ℕ). Rise (number + 1) (shown_from (d ∷ lines) more (number + 1) pieces ds) n) same
    (shown_from_rise (d ∷ lines) more (number + 1) pieces ds) in
    let sign = sign_of p.text in
    let less : number < to = omega arith in
    elim (is_word p.kind && not (is_hidden 0 0 lines)) as (λ (b : Bool). Rise number
    (if b then (if is_masked sign tokens then shown_from (d ∷ lines) (sign ∷ tokens) (number + 1) pieces ds else number
    ∷ shown_from (d ∷ lines) (sign ∷ tokens) (number + 1) pieces ds) else shown_from (d ∷ lines) tokens (number + 1) pieces ds) to) [
      | true ↦ elim (is_masked sign tokens) as (λ (b : Bool). Rise number
          (if b then shown_from (d ∷ lines) (sign ∷ tokens) (number + 1) pieces ds else number
          ∷ shown_from (d ∷ lines) (sign ∷ tokens) (number + 1) pieces ds) to) [
            | true ↦ weaker number (number + 1) _ to (omega arith) (all (sign ∷ tokens))
            | false ↦ (omega arith, (less, all (sign ∷ tokens)))
          ]
      | false ↦ weaker number (number + 1) _ to (omega arith) (all tokens)
    ]

pub shown_rise : (pieces : List TextPiece) (shown : List ℕ) → AreShown pieces shown → Rise 0 shown (length pieces)
shown_rise pieces shown are =
    let same : 0 + length pieces ≡ length pieces = omega arith in
    rw are.1.1 (subst (λ (n : ℕ). Rise 0 (shown_from [] [] 0 pieces are.0) n) same (shown_from_rise [] [] 0 pieces are.0))
