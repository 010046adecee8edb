-- How many steps a path has, counted from the node upwards: those that were found, and those of the path above.
use Rattle.std.proofs.Common.{◌≡◌, ℕ, ◌+◌, Bool, true, false, sym, ap, ◌∙◌, arith, List, [], ◌∷◌, ◌++◌, length, length-append, nat_eq, if◌then◌else◌}
use Rattle.std.proofs.lemmas.Bool.Decides.{nat_tests}

two-are-more : (n m : ℕ) → 1 + (m + 1) ≡ n → false ≡ nat_eq n 1
two-are-more n m h =
    let q : nat_eq n 1 ≡ false = grind (arith, nat_tests) in sym q

pub no-more : (found : Bool) (path : List ℕ) (n : ℕ) → path ≡ [] → (if found then 1 else 0) + length path ≡ n → found ≡ nat_eq n 1
no-more true path n e h =
    let c = ap (λ p. length p) e in
    let m : 1 ≡ n = omega (arith, c, h) in ap (λ m. nat_eq m 1) m
no-more false path n e h =
    let c = ap (λ p. length p) e in
    let m : 0 ≡ n = omega (arith, c, h) in ap (λ m. nat_eq m 1) m

pub more-than-one : (found : Bool) (path above : List ℕ) (i n : ℕ) → found ≡ true → path ≡ above ++ i ∷ []
    → (if found then 1 else 0) + length path ≡ n → false ≡ nat_eq n 1
more-than-one true path above i n f e h =
    two-are-more n (length above) (sym (ap (λ m. 1 + m) (ap length e ∙ length-append above (i ∷ []))) ∙ h)
more-than-one false path above i n f e h = absurd (cc)

pub one-step : (found : Bool) (path above : List ℕ) (i n : ℕ) → found ≡ false → path ≡ above ++ i ∷ []
    → (if found then 1 else 0) + length path ≡ n → 1 + length above ≡ n
one-step true path above i n f e h = absurd (cc)
one-step false path above i n f e h =
    let c = ap length e ∙ length-append above (i ∷ []) in omega (arith, c, h)

pub same-steps : (found : Bool) (path above : List ℕ) (n : ℕ) → path ≡ above
    → (if found then 1 else 0) + length path ≡ n → (if found then 1 else 0) + length above ≡ n
same-steps found path above n e h = sym (ap (λ p. (if found then 1 else 0) + length p) e) ∙ h
