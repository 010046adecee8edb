-- How many parts of an element have a variable.
use Rattle.std.proofs.Common.{◌≡◌, ℕ, zero, suc, ◌+◌, ◌<◌, Bool, true, false, not, ◌&&◌, ◌||◌, nat_lt, nat_le, refl, sym, ap, ◌∙◌, arith}
use Rattle.std.proofs.Common.{List, ◌∷◌, length, get_or, drop}
use Rattle.std.proofs.lemmas.List.{drop_more}
use Rattle.std.proofs.lemmas.Bool.Decides.{nat_tests}
use Rattle.smpl_terms.specs.declared.var.Var.{Var}
use Rattle.smpl_patch.specs.declared.elem.Elem.{Elem}
use Rattle.smpl_patch.specs.Bodies.{body}
use Rattle.smpl_patch.proofs.BodyLemmas.{bodies}
use Rattle.pattern_vars.specs.Reads.{has}
use Rattle.pattern_vars.proofs.SetLemmas.{drop-end}
use Rattle.pattern_vars.specs.VarPlaces.Placing.{Reading, one, bodies_with, occurs_body}
use Rattle.pattern_vars.specs.declared.var_places.counted.Counted.{Counted}
use Rattle.pattern_vars.specs.VarPlaces.Homes.{IsCount}

some-more : (n : ℕ) (b : Bool) → (nat_lt 0 n || b) ≡ nat_lt 0 (n + one b)
some-more zero true = refl
some-more zero false = refl
some-more (suc n) true = grind (arith, nat_tests)
some-more (suc n) false = grind (arith, nat_tests)

several-more : (n : ℕ) (b : Bool) → (nat_lt 1 n || (b && nat_lt 0 n)) ≡ nat_lt 1 (n + one b)
several-more zero true = refl
several-more zero false = refl
several-more (suc zero) true = refl
several-more (suc zero) false = refl
several-more (suc (suc n)) true = grind (arith, nat_tests)
several-more (suc (suc n)) false = grind (arith, nat_tests)

-- one more part
pub count-more : (old new : Counted) (part : List Var) (y : Var) (n : ℕ) → IsCount old y n
    → has new.some y ≡ (has old.some y || has part y) → has new.several y ≡ (has old.several y || (has part y && has old.some y))
    → IsCount new y (n + one (has part y))
count-more old new part y n h s t = record {
  some = s ∙ ap (λ (z : Bool). z || has part y) h.some ∙ some-more n (has part y);
  several = t ∙ ap (λ (z : Bool). z || (has part y && has old.some y)) h.several ∙ ap (λ (z : Bool). nat_lt 1 n || (has part y && z)) h.some
      ∙ several-more n (has part y);
}

pub counted-as : (c : Counted) (y : Var) (n m : ℕ) → n ≡ m → IsCount c y n → IsCount c y m
counted-as c y n m e h = record { some = h.some ∙ ap (nat_lt 0) e; several = h.several ∙ ap (nat_lt 1) e }

-- how the number of parts grows as bodies are counted
pub record IsCounted (c : Counted) (y : Var) (left whole : ℕ) : Type 0 where
  pub so_far : ℕ
  pub is : IsCount c y so_far
  pub sum : so_far + left ≡ whole

pub counted-none : (c : Counted) (y : Var) (n left : ℕ) → IsCount c y n → IsCounted c y left (n + left)
counted-none c y n left h = record { so_far = n; is = h; sum = refl }

pub counted-one : (r : Reading) (old new : Counted) (bs : List (List Elem)) (i : ℕ) (b s : List Elem) (part : List Var) (y : Var) (whole : ℕ)
    → i < length bs → b ≡ get_or bs i b → s ≡ b → has part y ≡ occurs_body r (body s) y
    → ((n : ℕ) → IsCount old y n → IsCount new y (n + one (has part y)))
    → IsCounted old y (bodies_with r (bodies (drop i bs)) y) whole
    → IsCounted new y (bodies_with r (bodies (drop (i + 1) bs)) y) whole
counted-one r old new bs i b s part y whole l q e p step h =
    let rest = bodies_with r (bodies (drop (i + 1) bs)) y in
    let next : bodies_with r (bodies (drop i bs)) y ≡ one (has part y) + rest =
    ap (λ (z : List (List Elem)). bodies_with r (bodies z) y) (drop_more bs i b l ∙ ap (λ (z : List Elem). z ∷ drop (i + 1) bs) (sym q))
    ∙ ap (λ (z : Bool). one z + rest) (ap (λ (z : List Elem). occurs_body r (body z) y) (sym e) ∙ sym p) in
    record {
      so_far = h.so_far + one (has part y);
      is = step h.so_far h.is;
      sum = omega (arith, next, h.sum);
    }

pub counted-all : (r : Reading) (c : Counted) (bs : List (List Elem)) (i : ℕ) (y : Var) (whole : ℕ) → i ≡ length bs
    → IsCounted c y (bodies_with r (bodies (drop i bs)) y) whole → IsCount c y whole
counted-all r c bs i y whole l h =
    let none : bodies_with r (bodies (drop i bs)) y ≡ 0 =
    ap (λ (z : List (List Elem)). bodies_with r (bodies z) y) (ap (λ (k : ℕ). drop k bs) l ∙ drop-end bs) in
    counted-as c y h.so_far whole (omega (arith, none, h.sum)) h.is

pub several-is : (n : ℕ) → nat_lt 1 n ≡ not (nat_le n 1)
several-is n = grind (arith, nat_tests)
