-- Another item at a place of a list.
use Rattle.std.proofs.Common.{◌≡◌, ℕ, zero, suc, ◌<◌, ◌≤◌, List, [], ◌∷◌, length, refl, ap, arith, set, get_or}
use Rattle.smpl_body.specs.declared.smpl_when.clauses.WhenFlags.{WhenFlags}
use Rattle.smpl_body.specs.SmplWhen.Cutting.{changed}

pub changed-set : (f : WhenFlags → WhenFlags) (n : ℕ) (ts : List WhenFlags) (d : WhenFlags) → n < length ts → changed f n ts ≡ set ts n (f (get_or ts n d))
changed-set f n [] d h = absurd (omega arith)
changed-set f zero (t ∷ ts) d h = refl
changed-set f (suc n) (t ∷ ts) d h = ap (λ (l : List WhenFlags). t ∷ l) (changed-set f n ts d (omega arith))

pub changed_past : (f : WhenFlags → WhenFlags) (n : ℕ) (ts : List WhenFlags) → length ts ≤ n → changed f n ts ≡ ts
changed_past f n [] h = refl
changed_past f zero (t ∷ ts) h = absurd (omega arith)
changed_past f (suc n) (t ∷ ts) h = ap (λ (l : List WhenFlags). t ∷ l) (changed_past f n ts (omega arith))
