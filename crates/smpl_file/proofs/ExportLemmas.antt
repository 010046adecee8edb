-- What rules take from one another, rule by rule.
use Rattle.std.proofs.Common.{◌≡◌, ℕ, suc, zero, ◌+◌, List, [], ◌∷◌, ◌++◌, refl, sym, ap, ◌∙◌, drop, append_assoc, add-one}
use Rattle.smpl_terms.specs.declared.var.Var.{Var as Variable}
use Rattle.smpl_meta.specs.declared.head.RuleHead.{RuleHead}
use Rattle.smpl_file.specs.Exports.{taken, taken_at}

taken_suc : (heads : List RuleHead) (i : ℕ) → taken (drop i heads) ≡ taken_at heads i ++ taken (drop (suc i) heads)
taken_suc [] zero = refl
taken_suc [] (suc i) = refl
taken_suc (h ∷ heads) zero = refl
taken_suc (h ∷ heads) (suc i) = taken_suc heads i

pub taken_more : (heads : List RuleHead) (i : ℕ) (known more : List Variable) → more ≡ known ++ taken_at heads i → known ++ taken (drop i heads) ≡ taken heads
    → more ++ taken (drop (i + 1) heads) ≡ taken heads
taken_more heads i known more e inv =
    rw add-one (ap (λ (l : List Variable). l ++ taken (drop (suc i) heads)) e ∙ append_assoc known (taken_at heads i) (taken (drop (suc i) heads))
    ∙ ap (λ (l : List Variable). known ++ l) (sym (taken_suc heads i)) ∙ inv)
