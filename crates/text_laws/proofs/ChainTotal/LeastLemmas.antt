-- If some edits clash, it is impossible that there is no first clash.
use Rattle.std.proofs.Common.{◌≡◌, ◌<◌, ◌≤◌, ◌⊎◌, ℕ, zero, suc, inl, inr, refl, sym, ◌∙◌, arith, List}
use Rattle.edit_marks.specs.declared.edit_conflict.edit.Edit.{Edit}
use Rattle.edit_marks.specs.declared.edit_conflict.clash.Clash.{Clash}
use Rattle.edit_marks.specs.EditConflict.Clashes.{IsClash, NotAfter, IsFirstClash}
use Rattle.text_laws.specs.ChainTotal.Weakly.{Weakly}

pub order : (a b : ℕ) → (a < b) ⊎ ((a ≡ b) ⊎ (b < a))
order a b = grind arith

-- ---- the least number

abbrev IsLeast : (ℕ → Type 0) → ℕ → Type 0
IsLeast P n = P n × ((k : ℕ) → k < n → P k → ⊥)

none_below : (P : ℕ → Type 0) → (((n : ℕ) × IsLeast P n) → ⊥) → (n k : ℕ) → k < n → P k → ⊥
none_below P absent zero k lt p = absurd (omega (arith, lt))
none_below P absent (suc n) k lt p = absent (k, (p, λ j less q. none_below P absent n j (omega (arith, less, lt)) q))

least_some : (P : ℕ → Type 0) (n : ℕ) → P n → Weakly ((m : ℕ) × IsLeast P m)
least_some P n p = λ absent. none_below P absent (suc n) n (omega arith) p

-- ---- the first clash

module _ (edits : List Edit) where
  record At (token : ℕ) : Type 0 where
    clash : Clash
    is : IsClash edits clash
    token_is : clash.token ≡ token

  record AtFirst (token first : ℕ) : Type 0 where
    clash : Clash
    is : IsClash edits clash
    token_is : clash.token ≡ token
    first_is : clash.first ≡ first

  record AtBoth (token first second : ℕ) : Type 0 where
    clash : Clash
    is : IsClash edits clash
    token_is : clash.token ≡ token
    first_is : clash.first ≡ first
    second_is : clash.second ≡ second

  module _ (t f s : ℕ) (tokens : (k : ℕ) → k < t → At k → ⊥) (firsts : (k : ℕ) → k < f → AtFirst t k → ⊥)
      (seconds : (k : ℕ) → k < s → AtBoth t f k → ⊥) (own : AtBoth t f s) where
    last_by : (d : Clash) → IsClash edits d → d.token ≡ t → d.first ≡ f → (d.second < s) ⊎ ((d.second ≡ s) ⊎ (s < d.second))
        → own.clash.second ≤ d.second
    last_by d is a b (inl less) = absurd (seconds d.second less (record { clash = d; is = is; token_is = a; first_is = b; second_is = refl }))
    last_by d is a b (inr (inl same)) = omega (arith, own.second_is, same)
    last_by d is a b (inr (inr more)) = omega (arith, own.second_is, more)

    first_by : (d : Clash) → IsClash edits d → d.token ≡ t → (d.first < f) ⊎ ((d.first ≡ f) ⊎ (f < d.first))
        → (own.clash.first < d.first) ⊎ ((own.clash.first ≡ d.first) × (own.clash.second ≤ d.second))
    first_by d is a (inl less) = absurd (firsts d.first less (record { clash = d; is = is; token_is = a; first_is = refl }))
    first_by d is a (inr (inl same)) = inr (own.first_is ∙ sym same, last_by d is a same (order d.second s))
    first_by d is a (inr (inr more)) = inl (omega (arith, own.first_is, more))

    token_by : (d : Clash) → IsClash edits d → (d.token < t) ⊎ ((d.token ≡ t) ⊎ (t < d.token)) → NotAfter own.clash d
    token_by d is (inl less) = absurd (tokens d.token less (record { clash = d; is = is; token_is = refl }))
    token_by d is (inr (inl same)) = inr (own.token_is ∙ sym same, first_by d is same (order d.first f))
    token_by d is (inr (inr more)) = inl (omega (arith, own.token_is, more))

    first_clash : (c : Clash) × IsFirstClash edits c
    first_clash = (own.clash, record { clash = own.is; first = λ d is. token_by d is (order d.token t) })

  pub clash_some : (c : Clash) → IsClash edits c → Weakly ((d : Clash) × IsFirstClash edits d)
  clash_some c is = λ absent.
      least_some At c.token (record { clash = c; is = is; token_is = refl }) (λ a.
      let one = a.1.0 in
      least_some (AtFirst a.0) one.clash.first (record { clash = one.clash; is = one.is; token_is = one.token_is; first_is = refl }) (λ b.
      let two = b.1.0 in
      least_some (AtBoth a.0 b.0) two.clash.second
      (record { clash = two.clash; is = two.is; token_is = two.token_is; first_is = two.first_is; second_is = refl }) (λ e.
      absent (first_clash a.0 b.0 e.0 a.1.1 b.1.1 e.1.1 e.1.0))))
