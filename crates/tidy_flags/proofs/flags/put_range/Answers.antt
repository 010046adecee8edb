use Rattle.std.proofs.Common.{◌≡◌, ◌<◌, ◌≤◌, ◌+◌, ◌&&◌, ◌⊎◌, inl, inr, ℕ, Bool, true, false, refl, get_or, ap, ◌∙◌, arith}
use Rattle.std.specs.Prelude.{nat_le, nat_lt, if◌then◌else◌}
use Rattle.std.proofs.lemmas.Bool.Decides.{nat_tests}
use Rattle.tidy_flags.proofs.flags.put_range.Goals as goal

some : (first last n : ℕ) → (nat_le first n && nat_lt n (last + 1)) ≡ (nat_le first n && nat_le n last)
some first last n = grind (arith, nat_tests)

none : (first last n : ℕ) → last + 1 ≤ first → (nat_le first n && nat_lt n first) ≡ (nat_le first n && nat_le n last)
none first last n past = grind (arith, nat_tests)

either : (first last : ℕ) → (first ≤ last + 1) ⊎ (last + 1 ≤ first)
either first last = grind (arith, nat_tests)

range_end : (first last token n : ℕ) → last + 1 ≤ token → (first ≤ last + 1 → token ≤ last + 1) → (last + 1 ≤ first → token ≡ first)
    → (nat_le first n && nat_lt n token) ≡ (nat_le first n && nat_le n last)
range_end first last token n beyond up past = elim (either first last) [
  | inl in_order ↦
      let most : token ≤ last + 1 = up in_order in
      let end : token ≡ last + 1 = omega arith in
      ap (λ (k : ℕ). nat_le first n && nat_lt n k) end ∙ some first last n
  | inr turned ↦ ap (λ (k : ℕ). nat_le first n && nat_lt n k) (past turned) ∙ none first last n turned
]

pub returns-clause-flags : goal.returns-clause-flags
returns-clause-flags c = λ n less.
    c.loop-token.invariant.flags n less
    ∙ ap (λ (b : Bool). if b then true else get_or c.args.flags.now.items n false)
    (range_end c.args.first c.args.last c.loop-token.token n c.loop-token-test.false c.loop-token.auto.token-end c.loop-token.invariant.end)
