use Rattle.std.proofs.Common.{◌≡◌, ◌≤◌, ◌*◌, ℕ, length, ap, sym, ◌∙◌, arith}
use Rattle.std.proofs.Math.Nat.{min-le_left, min-eq_left}
use Rattle.iso_expand.specs.IsoForms.Stepped.{grown}
use Rattle.iso_expand.proofs.IsoForms.ChoiceLemmas.{grown-length}
use Rattle.iso_expand.proofs.iso_forms.choices.grow.Goals as goal

pub returns-then-saturating_mul-limit-clause-refused : goal.returns-then-saturating_mul-limit-clause-refused
returns-then-saturating_mul-limit-clause-refused c =
    let n = c.len.result in
    let m = c.len-2.result in
    let first : length c.args.choices.items ≡ n = sym (c.len.ensures ∙ c.args.choices.ok.0) in
    let second : length c.args.trees ≡ m = sym c.len-2.ensures in
    let all : length (grown c.args.choices.items c.args.trees) ≡ n * m =
    grown-length c.args.choices.items c.args.trees ∙ ap (λ (k : ℕ). k * length c.args.trees) first ∙ ap (λ (k : ℕ). n * k) second in
    omega (arith, c.if-saturating_mul-limit.true, c.saturating_mul.ensures, min-le_left (n * m) 18446744073709551615, all)

pub returns-clause-few : goal.returns-clause-few
returns-clause-few c =
    let n = c.len.result in
    let m = c.len-2.result in
    let css = c.in_ok-all_grown.field-0 in
    let first : length c.args.choices.items ≡ n = sym (c.len.ensures ∙ c.args.choices.ok.0) in
    let second : length c.args.trees ≡ m = sym c.len-2.ensures in
    let all : length css.items ≡ n * m =
    ap length c.in_ok-all_grown.ensures ∙ grown-length c.args.choices.items c.args.trees
    ∙ ap (λ (k : ℕ). k * length c.args.trees) first ∙ ap (λ (k : ℕ). n * k) second in
    let fits : n * m ≤ 18446744073709551615 = omega (arith, all, css.ok.0, css.ok.1, css.small) in
    omega (arith, all, c.if-saturating_mul-limit.false, c.saturating_mul.ensures, min-eq_left fits)
