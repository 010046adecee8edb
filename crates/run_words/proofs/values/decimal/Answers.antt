use Rattle.std.proofs.Common.{◌≡◌, ◌∙◌, ◌-◌, sym, get_or, refl, arith}
use Rattle.std.proofs.lemmas.Bool.Decides.{nat_tests}
use Rattle.run_words.proofs.Numbers.{ends_at, goes_on, passes_at, stops_at}
use Rattle.run_words.proofs.values.decimal.Goals as goal

pub loop-b-init : goal.loop-b-init
loop-b-init c = record { same = refl; small = omega arith }

pub returns-then-not-is_ascii_digit : goal.returns-then-not-is_ascii_digit
returns-then-not-is_ascii_digit c =
    stops_at c.args.digits.now c.loop-b.b-index c.loop-b.n c.loop-b-test.true c.loop-b.invariant.same (sym c.if-not-is_ascii_digit.ensures.value)

pub returns-in_err-checked_mul : goal.returns-in_err-checked_mul
returns-in_err-checked_mul c =
    c.from_residual.ensures ∙ passes_at c.args.digits.now c.loop-b.b-index c.loop-b.n c.loop-b-test.true c.loop-b.invariant.same (omega
    (arith, c.in_err-checked_mul.ensures))

pub returns-in_err-n : goal.returns-in_err-n
returns-in_err-n c =
    let digit : get_or c.args.digits.now c.loop-b.b-index 0 - 48 ≡ c.from.result = grind (arith, nat_tests) in
    c.from_residual-in_err-n.ensures ∙ passes_at c.args.digits.now c.loop-b.b-index c.loop-b.n c.loop-b-test.true c.loop-b.invariant.same
    (omega (arith, c.in_err-n.ensures, c.in_ok-checked_mul.ensures.1))

pub loop-b-preserved : goal.loop-b-preserved
loop-b-preserved c =
    let digit : get_or c.args.digits.now c.loop-b.b-index 0 - 48 ≡ c.from.result = grind (arith, nat_tests) in record {
      same = goes_on c.args.digits.now c.loop-b.b-index c.loop-b.n c.loop-b-test.true c.loop-b.invariant.same (sym c.if-not-is_ascii_digit.ensures.value) _
          (omega (arith, c.in_ok-n.ensures.1, c.in_ok-checked_mul.ensures.1));
      small = omega (arith, c.in_ok-n.ensures.0, c.in_ok-n.ensures.1);
    }

pub returns : goal.returns
returns c = ends_at c.args.digits.now c.loop-b.b-index c.loop-b.n c.loop-b-test.false c.loop-b.invariant.small c.loop-b.invariant.same
