use Rattle.std.proofs.Common.{◌≡◌, ◌≤◌, ◌+◌, ◌-◌, ◌/◌, None, false, is_some, subst, arith}
use Rattle.iso_file.specs.Stepped.{IsLostFrom}
use Rattle.iso_file.proofs.Chain.{falls, least_found, none_of}
use Rattle.iso_file.proofs.lost.least_lost.Goals as goal

pub loop-low-preserved : goal.loop-low-preserved
loop-low-preserved c =
    let vars = c.args.vars.now in
    let sides = c.args.sides.now in
    let arrows = c.args.both.now in
    let middle = c.loop-low.low + (c.loop-low.high - c.loop-low.low) / 2 in
    let v = c.loop-low.invariant in
    let w = c.loop-low-test.true in
    let absent : is_some c.in_ok-lost.lost ≡ false = cc (c.is_some.ensures, c.if-is_some.false) in
    let none : IsLostFrom vars sides arrows middle None =
    subst (λ o. IsLostFrom vars sides arrows middle o) (none_of c.in_ok-lost.lost absent) c.in_ok-lost.ensures in
    let last : middle ≤ c.args.last = omega (arith, v.within) in
    record {
      order = omega (arith, v.order, w);
      within = v.within;
      below = λ n less. falls vars sides arrows c.args.last c.requires.unbroken n middle (omega (arith, less)) last none;
      here = v.here;
      some = v.some;
    }

pub returns : goal.returns
returns c =
    let vars = c.args.vars.now in
    let sides = c.args.sides.now in
    let arrows = c.args.both.now in
    let v = c.loop-low.invariant in
    let w = c.loop-low-test.false in
    least_found vars sides arrows c.loop-low.high c.loop-low.found (λ n less. v.below n (omega (arith, less, v.order, w))) v.here v.some
