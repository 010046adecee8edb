use Rattle.std.proofs.Common.{◌∙◌, ◌+◌, ℕ, ap, nat_lt, zero-add}
use Rattle.smpl_patch.proofs.BodyLemmas.{bodies}
use Rattle.pattern_vars.specs.VarPlaces.Placing.{one, any_option, bodies_with}
use Rattle.pattern_vars.specs.VarPlaces.Places.{reading_at}
use Rattle.pattern_vars.proofs.VarPlaces.CountLemmas.{several-is}
use Rattle.pattern_vars.proofs.var_places.counted.spread_compound.Goals as goal

pub returns : goal.returns
returns c y =
    let r = reading_at c.args.reader.now in
    let a : ℕ = one (r.used c.args.h.now y) in
    let k : ℕ = bodies_with r (bodies c.args.bs.now) y in
    let b : ℕ = one (any_option (λ p. r.used p y) c.args.tail.now) in
    let h = c.in_ok-count_option.ensures y ((0 + a) + k)
    (c.in_ok-count_bodies.ensures y (0 + a) (c.in_ok-count_atom.ensures y 0 (c.count_nothing-counted.ensures y))) in
    h.several ∙ ap (λ (z : ℕ). nat_lt 1 ((z + k) + b)) (zero-add a) ∙ several-is _
