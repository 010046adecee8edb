use Rattle.std.proofs.Common.{◌∙◌, ◌+◌, ℕ, ap, nat_lt, zero-add}
use Rattle.smpl_patch.specs.Bodies.{body}
use Rattle.pattern_vars.specs.VarPlaces.Placing.{one, occurs_body}
use Rattle.pattern_vars.specs.VarPlaces.Places.{reading_at}
use Rattle.pattern_vars.proofs.VarPlaces.CountLemmas.{several-is}
use Rattle.pattern_vars.proofs.var_places.counted.spread_block.Goals as goal

pub returns : goal.returns
returns c y =
    let r = reading_at c.args.reader.now in
    let a : ℕ = one (r.used c.args.o.now y) in
    let k : ℕ = one (occurs_body r (body c.args.b.now) y) in
    let b : ℕ = one (r.used c.args.c.now y) in
    let h = c.in_ok-count_atom-2.ensures y ((0 + a) + k)
    (c.in_ok-count_body.ensures y (0 + a) (c.in_ok-count_atom.ensures y 0 (c.count_nothing-counted.ensures y))) in
    h.several ∙ ap (λ (z : ℕ). nat_lt 1 ((z + k) + b)) (zero-add a) ∙ several-is _
