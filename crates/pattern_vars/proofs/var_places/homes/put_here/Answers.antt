use Rattle.std.proofs.Common.{◌<◌, true, refl, arith, length, Some}
use Rattle.smpl_terms.specs.declared.var.Var.{Var}
use Rattle.pattern_vars.specs.Keys.{value_of}
use Rattle.pattern_vars.specs.declared.var_places.homes.Home.{Home}
use Rattle.pattern_vars.proofs.VarPlaces.KeyLemmas.{each-step, each-end}
use Rattle.pattern_vars.proofs.var_places.homes.put_here.Goals as goal

pub loop-i-init : goal.loop-i-init
loop-i-init c y = refl

pub loop-i-preserved : goal.loop-i-preserved
loop-i-preserved c y =
    let vars = c.args.vars.now in
    let home : Var → Home = λ v. record { place = c.args.place; here = true; again = true } in
    let l : c.loop-i.i < length vars = omega arith in
    each-step home vars c.loop-i.i c.at.result.now y (value_of c.loop-i.homes.entries y)
    (value_of c.put_home.new.homes.entries y) (value_of c.args.homes.now.entries y)
    l c.at.ensures (c.loop-i.invariant y) (c.in_ok-put_home.ensures y)

pub returns : goal.returns
returns c y =
    let home : Var → Home = λ v. record { place = c.args.place; here = true; again = true } in
    each-end c.args.vars.now c.loop-i.i y (Some (home y)) (value_of c.args.homes.now.entries y)
    (value_of c.loop-i.homes.entries y) (omega arith) (c.loop-i.invariant y)
