use Rattle.std.proofs.Common.{◌∙◌, Bool, true, cond, Some, ap}
use Rattle.pattern_vars.specs.Keys.{value_of}
use Rattle.pattern_vars.specs.declared.var_places.homes.Home.{Home}
use Rattle.pattern_vars.proofs.var_places.homes.put_dotted.Goals as goal

pub returns : goal.returns
returns c y =
    let home : Home = record { place = c.args.place; here = true; again = true } in
    c.in_ok-put_here.ensures y ∙ ap (λ (z : Bool). cond z (Some home) (value_of c.args.homes.now.entries y)) (c.in_ok-dotted.ensures y)
