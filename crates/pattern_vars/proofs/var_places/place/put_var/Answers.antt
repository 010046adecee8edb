use Rattle.std.proofs.Common.{◌∙◌, ap, sym, Option}
use Rattle.pattern_vars.specs.declared.var_places.homes.Home.{Home}
use Rattle.pattern_vars.specs.VarPlaces.Homes.{put_in}
use Rattle.pattern_vars.proofs.VarPlaces.ShareLemmas.{put-nothing}
use Rattle.pattern_vars.proofs.var_places.place.put_var.Goals as goal

pub returns-in-None : goal.returns-in-None
returns-in-None c =
    put-nothing 0 c.args.x.now c.args.shares.now.items ∙ ap (λ (h : Option Home). put_in 0 h c.args.x.now c.args.shares.now.items) (sym c.in-None.is)
