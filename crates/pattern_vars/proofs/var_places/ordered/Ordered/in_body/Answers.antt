use Rattle.std.proofs.Common.{◌≡◌, subst, List}
use Rattle.std.specs.Result.{IfOk}
use Rattle.smpl_terms.specs.declared.var.Var.{Var}
use Rattle.smpl_patch.specs.Bodies.{body}
use Rattle.pattern_vars.specs.Reads.{has}
use Rattle.pattern_vars.specs.VarPlaces.Placing as placing
use Rattle.pattern_vars.specs.VarPlaces.Places.{reading_at}
use Rattle.pattern_vars.proofs.VarPlaces.KeptLemmas.{filter-same}
use Rattle.pattern_vars.proofs.var_places.ordered.Ordered.in_body.Goals as goal

pub returns : goal.returns
returns c =
    subst (λ (z : List Var). IfOk c.among.result (λ found. found ≡ z))
    (filter-same (has c.in_ok-set.set) (placing.occurs_body (reading_at c.args.reader.now) (body c.args.b.now)) c.args.self.now
    c.in_ok-set.ensures) c.among.ensures
