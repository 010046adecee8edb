use Rattle.std.proofs.Common.{◌≡◌, ◌∙◌, subst, List}
use Rattle.std.specs.Result.{IfOk}
use Rattle.smpl_terms.specs.declared.var.Var.{Var}
use Rattle.pattern_vars.specs.VarPlaces.Homes.{scoped}
use Rattle.pattern_vars.proofs.var_places.place.scoped.Goals as goal

pub along-requires-clause-vars : goal.along-requires-clause-vars
along-requires-clause-vars c = c.in_ok-inside.ensures.vars ∙ c.in_ok-vars.ensures

pub returns : goal.returns
returns c = subst (λ (z : List Var). IfOk c.along.result (λ found. found.items ≡ scoped c.args.shares.now z)) c.in_ok-inside.ensures.outer c.along.ensures
