use Rattle.std.proofs.Common.{◌≡◌, ◌∙◌, ap, subst, List}
use Rattle.std.specs.Result.{IfOk}
use Rattle.smpl_patch.specs.Bodies.{body}
use Rattle.pattern_vars.specs.declared.var_places.place.Place.{Place}
use Rattle.pattern_vars.specs.declared.var_places.place.Shares.{Shares}
use Rattle.pattern_vars.specs.VarPlaces.Places.{reading_at, places}
use Rattle.pattern_vars.specs.VarPlaces.Homes.{scoped}
use Rattle.pattern_vars.proofs.VarPlaces.HomeLemmas.{places-are}
use Rattle.pattern_vars.proofs.var_places.place.places_of.Goals as goal

pub returns : goal.returns
returns c =
    let r = reading_at c.args.reader.now in
    let b = body c.args.b.now in
    let are : scoped c.as_slice.result.now c.args.scope.now ≡ places r b c.args.vars.now c.args.scope.now =
    ap (λ (z : List Shares). scoped z c.args.scope.now) (c.as_slice.ensures.value ∙ c.in_ok-shares.ensures)
    ∙ places-are r 0 b c.args.vars.now c.args.scope.now in
    subst (λ (z : List Place). IfOk c.scoped.result (λ found. found.items ≡ z)) are c.scoped.ensures
