use Rattle.std.proofs.Common.{◌∙◌}
use Rattle.edit_unparse.proofs.tidy.fallen.places_that_go.Goals as goal

pub returns-clause-places : goal.returns-clause-places
returns-clause-places c = λ edit insert offset less.
    c.in_ok-sort_places.ensures.same edit insert offset ∙ c.in_ok-places.ensures edit insert offset less
