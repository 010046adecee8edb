use Rattle.std.proofs.Common.{◌≡◌, ◌≤◌, ◌+◌, ap, arith}
use Rattle.text_places.specs.declared.place.Place.{Place}
use Rattle.text_places.specs.Places.{place_of}
use Rattle.text_places.proofs.PlaceLemmas.{column-le}
use Rattle.text_places.proofs.places.place_from.Goals as goal

pub place_after-place-requires-clause-column : goal.place_after-place-requires-clause-column
place_after-place-requires-clause-column c =
    let most : (place_of c.args.text.now c.loop-i.i).column ≤ c.loop-i.i + 1 = column-le c.args.text.now c.loop-i.i (omega arith) in
    let is : c.loop-i.place.column ≡ (place_of c.args.text.now c.loop-i.i).column = ap (λ (p : Place). p.column) c.loop-i.invariant in
    omega (arith, most, is)
