use Rattle.std.proofs.Common.{◌∙◌, ap, sym, ℕ}
use Rattle.std.specs.Prelude.{Option, option_and_then, slice_get}
use Rattle.c_places.specs.declared.places.TextPlaces.{TextPlaces}
use Rattle.run_files.specs.RunLines.Further.{placed}
use Rattle.run_files.specs.RunLines.Files.{fault_start}
use Rattle.run_files.specs.Treatment.{told_places}
use Rattle.run_files.proofs.effects.fault_place.Goals as goal

pub returns-in_ok-found-in-Some : goal.returns-in_ok-found-in-Some
returns-in_ok-found-in-Some c = λ found are.
    c.placed.ensures.place
    ∙ ap (placed c.args.text.now) (c.fault_start-start.ensures
    ∙ ap (λ (f : TextPlaces). fault_start f c.args.fault.now) (c.in_ok-found-in-Some.ensures found are))

pub returns-in-None : goal.returns-in-None
returns-in-None c = λ found are.
    ap (λ (token : Option ℕ). placed c.args.text.now (option_and_then (slice_get (told_places c.args.quiet found).tokens) token))
    (sym c.in-None.is ∙ c.fault_token.ensures)
