use Rattle.std.proofs.Common.{ap, ◌∙◌}
use Rattle.std.specs.List.{list_any}
use Rattle.edit_unparse.specs.Tidy.Fallen.{is_here}
use Rattle.edit_unparse.proofs.SortedPlaces.{here_numbered}
use Rattle.edit_unparse.proofs.tidy.fallen.has_here.Goals as goal

pub returns : goal.returns
returns c = c.is_among.ensures
    ∙ ap (list_any (is_here c.args.insert c.args.offset)) c.numbered-own.ensures
    ∙ here_numbered c.args.insert c.args.offset _ c.args.places.now c.place_number.ensures
