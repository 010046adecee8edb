use Rattle.std.proofs.Common.{refl}
use Rattle.edit_unparse.specs.Tidy.Fallen.{origin_number}
use Rattle.edit_unparse.proofs.EqualKeys.{slice_keys}
use Rattle.edit_unparse.proofs.tidy.fallen.numbered.Goals as goal

pub returns : goal.returns
returns c = slice_keys origin_number c.args.places.now c.args.places.now c.args.number c.args.number _ _ c.requires
    refl refl c.first_from.ensures.apart c.run_from.ensures.value
