use Rattle.std.proofs.Common.{refl}
use Rattle.edit_unparse.specs.Tidy.Spots.{brace_number, spot, spot_number}
use Rattle.edit_unparse.proofs.EqualKeys.{slice_keys}
use Rattle.edit_unparse.proofs.tidy.sides.braces_at.Goals as goal

pub returns : goal.returns
returns c = slice_keys brace_number c.args.braces.now _ (spot_number (spot c.args.token c.args.after)) _ _ _ c.requires
    refl c.spot_number-number.ensures c.first_from.ensures.apart c.run_from.ensures.value
