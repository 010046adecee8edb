use Rattle.edit_unparse.specs.Tidy.Spots.{placed_number, spot, spot_number}
use Rattle.edit_unparse.proofs.EqualKeys.{slice_keys}
use Rattle.edit_unparse.proofs.tidy.plan.Plan.at.Goals as goal

pub returns : goal.returns
returns c = slice_keys placed_number c.args.self.now.inserts.items _ (spot_number (spot c.args.token c.args.after)) _ _ _ c.args.self.now.rise
    c.as_slice-inserts.ensures.value c.spot_number-number.ensures c.first_from.ensures.apart c.run_from.ensures.value
