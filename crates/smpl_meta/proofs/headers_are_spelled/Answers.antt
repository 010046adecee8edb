use Rattle.smpl_meta.proofs.GoesOn.{header_goes_on}
use Rattle.smpl_meta.proofs.Spelling.{header_is_spelled}
use Rattle.smpl_meta.proofs.Stopping.{stop_is_told, told_is_stop}
use Rattle.smpl_meta.proofs.headers_are_spelled.Goals as goal

pub returns : goal.returns
returns c = record {
  whole = λ earlier ts end. (header_is_spelled end earlier ts, header_goes_on end earlier ts);
  stop = λ earlier ts end at. (stop_is_told earlier ts end at, told_is_stop earlier ts end at);
}
