use Rattle.smpl_body.proofs.BodyLemmas.{body-flat}
use Rattle.smpl_body.proofs.laws.code_has_no_code.Goals as goal

pub returns : goal.returns
returns c = body-flat
