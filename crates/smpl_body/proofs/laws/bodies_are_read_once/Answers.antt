use Rattle.smpl_body.proofs.BodyLemmas.{body-once, fault-once, body-apart}
use Rattle.smpl_body.proofs.laws.bodies_are_read_once.Goals as goal

pub returns : goal.returns
returns c =
    let law = c.ranges_have_one_tree.ensures in
    record { body = body-once law; fault = fault-once law; apart = body-apart law }
