use Rattle.read_laws.proofs.IsoOnce.FileLemmas.{list-once, file-fault-once, file-apart}
use Rattle.read_laws.proofs.iso_once.isos_are_read_once.Goals as goal

pub returns : goal.returns
returns c =
    let law = c.ranges_have_one_tree.ensures in
    record { isos = list-once law; fault = file-fault-once law; apart = file-apart law }
