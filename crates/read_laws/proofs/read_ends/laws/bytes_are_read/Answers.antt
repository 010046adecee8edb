use Rattle.read_laws.proofs.ReadEnds.RuleLemmas.{patch_end}
use Rattle.read_laws.proofs.ReadEnds.IsoLemmas.{isos_end}
use Rattle.read_laws.proofs.read_ends.laws.bytes_are_read.Goals as goal

pub returns-clause-patch : goal.returns-clause-patch
returns-clause-patch c = λ bytes accept refuse. patch_end c.every_text_is_cut.ensures.pieces bytes accept refuse

pub returns-clause-isos : goal.returns-clause-isos
returns-clause-isos c = λ bytes accept refuse. isos_end c.every_text_is_cut.ensures.pieces bytes accept refuse
