use Rattle.smpl_file.proofs.ExportLemmas.{taken_more}
use Rattle.smpl_file.proofs.exports.taken_vars.Goals as goal

pub loop-i-preserved : goal.loop-i-preserved
loop-i-preserved c = taken_more c.args.heads.now.heads c.loop-i.i c.loop-i.known c.in_ok-known.known c.in_ok-known.ensures c.loop-i.invariant
