use Rattle.iso_file.proofs.BlockLemmas.{Led}
use Rattle.iso_file.proofs.blocks.read_blocks.Given as goal

abbrev pub invariant-loop-i : goal.invariant-loop-i
invariant-loop-i l = Led l.lines l.isos l.start l.i l.seen
