use Rattle.std.proofs.Common.{◌∙◌, arith}
use Rattle.ctl_table.proofs.RowLemmas.{taken}
use Rattle.ctl_table.proofs.dots.copied_numbers.Goals as goal

pub returns : goal.returns
returns c = c.loop-n.invariant ∙ taken c.loop-n.n-index c.args.numbers.now (omega arith)
