use Rattle.std.proofs.Common.{◌≡◌, ◌++◌, drop}
use Rattle.iso_file.specs.Sides.{concatenated}
use Rattle.iso_file.proofs.header.concatenated.Given as goal

abbrev pub invariant-loop-line : goal.invariant-loop-line
invariant-loop-line l = l.out ++ concatenated (drop l.line-index l.lines) ≡ concatenated l.lines
