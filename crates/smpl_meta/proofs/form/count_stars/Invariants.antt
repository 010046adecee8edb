use Rattle.std.proofs.Common.{◌≡◌, ◌+◌, drop}
use Rattle.smpl_meta.specs.Forms.{count_stars}
use Rattle.smpl_meta.proofs.form.count_stars.Given as goal

abbrev pub invariant-loop-i : goal.invariant-loop-i
invariant-loop-i l = l.i + count_stars (drop l.i l.tokens) ≡ count_stars l.tokens
