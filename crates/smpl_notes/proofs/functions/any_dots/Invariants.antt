use Rattle.std.proofs.Common.{◌≡◌, drop}
use Rattle.smpl_patch.specs.Bodies.{body}
use Rattle.smpl_notes.specs.Functions.{any_dots}
use Rattle.smpl_notes.proofs.functions.any_dots.Given as goal

abbrev pub invariant-loop-elem : goal.invariant-loop-elem
invariant-loop-elem l = any_dots (body (drop l.elem-index l.elems)) ≡ any_dots (body l.elems)
