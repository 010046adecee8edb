use Rattle.std.proofs.Common.{◌≡◌, false, take}
use Rattle.std.specs.List.{list_any}
use Rattle.smpl_terms.specs.Values.{same}
use Rattle.env_sets.proofs.runs.some_has.Given as goal

abbrev pub invariant-loop-run : goal.invariant-loop-run
invariant-loop-run l = list_any (λ ws. list_any (λ w. same w l.v) ws) (take l.run-index l.runs) ≡ false
