use Rattle.std.proofs.Common.{◌≡◌, ◌++◌, map}
use Rattle.smpl_patch.specs.declared.witness.Witness.TheVariants.{Touch}
use Rattle.wit_forest.proofs.wit_steps.touches.put_places.Given as goal

abbrev pub invariant-loop-place : goal.invariant-loop-place
invariant-loop-place l = l.found.items ≡ l.initial.found.items ++ map (λ a. Touch l.s l.atom a.path) l.yielded
