use Rattle.std.proofs.Common.{◌≡◌, map, take}
use Rattle.edit_bodies.specs.Laid.{brace_of}
use Rattle.edit_bodies.proofs.lay.all_braces.Given as goal

abbrev pub invariant-loop-it : goal.invariant-loop-it
invariant-loop-it l = l.braces.items ≡ map (brace_of l.files) (take l.it-index l.coming)
