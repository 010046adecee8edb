use Rattle.std.proofs.Common.{◌++◌, take}
use Rattle.smpl_patch.specs.Bodies.{body, element}
use Rattle.smpl_patch.proofs.BodyLemmas.{bodies}
use Rattle.ctl_table.specs.Table as table
use Rattle.ctl_table.specs.Settings.{setting_at}
use Rattle.ctl_table.specs.EndAtoms.{MakesEachEndAtoms}
use Rattle.smpl_patch.proofs.Weights.{weight_element, weight_body, weight_bodies}
use Rattle.ctl_table.proofs.ends_of.+ends_of.Given as goal

abbrev pub decreases-ends_of : goal.decreases-ends_of
decreases-ends_of l = weight_element (element l.e.now)

abbrev pub decreases-ends_of_body : goal.decreases-ends_of_body
decreases-ends_of_body l = weight_body (body l.b.now)

abbrev pub decreases-ends_of_any : goal.decreases-ends_of_any
decreases-ends_of_any l = weight_bodies (bodies l.bs.now)

abbrev pub decreases-ends_of_all : goal.decreases-ends_of_all
decreases-ends_of_all l = weight_bodies (bodies l.bs.now)

abbrev pub invariant-ends_of_any-loop-b : goal.invariant-ends_of_any-loop-b
invariant-ends_of_any-loop-b l =
    MakesEachEndAtoms l.initial.parts l.parts l.found.items
    (λ more. table.ends_of_each (setting_at l.m) l.last (bodies (take l.b-index l.bs)) (l.scope ++ more))
