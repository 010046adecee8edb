use Rattle.std.proofs.Common.{◌≡◌, ◌≤◌, length, take}
use Rattle.edit_bodies.specs.Rows.{counted}
use Rattle.edit_bodies.specs.Scenes.{statements_of}
use Rattle.edit_bodies.proofs.scene.Scene.counted.Given as goal

abbrev pub invariant-loop-count : goal.invariant-loop-count
invariant-loop-count l = record {
  within : l.count ≤ length l.inserts;
  same : counted (statements_of l.self) l.body l.inserts ≡ counted (statements_of l.self) l.body (take l.count l.inserts);
}

abbrev pub decreases-loop-count : goal.decreases-loop-count
decreases-loop-count l = l.count
