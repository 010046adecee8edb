use Rattle.std.proofs.Common.{◌≡◌, ◌≤◌, length, fold, take}
use Rattle.wit_forest.specs.States.{env_input}
use Rattle.wit_forest.proofs.states.feed_env.Given as goal

abbrev pub invariant-loop-i : goal.invariant-loop-i
invariant-loop-i g l = (l.i ≤ length l.pairs) × (l.state ≡ fold g.H.Hasher.write l.initial.state (env_input (take l.i l.pairs)))
