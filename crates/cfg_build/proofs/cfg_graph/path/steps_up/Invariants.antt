use Rattle.std.proofs.Common.{◌≡◌, ◌<◌, ◌++◌, length, reverse}
use Rattle.cfg_build.specs.CfgGraph.Seats.{path_of}
use Rattle.cfg_build.proofs.cfg_graph.path.steps_up.Given as goal

-- the path to the node, and what was recorded on the way to it
abbrev pub invariant-loop-steps : goal.invariant-loop-steps
invariant-loop-steps l = record {
  way : path_of l.nodes l.at ++ reverse l.steps.items ≡ path_of l.nodes l.node;
  inside : l.at < length l.nodes;
}

abbrev pub decreases-loop-steps : goal.decreases-loop-steps
decreases-loop-steps l = l.at
