use Rattle.std.proofs.Common.{◌≡◌, ◌<◌, ◌+◌, length, if◌then◌else◌}
use Rattle.cfg_build.specs.CfgGraph.Seats.{path_of}
use Rattle.cfg_build.proofs.cfg_graph.path.is_one_up.Given as goal

-- the numbers above the node, and the one that was found on the way to it
abbrev pub invariant-loop-holder : goal.invariant-loop-holder
invariant-loop-holder l = record {
  count : (if l.found then 1 else 0) + length (path_of l.nodes l.at) ≡ length (path_of l.nodes l.node);
  inside : l.at < length l.nodes;
}

abbrev pub decreases-loop-holder : goal.decreases-loop-holder
decreases-loop-holder l = l.at
