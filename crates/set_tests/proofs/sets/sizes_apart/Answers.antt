use denote.Param.Send.{sendable}
use Rattle.std.proofs.Crossing.{crosses}
use Rattle.env_sets.proofs.Crossing.{set_send}
use Rattle.set_tests.proofs.sets.sizes_apart.Goals as goal

pub join-requires-send-F : goal.join-requires-send-F
join-requires-send-F g c κs within = search (set_send, crosses, sendable) depth 60
