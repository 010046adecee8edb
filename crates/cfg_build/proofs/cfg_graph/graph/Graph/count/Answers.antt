use Rattle.std.proofs.Common.{◌^◌, ◌<◌, arith, rules}
use Rattle.cfg_build.proofs.TypedLemmas.{typed-sound}
use Rattle.cfg_build.proofs.cfg_graph.graph.Graph.count.Goals as goal

pub overflow_cast-result : goal.overflow_cast-result
overflow_cast-result c = let few = c.self.invariant.few in let fits : c.count.result < 2 ^ 32 = omega (arith, few, c.count.ensures) in search rules

pub returns-clause-sound : goal.returns-clause-sound
returns-clause-sound c = rw (← c.self.view_is) (typed-sound c.self.inside.rows _ c.self.invariant)
