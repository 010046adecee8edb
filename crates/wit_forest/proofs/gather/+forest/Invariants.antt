use Rattle.std.proofs.Common.{◌+◌, ◌*◌}
use Rattle.smpl_terms.specs.Environments.{total}
use Rattle.wit_forest.proofs.GatherLemmas.{Gathered}
use Rattle.wit_forest.proofs.ShownLemmas.{Shown}
use Rattle.wit_forest.proofs.gather.+forest.Given as goal

abbrev pub decreases-visit_values : goal.decreases-visit_values
decreases-visit_values l = 4 * l.part + 4

abbrev pub decreases-visit_quantifier : goal.decreases-visit_quantifier
decreases-visit_quantifier l = 4 * l.part + 5

abbrev pub decreases-visit : goal.decreases-visit
decreases-visit l = 4 * l.part + 2

abbrev pub decreases-forest_at : goal.decreases-forest_at
decreases-forest_at l = 4 * l.part + 3

abbrev pub invariant-visit_values-loop-v : goal.invariant-visit_values-loop-v
invariant-visit_values-loop-v l = Shown l.g l.f l.x l.part l.node (total l.env) l.v-items l.v-index l.initial.found l.found

abbrev pub invariant-forest_at-loop-at : goal.invariant-forest_at-loop-at
invariant-forest_at-loop-at l = Gathered l.g l.f l.part l.node (total l.env) l.at l.states l.found
