use Rattle.smpl_terms.specs.declared.value.Value.{Value}
use Rattle.smpl_terms.specs.Environments.{change, total}
use Rattle.wit_forest.proofs.LoopLemmas.{Put}
use Rattle.wit_forest.proofs.gather.visit_hidden.Given as goal

abbrev pub invariant-loop-v : goal.invariant-loop-v
invariant-loop-v l = Put l.g l.f {X = Value} (λ v. l.part) (λ v. l.node) (λ v. change (total l.env) l.x v) l.part l.v-items l.v-index l.initial.states l.states
