use Rattle.std.proofs.Common.{ℕ}
use Rattle.smpl_terms.specs.Environments.{total}
use Rattle.wit_forest.proofs.LoopLemmas.{Put}
use Rattle.wit_forest.proofs.gather.visit_kids.Given as goal

abbrev pub invariant-loop-kid : goal.invariant-loop-kid
invariant-loop-kid l = Put l.g l.f {X = ℕ × ℕ} (λ k. k.0) (λ k. k.1) (λ k. total l.env) l.part l.kid-items l.kid-index l.initial.states l.states
