use Rattle.std.proofs.Common.{◌≡◌}
use Rattle.sp_gen.specs.Generated.{functions_from, first_state}
use Rattle.sp_gen.proofs.Statements.{after_functions}
use Rattle.sp_gen.proofs.functions.generate.Given as goal

abbrev pub invariant-loop-k : goal.invariant-loop-k
invariant-loop-k l = record {
  text : l.text.items ≡ functions_from l.k 0 (first_state l.seed);
  state : l.draws.state ≡ after_functions l.k (first_state l.seed);
}
