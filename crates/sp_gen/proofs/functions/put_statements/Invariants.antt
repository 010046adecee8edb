use Rattle.std.proofs.Common.{◌≡◌, ◌++◌}
use Rattle.sp_gen.specs.Generated.{statements, after_statements}
use Rattle.sp_gen.proofs.functions.put_statements.Given as goal

abbrev pub invariant-loop : goal.invariant-loop
invariant-loop l = record {
  text : l.text.items ≡ l.fn.text.items ++ statements l.counter l.fn.draws.state;
  state : l.draws.state ≡ after_statements l.counter l.fn.draws.state;
}
