use Rattle.std.proofs.Common.{drop}
use Rattle.c_lexer.specs.Longest.{MayFollow}
use Rattle.c_lexer.proofs.between.never_accepts.Given as goal

abbrev pub invariant-loop-b : goal.invariant-loop-b
invariant-loop-b l = record {
  on : MayFollow l.fn.start l.bytes → MayFollow l.state (drop l.b-index l.bytes);
  back : MayFollow l.state (drop l.b-index l.bytes) → MayFollow l.fn.start l.bytes;
}
