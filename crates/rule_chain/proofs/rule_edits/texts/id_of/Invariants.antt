use Rattle.std.proofs.Common.{◌≡◌, ◌≤◌, ◌-◌, drop}
use Rattle.std.specs.Prelude.{slice_get}
use Rattle.c_lexer.specs.Ids.{ids_of}
use Rattle.rule_chain.proofs.rule_edits.texts.id_of.Given as goal

abbrev pub invariant-loop-i : goal.invariant-loop-i
invariant-loop-i l = record {
  passed : l.number ≤ l.token;
  rest : slice_get (ids_of (drop l.i l.lexed)) (l.token - l.number) ≡ slice_get (ids_of l.lexed) l.token;
}
