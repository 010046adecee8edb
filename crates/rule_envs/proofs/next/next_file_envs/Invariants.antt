use Rattle.std.proofs.Common.{◌≡◌, ◌++◌, ◌≤◌, drop, length}
use Rattle.rule_envs.proofs.FileEnvLemmas.{all_replaced}
use Rattle.rule_envs.proofs.next.next_file_envs.Given as goal

abbrev pub invariant-loop-i : goal.invariant-loop-i
invariant-loop-i l = record {
  rest : l.next ++ all_replaced l.number l.parts (drop l.i l.file_envs) (drop l.i l.places)
      ≡ all_replaced l.number l.parts l.file_envs l.places;
  few : length l.next ≤ 10000;
}
