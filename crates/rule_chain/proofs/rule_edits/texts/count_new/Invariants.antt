use Rattle.std.proofs.Common.{◌≡◌, ◌+◌, ◌≤◌, not, nat_lt, length, drop}
use Rattle.std.specs.List.{filter}
use Rattle.rule_chain.proofs.rule_edits.texts.count_new.Given as goal

abbrev pub invariant-loop-id : goal.invariant-loop-id
invariant-loop-id l = record {
  counted : l.count + length (filter (λ id. not (nat_lt id l.next)) (drop l.id-index l.ids))
      ≡ length (filter (λ id. not (nat_lt id l.next)) l.ids);
  few : l.count ≤ l.id-index;
}
