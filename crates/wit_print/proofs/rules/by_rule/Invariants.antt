use Rattle.std.proofs.Common.{◌≡◌, ◌≤◌, ℕ, [], take}
use Rattle.wit_print.specs.Groups.{AreGroups, shown_groups}
use Rattle.wit_print.proofs.rules.by_rule.Given as goal

abbrev pub invariant-loop : goal.invariant-loop
invariant-loop l = record {
  few : l.counter ≤ l.count;
  groups : AreGroups l.counter [] (shown_groups l.groups.items);
}

abbrev pub invariant-loop-w : goal.invariant-loop-w
invariant-loop-w l = AreGroups l.count (take l.w-index l.witnesses) (shown_groups l.groups.items)
