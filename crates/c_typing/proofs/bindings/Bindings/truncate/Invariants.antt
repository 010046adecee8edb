use Rattle.std.proofs.Common.{◌≡◌, take, vec_len}
use Rattle.c_typing.specs.Entries.{AreLinked}
use Rattle.c_typing.proofs.bindings.Bindings.truncate.Given as goal

abbrev pub invariant-loop-self : goal.invariant-loop-self
invariant-loop-self l = record {
  linked : AreLinked l.self-inside.lasts l.self-inside.entries.items;
  kept : take l.len l.self-inside.entries.items ≡ take l.len l.initial.self-inside.entries.items;
}

abbrev pub decreases-loop-self : goal.decreases-loop-self
decreases-loop-self l = vec_len l.self-inside.entries
