use Rattle.std.proofs.lemmas.List.Elements.{All-from_recursion}
use Rattle.rule_laws.proofs.EvenLemmas.{Even, patch-even}
use Rattle.rule_laws.proofs.laws.plus_blocks_are_even.Goals as goal

pub returns : goal.returns
returns c = record { even = λ patch s. All-from_recursion Even patch.rules (patch-even patch s) }
