use Rattle.std.proofs.lemmas.List.Elements.{All-from_recursion}
use Rattle.rule_laws.proofs.ApartLemmas.{Apart, patch-apart}
use Rattle.rule_laws.proofs.laws.exports_are_apart.Goals as goal

pub returns : goal.returns
returns c = record { apart = λ bytes patch s sound. All-from_recursion Apart patch.rules (patch-apart bytes patch s sound) }
