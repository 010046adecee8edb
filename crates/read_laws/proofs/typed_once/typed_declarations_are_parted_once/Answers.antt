use Rattle.read_laws.proofs.TypedOnce.SplitLemmas.{reach, typed-exactly}
use Rattle.read_laws.proofs.typed_once.typed_declarations_are_parted_once.Goals as goal

pub returns : goal.returns
returns c = record {
  reach = λ types names front back specs items. reach types names specs front back items;
  exact = typed-exactly;
}
