use Rattle.type_laws.proofs.PlaceLemmas.{type-at-place, local-at-place}
use Rattle.type_laws.proofs.tables_are_by_place.Goals as goal

pub returns : goal.returns
returns c = record {
  types = λ s item k p ty distinct few at t token. type-at-place item distinct s k p ty few at t token;
  locals = λ s item k p distinct at. local-at-place s item distinct k p at;
}
