use Rattle.type_laws.proofs.PlaceLemmas.{type-at-place, local-at-place}
use Rattle.type_laws.proofs.ReadLemmas.{item_ids, item_levels, item_tokens}
use Rattle.type_laws.proofs.read_tables_are_by_place.Goals as goal

pub returns : goal.returns
returns c = record {
  types = λ s pieces items k t j p ty distinct reads item at type.
      type-at-place t (item_ids pieces items k t distinct reads item) s j p ty (item_levels pieces items k t reads item) at type
      (item_tokens pieces items k t j p reads item at);
  locals = λ s pieces items k t j p distinct reads item at.
      local-at-place s t (item_ids pieces items k t distinct reads item) j p at;
}
