use Rattle.type_laws.proofs.ReadLemmas.{item_ids, item_levels, item_tokens}
use Rattle.type_laws.proofs.WantLemmas.{takes, points, fits, unknown}
use Rattle.type_laws.proofs.wanted.typed_variables_take_their_types.Goals as goal

pub returns : goal.returns
returns c = record {
  takes = λ s pieces items k t p ty distinct reads item at.
      takes s t (item_ids pieces items k t distinct reads item) (item_levels pieces items k t reads item)
      (λ j q e. item_tokens pieces items k t j q reads item e) p at ty;
  pointers = λ s pieces items k t p stars distinct reads item at.
      points s t (item_ids pieces items k t distinct reads item) (item_levels pieces items k t reads item)
      (λ j q e. item_tokens pieces items k t j q reads item e) p at stars;
  fits = λ s pieces items k t p decls env kind d ty distinct reads item at is.
      fits s t (item_ids pieces items k t distinct reads item) (item_levels pieces items k t reads item)
      (λ j q e. item_tokens pieces items k t j q reads item e) p at decls env kind d ty is;
  unknown = λ s pieces items k t p w distinct reads item at typed none.
      unknown s t (item_ids pieces items k t distinct reads item) (item_levels pieces items k t reads item)
      (λ j q e. item_tokens pieces items k t j q reads item e) p at w typed none;
}
