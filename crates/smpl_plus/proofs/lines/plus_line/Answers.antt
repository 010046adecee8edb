use Rattle.std.proofs.Common.{◌≡◌, ◌++◌, ◌∷◌, [], List, ℕ, length, ap, ◌∙◌, arith}
use Rattle.std.proofs.lemmas.List.{length-append}
use Rattle.smpl_plus.specs.Blocks.{lead_of}
use Rattle.smpl_plus.proofs.Cutting.{lead_within}
use Rattle.smpl_plus.proofs.lines.plus_line.Goals as goal

pub lead_of-lead-requires : goal.lead_of-lead-requires
lead_of-lead-requires c =
    let text = c.args.l.now.text in
    let same : c.as_slice.result.now ≡ text ++ 10 ∷ [] =
    c.as_slice.ensures.value ∙ c.in_ok-push.ensures.items ∙ ap (λ (xs : List ℕ). xs ++ 10 ∷ []) (c.in_ok-bytes.ensures.items ∙ c.as_bytes.ensures.bytes) in
    omega (
      arith,
      lead_within c.as_slice.result.now c.in_ok-gaps.gaps c.in_ok-gaps.ensures,
      ap lead_of c.as_slice-2.ensures,
      ap length same,
      length-append text (10 ∷ []),
      c.requires,
    )
