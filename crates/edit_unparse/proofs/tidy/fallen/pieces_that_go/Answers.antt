use Rattle.std.proofs.Common.{◌<◌, ◌≤◌, ◌&&◌, false, not, refl, ◌∙◌, arith, get_or, length}
use Rattle.edit_unparse.specs.Output.{Part}
use Rattle.edit_unparse.specs.Tidy.Commas.{is_from}
use Rattle.edit_unparse.specs.Tidy.Made.{part_in}
use Rattle.edit_unparse.proofs.FallenLemmas.{any_end, any_more, if_or}
use Rattle.edit_unparse.proofs.tidy.fallen.pieces_that_go.Goals as goal

pub loop-i-preserved : goal.loop-i-preserved
loop-i-preserved c =
    let stays = c.args.stays.now in
    let parts = c.args.parts.now in
    let i = c.loop-i.i in
    let part = c.index-parts-i.result in
    let within : i < length parts = omega arith in
    record {
      len = c.put_piece.ensures.len ∙ c.loop-i.invariant.len;
      flags = λ pieces n less.
          any_more (part_in pieces) (λ (p : Part). is_from n p.from) stays parts i (get_or stays i false) part
          (get_or c.loop-i.flags.items n false) (get_or c.put_piece.new.flags.items n false) _ (omega arith) within refl c.index-parts-i.is
          (c.put_piece.ensures.flags pieces n (omega (arith, less, c.loop-i.invariant.len))
          ∙ if_or (not (get_or stays i false) && is_from n (part_in pieces part).from) (get_or c.loop-i.flags.items n false))
          (c.loop-i.invariant.flags pieces n less);
    }

pub returns-clause-flags : goal.returns-clause-flags
returns-clause-flags c = λ pieces n less.
    let past : length c.args.parts.now ≤ c.loop-i.i = omega arith in
    any_end (part_in pieces) (λ (p : Part). is_from n p.from) c.args.stays.now c.args.parts.now c.loop-i.i (get_or c.loop-i.flags.items n false) _
    c.requires past (c.loop-i.invariant.flags pieces n less)
