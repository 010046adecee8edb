use Rattle.std.proofs.Common.{◌<◌, ◌≤◌, false, refl, ◌∙◌, arith, get_or, length}
use Rattle.edit_unparse.specs.Tidy.Fallen.{has_place, is_origin}
use Rattle.edit_unparse.specs.Tidy.Made.{origin_in}
use Rattle.edit_unparse.proofs.FallenLemmas.{any_end, any_more}
use Rattle.edit_unparse.proofs.tidy.fallen.found_places.Goals as goal

pub loop-i-preserved : goal.loop-i-preserved
loop-i-preserved c =
    let stays = c.args.stays.now in
    let parts = c.args.parts.now in
    let i = c.loop-i.i in
    let within : i < length parts = omega arith in
    record {
      len = c.put_place.ensures.len ∙ c.loop-i.invariant.len;
      places = λ edit insert offset less.
          any_more origin_in (is_origin edit insert offset) stays parts i (get_or stays i false) c.index-parts-i.result
          (has_place edit insert offset c.loop-i.places.items) (has_place edit insert offset c.put_place.new.places.items) _ (omega arith) within refl
          c.index-parts-i.is (c.in_ok-put_place.ensures.places edit insert offset (omega (arith, less, c.loop-i.invariant.len)))
          (c.loop-i.invariant.places edit insert offset less);
    }

pub returns : goal.returns
returns c = λ edit insert offset less.
    let past : length c.args.parts.now ≤ c.loop-i.i = omega arith in
    any_end origin_in (is_origin edit insert offset) c.args.stays.now c.args.parts.now c.loop-i.i (has_place edit insert offset c.loop-i.places.items) _
    c.requires past (c.loop-i.invariant.places edit insert offset less)
