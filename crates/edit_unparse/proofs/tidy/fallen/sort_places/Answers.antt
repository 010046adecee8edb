use Rattle.std.proofs.Common.{◌<◌, ◌≤◌, ◌∙◌, arith, length}
use Rattle.std.proofs.lemmas.List.{length-set}
use Rattle.edit_unparse.proofs.SortedPlaces.{place_same, rise_all, rise_more}
use Rattle.edit_unparse.proofs.tidy.fallen.sort_places.Goals as goal

pub loop-i-preserved : goal.loop-i-preserved
loop-i-preserved c =
    let places = c.loop-i.places.items in
    let within : c.loop-i.i < length places = omega arith in
    record {
      len = length-set places c.loop-i.i c.sort_own.new.own ∙ c.loop-i.invariant.len;
      same = λ edit insert offset.
          place_same edit insert offset c.loop-i.i places c.index_mut.result.now c.sort_own.new.own within (grind (arith, c.index_mut.ensures.value))
          (c.in_ok-sort_own.ensures.same insert offset)
          ∙ c.loop-i.invariant.same edit insert offset;
      rise = rise_more c.loop-i.i places c.sort_own.new.own within c.in_ok-sort_own.ensures.rise c.loop-i.invariant.rise;
    }

pub returns-clause-rise : goal.returns-clause-rise
returns-clause-rise c =
    let past : length c.loop-i.places.items ≤ c.loop-i.i = omega arith in
    rise_all c.loop-i.places.items (λ edit less. c.loop-i.invariant.rise edit (omega (arith, less, past)))
