use Rattle.std.proofs.Common.{◌≡◌, ◌<◌, ◌≤◌, ◌+◌, ◌-◌, ℕ, arith, length, get_or, drop, subst}
use Rattle.std.specs.List.{position_or_len}
use Rattle.edit_unparse.specs.Tidy.Commas.{is_from}
use Rattle.edit_unparse.specs.Tidy.Made.{parts_in}
use Rattle.edit_unparse.proofs.StayLemmas.{least_more}
use Rattle.edit_unparse.proofs.tidy.brackets.first_places.Goals as goal

pub loop-at-preserved : goal.loop-at-preserved
loop-at-preserved c =
    let at : ℕ = c.loop-at.at - 1 in
    let next : c.loop-at.at ≡ at + 1 = omega arith in
    let less : at < length c.args.parts.now = omega arith in
    record {
      within = omega arith;
      places = λ pieces n. least_more pieces c.args.parts.now at c.loop-at.at c.index-parts-at.result n (get_or c.loop-at.places.items n 0)
          (get_or c.put_place.new.places.items n 0) next less c.index-parts-at.is (c.put_place.ensures.own pieces n) (c.put_place.ensures.others pieces n)
          (c.loop-at.invariant.places pieces n);
    }

pub returns : goal.returns
returns c = λ pieces n.
    let none : c.loop-at.at ≡ 0 = omega arith in
    let most : get_or c.loop-at.places.items n 0 ≤ 0 + position_or_len (λ p. is_from n p.from) (parts_in pieces c.args.parts.now) =
    subst (λ (k : ℕ). get_or c.loop-at.places.items n 0 ≤ k + position_or_len (λ p. is_from n p.from) (drop k (parts_in pieces c.args.parts.now))) none
    (c.loop-at.invariant.places pieces n) in
    omega (arith, most)
