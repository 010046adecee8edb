use Rattle.std.proofs.Common.{◌≡◌, ◌<◌, ◌≤◌, ◌+◌, true, false, refl, sym, ap, ◌∙◌, arith, length, get_or, drop}
use Rattle.std.proofs.lemmas.List.{drop_all, length-map}
use Rattle.edit_unparse.specs.Tidy.Clearing.{place_of}
use Rattle.edit_unparse.specs.Tidy.Made.{part_in, parts_in}
use Rattle.edit_unparse.proofs.StayLemmas.{place_more}
use Rattle.edit_unparse.proofs.tidy.brackets.find.Goals as goal

pub returns-then-is_kept-clause-value : goal.returns-then-is_kept-clause-value
returns-then-is_kept-clause-value c = λ pieces long.
    let number = c.args.number in
    let flags = c.args.stays.now in
    let parts = c.args.parts.now in
    let at = c.loop-at.at in
    let less : at < length parts = omega arith in
    let fits : at < length flags = omega arith in
    let step : place_of number (drop at flags) (drop at (parts_in pieces parts)) ≡ 0 =
    place_more pieces number flags parts at (get_or flags at false) c.index-parts-at.result true fits less refl c.index-parts-at.is
    (sym c.if-is_kept.true ∙ c.is_kept.ensures pieces) in
    let before = c.loop-at.invariant.value pieces in
    omega (arith, step, before)

pub loop-at-preserved : goal.loop-at-preserved
loop-at-preserved c =
    let number = c.args.number in
    let flags = c.args.stays.now in
    let parts = c.args.parts.now in
    let at = c.loop-at.at in
    let less : at < length parts = omega arith in
    let fits : at < length flags = omega arith in
    record {
      after = omega arith;
      within = λ long. omega arith;
      value = λ pieces.
          let step : place_of number (drop at flags) (drop at (parts_in pieces parts))
          ≡ place_of number (drop (at + 1) flags) (drop (at + 1) (parts_in pieces parts)) + 1 =
          place_more pieces number flags parts at (get_or flags at false) c.index-parts-at.result false fits less refl c.index-parts-at.is
          (sym c.if-is_kept.false ∙ c.is_kept.ensures pieces) in
          let before = c.loop-at.invariant.value pieces in
          omega (arith, step, before);
    }

pub returns-clause-value : goal.returns-clause-value
returns-clause-value c = λ pieces long.
    let number = c.args.number in
    let parts = parts_in pieces c.args.parts.now in
    let past : length parts ≤ c.loop-at.at = omega (arith, c.loop-at-test.false, length-map c.args.parts.now (part_in pieces)) in
    let none : place_of number (drop c.loop-at.at c.args.stays.now) (drop c.loop-at.at parts) ≡ 0 =
    ap (place_of number (drop c.loop-at.at c.args.stays.now)) (drop_all c.loop-at.at parts past) in
    let before = c.loop-at.invariant.value pieces in
    omega (arith, none, before)
