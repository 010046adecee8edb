use Rattle.std.proofs.Common.{◌≡◌, ◌∷◌, [], refl, arith, length, length-append}
use Rattle.edit_marks.proofs.Tidied.PairLemmas.{first_pairs, more_pairs}
use Rattle.edit_marks.proofs.tidy.walk.zipped.Goals as goal

pub loop-statement-init : goal.loop-statement-init
loop-statement-init c = record { at = refl; pairs = first_pairs c.args.numbers.now c.in_ok-pairs.pairs.items c.in_ok-pairs.ensures.items }

pub loop-statement-preserved : goal.loop-statement-preserved
loop-statement-preserved c =
    let h = c.loop-statement.invariant in
    let before = c.loop-statement.yielded in
    record {
      at = omega (arith, length-append before (c.in-Some.statement ∷ []), h.at);
      pairs = more_pairs c.args.numbers.now before c.in-Some.statement c.loop-statement.at c.loop-statement.pairs.items c.put_pair.new.pairs.items h.at h.pairs
          c.in_ok-put_pair.ensures;
    }
