use Rattle.std.proofs.Common.{◌<◌, ◌≤◌, refl, arith, rules, List, length, subst}
use Rattle.c_lexer.specs.Pieces.{text_of, most_bytes}
use Rattle.edit_marks.specs.declared.edit_conflict.edit.Edit.{Edit}
use Rattle.edit_unparse.specs.declared.draft.Place.{Place}
use Rattle.edit_unparse.specs.Output.{output_of}
use Rattle.edit_unparse.proofs.Cursor.{ahead_start, acts_here}
use Rattle.edit_unparse.proofs.RunLemmas.{get_there}
use Rattle.edit_unparse.proofs.LoopLemmas.{are_marks, ends_start, is_at, is_at_next, over_run, over_token, over_next, stop_later, all_written}
use Rattle.edit_unparse.proofs.Again.{reads_again}
use Rattle.edit_unparse.proofs.place.edited_text.Goals as goal

begin : Place
begin = record { piece = 0; token = 0 }

pub loop-place-init : goal.loop-place-init
unfolding begin
loop-place-init c =
    let pieces = c.args.lexed.now in
    let all = c.edits-all.result.now in
    let marks = c.marks-marks.result.now in
    let are = are_marks c.args.edits.now all marks c.edits-all.ensures.edits c.marks-marks.ensures.marks in
    let small : length pieces ≤ most_bytes = omega (arith, c.count-count.ensures.count, c.count-count.ensures.at_most) in
    record {
      all = c.count-count.ensures.count;
      small = c.count-count.ensures.at_most;
      here = is_at pieces all c.args.next marks are 0 c.next_token-stop.result begin c.in_ok-place.place _ c.put_run.new.draft small (omega arith) (omega arith)
          (ahead_start all marks are) c.next_token-stop.ensures c.in_ok-place.ensures.run c.in_ok-place.ensures.ok
          (ends_start pieces all c.args.next _ c.in_ok-with_capacity.ensures.items c.in_ok-with_capacity-2.ensures.items refl refl);
    }

pub loop-place-preserved : goal.loop-place-preserved
loop-place-preserved c =
    let pieces = c.args.lexed.now in
    let all = c.edits-all.result.now in
    let marks = c.marks-marks.result.now in
    let are = are_marks c.args.edits.now all marks c.edits-all.ensures.edits c.marks-marks.ensures.marks in
    let own = c.loop-place.invariant in
    let small : length pieces ≤ most_bytes = omega (arith, own.all, own.small) in
    let less : c.loop-place.place.piece < length pieces = omega (arith, own.all, c.loop-place-test.true) in
    record {
      all = own.all;
      small = own.small;
      here = is_at_next pieces all c.args.next marks are c.loop-place.at c.count_at.result
          c.next_token-stop-in-loop-place.result c.loop-place.place c.in_ok-place-2.place
          c.loop-place.draft c.put_at.new.draft c.put_run-in-loop-place.new.draft small less own.here c.count_at.ensures.value c.count_at.ensures.within
          c.in_ok-put_at.ensures.ok c.next_token-stop-in-loop-place.ensures c.in_ok-place-2.ensures.run c.in_ok-place-2.ensures.ok;
    }

pub put_at-requires-clause-acts : goal.put_at-requires-clause-acts
put_at-requires-clause-acts c =
    let all = c.edits-all.result.now in
    let marks = c.marks-marks.result.now in
    acts_here all marks c.loop-place.at c.loop-place.place.token c.count_at.result
    (are_marks c.args.edits.now all marks c.edits-all.ensures.edits c.marks-marks.ensures.marks) c.loop-place.invariant.here.acts c.count_at.ensures.value

pub put_run-requires-in-loop-place-clause-ahead : goal.put_run-requires-in-loop-place-clause-ahead
put_run-requires-in-loop-place-clause-ahead c =
    let pieces = c.args.lexed.now in
    let all = c.edits-all.result.now in
    let marks = c.marks-marks.result.now in
    let are = are_marks c.args.edits.now all marks c.edits-all.ensures.edits c.marks-marks.ensures.marks in
    let own = c.loop-place.invariant in
    let small : length pieces ≤ most_bytes = omega (arith, own.all, own.small) in
    let less : c.loop-place.place.piece < length pieces = omega (arith, own.all, c.loop-place-test.true) in
    stop_later pieces all c.args.next marks are c.loop-place.at c.count_at.result c.next_token-stop-in-loop-place.result c.loop-place.place c.loop-place.draft
    small less own.here c.count_at.ensures.value c.count_at.ensures.within c.next_token-stop-in-loop-place.ensures

pub returns-in_err-place-clause-too_long : goal.returns-in_err-place-clause-too_long
unfolding begin
returns-in_err-place-clause-too_long c = λ fault.
    let pieces = c.args.lexed.now in
    let all = c.edits-all.result.now in
    let marks = c.marks-marks.result.now in
    let are = are_marks c.args.edits.now all marks c.edits-all.ensures.edits c.marks-marks.ensures.marks in
    let small : length pieces ≤ most_bytes = omega (arith, c.count-count.ensures.count, c.count-count.ensures.at_most) in
    let over = over_run pieces all c.args.next marks are 0 c.next_token-stop.result begin _ small (omega arith) (omega arith)
    (ahead_start all marks are) c.next_token-stop.ensures (c.in_err-place.ensures.too_long (search rules))
    (ends_start pieces all c.args.next _ c.in_ok-with_capacity.ensures.items c.in_ok-with_capacity-2.ensures.items refl refl) in
    subst (λ (es : List Edit). most_bytes < length (text_of (output_of pieces es c.args.next))) c.edits-all.ensures.edits over

pub returns-in_err-put_at-clause-too_long : goal.returns-in_err-put_at-clause-too_long
returns-in_err-put_at-clause-too_long c = λ fault.
    let pieces = c.args.lexed.now in
    let all = c.edits-all.result.now in
    let own = c.loop-place.invariant in
    let less : c.loop-place.place.piece < length pieces = omega (arith, own.all, c.loop-place-test.true) in
    let there = get_there pieces c.loop-place.place.piece less in
    let over = over_token pieces all c.args.next c.loop-place.draft c.loop-place.place.token c.loop-place.place.piece there.0
    there.1 (own.here.word there.0 there.1)
    (c.in_err-put_at.ensures.too_long there.0 there.1 (search rules)) own.here.reached in
    subst (λ (es : List Edit). most_bytes < length (text_of (output_of pieces es c.args.next))) c.edits-all.ensures.edits over

pub returns-in_err-place-2-clause-too_long : goal.returns-in_err-place-2-clause-too_long
returns-in_err-place-2-clause-too_long c = λ fault.
    let pieces = c.args.lexed.now in
    let all = c.edits-all.result.now in
    let marks = c.marks-marks.result.now in
    let are = are_marks c.args.edits.now all marks c.edits-all.ensures.edits c.marks-marks.ensures.marks in
    let own = c.loop-place.invariant in
    let small : length pieces ≤ most_bytes = omega (arith, own.all, own.small) in
    let less : c.loop-place.place.piece < length pieces = omega (arith, own.all, c.loop-place-test.true) in
    let over = over_next pieces all c.args.next marks are c.loop-place.at c.count_at.result
    c.next_token-stop-in-loop-place.result c.loop-place.place c.loop-place.draft
    c.put_at.new.draft small less own.here c.count_at.ensures.value c.count_at.ensures.within c.in_ok-put_at.ensures.ok c.next_token-stop-in-loop-place.ensures
    (c.in_err-place-2.ensures.too_long (search rules)) in
    subst (λ (es : List Edit). most_bytes < length (text_of (output_of pieces es c.args.next))) c.edits-all.ensures.edits over

pub returns-clause-again : goal.returns-clause-again
returns-clause-again c = λ cuts fair.
    let d = c.loop-place.draft in
    let all = all_written c.args.lexed.now c.args.edits.now c.edits-all.result.now c.args.next d c.loop-place.place.token c.loop-place.place.piece
    (omega (arith, c.loop-place-test.false, c.loop-place.invariant.all)) c.edits-all.ensures.edits c.loop-place.invariant.here.reached in
    reads_again c.args.lexed.now c.args.edits.now c.args.next d.bytes.items d.ids.items cuts fair all.0 all.1
