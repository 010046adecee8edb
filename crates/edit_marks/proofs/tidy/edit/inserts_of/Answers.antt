use Rattle.edit_marks.specs.Tidy.Edits.{touch_of}
use Rattle.edit_marks.proofs.Tidied.EditLemmas.{inserts_more}
use Rattle.edit_marks.proofs.tidy.edit.inserts_of.Goals as goal

pub loop-number-preserved : goal.loop-number-preserved
loop-number-preserved c =
    let at = c.args.at.now in
    record {
      end = c.loop-number.invariant.end;
      written = inserts_more at.ids.now at.files.now (touch_of at) c.args.removed.now c.args.blocks.now c.loop-number.number c.loop-number.inserts.items
          c.push_insert.new.inserts.items _ c.loop-number-test.true c.in_ok-push_insert.ensures c.loop-number.invariant.written;
    }
