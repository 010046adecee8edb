use Rattle.std.proofs.Common.{◌<◌, arith, length}
use Rattle.edit_unparse.proofs.Cursor.{acts_here, ahead_next}
use Rattle.edit_unparse.proofs.PlacementLemmas.{inserts_more}
use Rattle.edit_unparse.proofs.tidy.places.found_inserts.Goals as goal

pub loop-token-preserved : goal.loop-token-preserved
loop-token-preserved c =
    let edits = c.args.edits.now in
    let marks = c.marks-marks.result.now in
    let at = c.loop-token.at in
    let token = c.loop-token.token in
    let less : token < length c.args.joined.now = omega arith in
    record {
      acts = ahead_next edits marks at token c.count_at.result c.marks-marks.ensures.marks c.loop-token.invariant.acts
          c.count_at.ensures.value c.count_at.ensures.within;
      found = inserts_more edits c.args.removed.now c.args.joined.now c.args.depths.now token c.loop-token.start c.start_of-start.result c.home_of-home.result
          c.flag_at.result c.flag_at-goes.result _ c.loop-token.found.items c.put_token.new.found.items _ less
          c.flag_at.ensures c.start_of-start.ensures c.flag_at-goes.ensures c.home_of-home.ensures
          (acts_here edits marks at token c.count_at.result c.marks-marks.ensures.marks c.loop-token.invariant.acts c.count_at.ensures.value)
          c.in_ok-put_token.ensures c.loop-token.invariant.found;
    }
