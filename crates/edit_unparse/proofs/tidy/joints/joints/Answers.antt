use Rattle.std.proofs.Common.{ℕ, ◌-◌, List, ap, ◌∙◌, drop, take}
use Rattle.edit_unparse.specs.Tidy.Places.{plain_after}
use Rattle.edit_unparse.proofs.JointLemmas.{count_more, joints_more}
use Rattle.edit_unparse.proofs.tidy.joints.joints.Goals as goal

pub loop-i-preserved : goal.loop-i-preserved
loop-i-preserved c =
    let piece = c.piece-piece.result in
    let following = c.plain_after-is_plain.ensures
    ∙ ap (λ (bytes : List ℕ). plain_after piece.kind c.loop-i.is_plain (take (piece.end - piece.start) (drop piece.start bytes))) c.bytes-bytes.ensures.bytes in
    record {
      few = count_more c.args.owners.now c.args.lexed.now c.loop-i.i _ c.loop-i.is_plain c.loop-i.joined.items c.put_joint.new.joined.items _
          c.piece-piece.ensures.piece c.in_ok-put_joint.ensures c.loop-i.invariant.few;
      joined = λ edits gone are. joints_more c.args.owners.now edits gone c.args.lexed.now c.loop-i.i _ c.loop-i.is_plain
          c.plain_after-is_plain.result c.loop-i.joined.items c.put_joint.new.joined.items _ _ c.piece-piece.ensures.piece
          c.in_ok-put_joint.ensures following are c.loop-i.invariant.few
          (c.loop-i.invariant.joined edits gone are);
    }
