use Rattle.std.proofs.Common.{◌-◌, ℕ, List, ◌++◌, ap, ◌∙◌, arith, drop, take}
use Rattle.edit_unparse.specs.Tidy.Plans.{placement_in}
use Rattle.edit_unparse.specs.Tidy.Text.{bytes_at}
use Rattle.edit_unparse.proofs.PieceLemmas.{at_most_next, bytes_more}
use Rattle.edit_unparse.proofs.tidy.bytes.line_bytes.Goals as goal

pub loop-i-preserved : goal.loop-i-preserved
loop-i-preserved c =
    let piece = c.piece-piece.result in
    let at = placement_in c.args.edits.now c.args.plan.now in
    let token = c.loop-i.token in
    record {
      token = omega (arith, c.loop-i.invariant.token, at_most_next piece.kind token, c.token_after-token.ensures);
      lines = bytes_more at c.args.lexed.now c.loop-i.i token c.token_after-token.result _ c.loop-i.lines.items c.put_bytes.new.lines.items _
          c.piece-piece.ensures.piece
          (c.in_ok-put_bytes.ensures
          ∙ ap (λ (bytes : List ℕ). c.loop-i.lines.items
          ++ bytes_at at piece.kind token (take (piece.end - piece.start) (drop piece.start bytes))) c.bytes-bytes.ensures.bytes)
          c.token_after-token.ensures c.loop-i.invariant.lines;
    }
