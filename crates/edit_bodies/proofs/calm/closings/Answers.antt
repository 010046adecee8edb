use Rattle.std.proofs.Common.{◌-◌, ℕ, List, ap, ◌∙◌, drop, take}
use Rattle.tidy_flags.specs.Signs.{is_closing}
use Rattle.edit_bodies.proofs.CalmLemmas.{closings_more}
use Rattle.edit_bodies.proofs.calm.closings.Goals as goal

pub loop-i-preserved : goal.loop-i-preserved
loop-i-preserved c =
    let piece = c.piece-piece.result in
    closings_more c.args.lexed.now c.loop-i.i _ c.loop-i.flags.items c.put_flag.new.flags.items _ c.is_closing.result c.piece-piece.ensures.piece
    (c.is_closing.ensures
    ∙ ap (λ (bytes : List ℕ). is_closing (take (piece.end - piece.start) (drop piece.start bytes))) c.bytes-bytes.ensures.bytes)
    c.in_ok-put_flag.ensures c.loop-i.invariant
