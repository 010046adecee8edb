use Rattle.std.proofs.Common.{◌≡◌, ◌+◌, ◌∷◌, drop, map, get_or, sym, ap, ◌∙◌, arith}
use Rattle.std.specs.Prelude.{Some, slice_get, slice_range}
use Rattle.c_lexer.specs.Pieces.{TextPiece}
use Rattle.cpp_lines.specs.declared.item.ItemSoFar.{ItemSoFar}
use Rattle.cpp_lines.specs.Items.{ends_item}
use Rattle.cpp_lines.specs.Visible.{sign_at}
use Rattle.cpp_lines.proofs.ItemProgress.{ended, continued, next_sign}
use Rattle.cpp_lines.proofs.span.items.Goals as goal
use Rattle.cpp_lines.proofs.span.items.Goals.{then-ends_item+in_ok-push, else-ends_item}

pub loop-number-preserved : goal.loop-number-preserved
loop-number-preserved c =
    let pieces = c.args.visible.now.pieces in
    let shown = c.shown-shown.result.now in
    let number = c.loop-number.number in
    let inv = c.loop-number.invariant in
    let signs = map (sign_at pieces) shown in
    let text = slice_range c.bytes-bytes.result.now c.piece-piece.result.start c.piece-piece.result.end in
    let p : TextPiece = record { kind = c.piece-piece.result.kind; text = text } in
    let is : slice_get pieces (get_or shown number 0) ≡ Some p =
    rw c.lexed-lexed.ensures.lexed at (rw (← c.bytes-bytes.ensures.bytes) at c.piece-piece.ensures.piece) in
    let here : drop number signs ≡ c.sign_of-sign.result ∷ drop (number + 1) signs =
    rw c.sign_of-sign.ensures (next_sign pieces shown number p c.loop-number-test.true is) in
    let g = inv.so_far in
    let ends : c.ends_item.result ≡ ends_item c.sign_of-sign.result g.before = c.ends_item.ensures g.before g.known in
    elim c.if-ends_item.branch [
      | then-ends_item+in_ok-push w ↦ rw (w.spans-is, w.item-is, w.first-is) (record {
        short = inv.short;
        depth = omega (arith, ap (λ (i : ItemSoFar). i.depth) w.no_tokens-item-then-ends_item.ensures);
        start = omega arith;
        so_far = rw w.in_ok-push.ensures.items (ended signs number c.loop-number.first c.loop-number.item
            w.no_tokens-item-then-ends_item.result c.loop-number.spans.items c.sign_of-sign.result g here
            (sym ends ∙ w.if-ends_item.true) w.no_tokens-item-then-ends_item.ensures);
      })
      | else-ends_item w ↦ rw (w.spans-is, w.item-is, w.first-is) (record {
        short = inv.short;
        depth = omega (arith, inv.depth, w.with_token-item.ensures.at_most);
        start = omega (arith, inv.start);
        so_far = continued signs number c.loop-number.first c.loop-number.item w.with_token-item.result
            c.loop-number.spans.items c.sign_of-sign.result g here (sym ends ∙ w.if-ends_item.false) (w.with_token-item.ensures.value g.before g.known);
      })
    ]
