use Rattle.std.proofs.Common.{◌≡◌, ◌+◌, ◌∷◌, reverse, sym, ap, ◌∙◌, refl, true, false, arith}
use Rattle.std.specs.Prelude.{Some, slice_get, slice_range}
use Rattle.c_lexer.specs.Pieces.{TextPiece}
use Rattle.cpp_lines.specs.declared.directive.Directive.TheVariants.{Other}
use Rattle.cpp_lines.specs.Directives.{Directs}
use Rattle.cpp_lines.specs.Signs.{sign_of}
use Rattle.cpp_lines.specs.Shown.{is_word, is_masked}
use Rattle.cpp_lines.specs.Frames.{all_shown}
use Rattle.cpp_lines.specs.Masks.{Tells}
use Rattle.cpp_lines.proofs.Progress.{Progress, start, no_token, hidden_token, masked_token, shown_token, all_shown_tokens, at_place}
use Rattle.cpp_lines.proofs.shown.shown_tokens.Goals as goal
use Rattle.cpp_lines.proofs.shown.shown_tokens.Goals.{in-Line+in_ok-read_line-in-Line, in-Word+then-all_shown}
use Rattle.cpp_lines.proofs.shown.shown_tokens.Goals.{then-not-is_masked+in_ok-push-in-Word, else-not-is_masked}
use Rattle.cpp_lines.proofs.shown.shown_tokens.Goals.{in-Word+else-all_shown, in-Blank, in-Comment}

pub loop-i-init : goal.loop-i-init
loop-i-init c = record {
  end = c.count-i-end.ensures.count;
  short = c.count-i-end.ensures.at_most;
  depth = omega (arith, c.no_mask-mask.ensures.none);
  so_far = rw (c.new-groups.ensures.items, c.new-shown.ensures.items) (start c.args.lexed.now c.no_mask-mask.result c.no_mask-mask.ensures.tells);
}

pub loop-i-preserved : goal.loop-i-preserved
loop-i-preserved c =
    let lexed = c.args.lexed.now in
    let i = c.loop-i.i in
    let inv = c.loop-i.invariant in
    let text = slice_range c.bytes-bytes.result.now c.piece-piece.result.start c.piece-piece.result.end in
    let p : TextPiece = record { kind = c.piece-piece.result.kind; text = text } in
    let is : slice_get lexed i ≡ Some p = rw (← c.bytes-bytes.ensures.bytes) at c.piece-piece.ensures.piece in
    let at = at_place lexed i p is in
    let frames = reverse c.loop-i.groups.items in
    let other : (is_word c.piece-piece.result.kind ≡ false) → Directs c.piece-piece.result.kind text Other
    → Progress lexed (i + 1) frames c.loop-i.mask c.loop-i.shown.items =
    λ word does. no_token lexed i frames c.loop-i.mask c.loop-i.shown.items p Other inv.so_far at does word in
    elim c.match-piece.branch [
      | in-Line+in_ok-read_line-in-Line w ↦
          let d = w.read_directive.result in
          let word : is_word c.piece-piece.result.kind ≡ false = ap is_word w.in-Line.is in
          let does : Directs c.piece-piece.result.kind text d = rw w.in-Line.is w.read_directive.ensures in
          rw (w.groups-is, w.mask-is, w.shown-is) (record {
            end = inv.end;
            short = inv.short;
            depth = omega (arith, inv.depth);
            so_far = rw w.in_ok-read_line-in-Line.ensures (no_token lexed i frames c.loop-i.mask c.loop-i.shown.items p d inv.so_far at does word);
          })
      | in-Word+then-all_shown w ↦
          let g = inv.so_far in
          let word : is_word c.piece-piece.result.kind ≡ true = ap is_word w.in-Word.is in
          let arms : all_shown frames ≡ true = sym w.all_shown.ensures ∙ w.if-all_shown.true in
          let masks : w.is_masked.result ≡ is_masked (sign_of text) g.tokens = rw (← w.sign_of-sign.ensures) (w.is_masked.ensures g.tokens g.masks) in
          let tells : Tells (sign_of text ∷ g.tokens) w.mask_with-mask.result =
          rw (← w.sign_of-sign.ensures) (w.mask_with-mask.ensures.tells g.tokens g.masks) in
          rw (w.groups-is, w.mask-is, w.shown-is) (record {
            end = inv.end;
            short = inv.short;
            depth = omega (arith, inv.depth, w.mask_with-mask.ensures.at_most);
            so_far = elim w.if-not-is_masked.branch [
              | then-not-is_masked+in_ok-push-in-Word v ↦
                  rw (v.shown-is, v.in_ok-push-in-Word.ensures.items)
                  (shown_token lexed i frames c.loop-i.mask w.mask_with-mask.result c.loop-i.shown.items p g at word arms
                  (sym masks ∙ v.if-not-is_masked.true) tells)
              | else-not-is_masked v ↦ rw v.shown-is (masked_token lexed i frames c.loop-i.mask w.mask_with-mask.result
                  c.loop-i.shown.items p g at word arms (sym masks ∙ v.if-not-is_masked.false) tells)
            ];
          })
      | in-Word+else-all_shown w ↦
          let word : is_word c.piece-piece.result.kind ≡ true = ap is_word w.in-Word.is in
          rw (w.groups-is, w.mask-is, w.shown-is) (record {
            end = inv.end;
            short = inv.short;
            depth = omega (arith, inv.depth);
            so_far = hidden_token lexed i frames c.loop-i.mask c.loop-i.shown.items p inv.so_far at word (sym w.all_shown.ensures ∙ w.if-all_shown.false);
          })
      | in-Blank w ↦ rw (w.groups-is, w.mask-is, w.shown-is)
          (record { end = inv.end; short = inv.short; depth = omega (arith, inv.depth); so_far = other (ap is_word w.in-Blank.is) (rw w.in-Blank.is refl) })
      | in-Comment w ↦ rw (w.groups-is, w.mask-is, w.shown-is)
          (record { end = inv.end; short = inv.short; depth = omega (arith, inv.depth); so_far = other (ap is_word w.in-Comment.is) (rw w.in-Comment.is refl) })
    ]

pub returns-clause-shown : goal.returns-clause-shown
returns-clause-shown c = all_shown_tokens c.args.lexed.now c.loop-i.i
    (reverse c.loop-i.groups.items) c.loop-i.mask c.loop-i.shown.items c.loop-i.invariant.so_far (omega (arith, c.loop-i.invariant.end, c.loop-i-test.false))
