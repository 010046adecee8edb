use Rattle.std.proofs.Common.{◌≡◌, ◌≤◌, ℕ, ap, sym, ◌∙◌, arith, length, take}
use Rattle.c_lexer.specs.Pieces.{text_of}
use Rattle.edit_marks.specs.Inserts.{line_start}
use Rattle.edit_marks.specs.declared.file_tokens.TokenPlace.{TokenPlace}
use Rattle.edit_marks.proofs.TokenLemmas.{token_more, within_more, start_within}
use Rattle.edit_marks.proofs.file_tokens.FileTokens.of.Goals as goal

pub loop-i-preserved : goal.loop-i-preserved
loop-i-preserved c =
    let pieces = c.args.lexed.now in
    let bytes = c.bytes-bytes.result.now in
    let p = c.piece-piece.result in
    let is = c.piece-piece.ensures in
    let place : TokenPlace = record { start = p.start; end = p.end; line = c.loop-i.line; returns = c.loop-i.returns } in
    let same = c.bytes-bytes.ensures.bytes in
    let all : length bytes ≡ length (text_of pieces) = ap length same in
    let line : c.loop-i.line ≤ length (text_of (take c.loop-i.i pieces)) =
    omega (arith, c.loop-i.invariant.line, start_within (text_of pieces) (length (text_of (take c.loop-i.i pieces)))) in
    record {
      tokens = token_more pieces bytes c.loop-i.i p.kind place c.loop-i.places.items c.put_place.new.places.items
          same is.start is.end is.some is.within is.piece c.loop-i.invariant.line
          c.loop-i.invariant.returns c.in_ok-put_place.ensures c.loop-i.invariant.tokens;
      returns = c.returns_after-returns.ensures;
      line = c.line_after-next.ensures ∙ (λ j. line_start (same j) (is.end j));
      within = within_more bytes p.kind place c.loop-i.places.items c.put_place.new.places.items c.in_ok-put_place.ensures
          (omega (arith, is.some), (omega (arith, is.within, all), omega (arith, line, is.start, is.some, is.within, all))) c.loop-i.invariant.within;
    }

pub returns_after-returns-requires-clause-within : goal.returns_after-returns-requires-clause-within
returns_after-returns-requires-clause-within c =
    let bytes = c.bytes-bytes.result.now in
    let p = c.piece-piece.result in
    let all : length bytes ≡ length (text_of c.args.lexed.now) = ap length c.bytes-bytes.ensures.bytes in
    omega (arith, c.line_after-next.ensures, start_within bytes p.end, c.piece-piece.ensures.within, all)
