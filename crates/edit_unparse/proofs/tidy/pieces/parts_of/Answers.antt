use Rattle.std.proofs.Common.{◌≡◌, ◌≤◌, ◌+◌, ◌-◌, ℕ, true, false, List, [], ◌++◌, ap, ◌∙◌, sym, arith, drop, take, length, length-drop, length-take, map}
use Rattle.std.proofs.lemmas.List.{length-map}
use Rattle.std.specs.Prelude.{slice_get, if◌then◌else◌}
use Rattle.c_lexer.specs.declared.piece.PieceKind.{PieceKind}
use Rattle.c_lexer.specs.declared.piece.PieceKind.TheVariants.{Word, Blank, Comment, Line}
use Rattle.c_lexer.specs.Pieces.{text_of}
use Rattle.tidy_flags.specs.declared.lines.LineByte.{LineByte}
use Rattle.tidy_flags.specs.Lines.{blank_bytes, removed_bytes, solid_bytes}
use Rattle.edit_unparse.specs.Output.{added}
use Rattle.edit_unparse.specs.Tidy.Fallen.{origins_at}
use Rattle.edit_unparse.specs.Tidy.Made.{origins_in, parts_in}
use Rattle.edit_unparse.specs.Tidy.Plans.{placement_in}
use Rattle.edit_unparse.specs.Tidy.Text.{Placement, bytes_at, has_insert, tidy_parts}
use Rattle.edit_unparse.proofs.OriginLemmas.{more_of, origins_step}
use Rattle.edit_unparse.proofs.PieceLemmas.{at_most_next, piece_in, placed_more}
use Rattle.edit_unparse.proofs.tidy.pieces.parts_of.Goals as goal

no_longer : (f : ℕ → LineByte) (text : List ℕ) → length (map f text) ≤ length text
no_longer f text = omega (arith, length-map text f)

-- the lines have no more bytes of a piece than it has
bytes_most : (at : Placement) (k : PieceKind) (t : ℕ) (text : List ℕ) → length (bytes_at at k t text) ≤ length text
bytes_most at (Word kind id) t text = elim (at.goes t) as (λ b. length (if b then removed_bytes (has_insert at t) text else solid_bytes text) ≤ length text)
    [ true ↦ no_longer _ text | false ↦ no_longer _ text ]
bytes_most at Blank t text =
    let none : List LineByte = [] in
    elim (at.joined t) as (λ b. length (if b then none else blank_bytes text) ≤ length text) [ true ↦ omega arith | false ↦ no_longer _ text ]
bytes_most at Comment t text = no_longer _ text
bytes_most at Line t text = no_longer _ text

between_length : (bytes : List ℕ) (s e : ℕ) → e ≤ length bytes → length (take (e - s) (drop s bytes)) ≡ e - s
between_length bytes s e within = omega (arith, length-take (e - s) (drop s bytes), length-drop s bytes)

pub loop-i-preserved : goal.loop-i-preserved
loop-i-preserved c =
    let lexed = c.args.lexed.now in
    let piece = c.piece-piece.result in
    let here = c.loop-i.here in
    let at = placement_in c.args.edits.now c.args.plan.now in
    let bytes = c.bytes-bytes.ensures.bytes in
    let text = take (piece.end - piece.start) (drop piece.start (text_of lexed)) in
    let whole : length text ≡ piece.end - piece.start = between_length (text_of lexed) piece.start piece.end c.piece-piece.ensures.within in
    let same : length (take (piece.end - piece.start) (drop piece.start c.bytes-bytes.result.now)) ≡ length text =
    ap (λ (b : List ℕ). length (take (piece.end - piece.start) (drop piece.start b))) bytes in
    let place : c.next_place-here.result.at ≡ here.at + length (bytes_at at piece.kind here.token text) =
    c.next_place-here.ensures.at c.args.edits.now text (omega (arith, whole, same)) in
    let most : length (bytes_at at piece.kind here.token text) ≤ length text = bytes_most at piece.kind here.token text in
    record {
      number = omega (arith, c.next_place-here.ensures.number, c.loop-i.invariant.number);
      token = omega (arith, c.loop-i.invariant.token, at_most_next piece.kind here.token, c.next_place-here.ensures.token);
      at = omega (arith, place, most, whole, c.piece-piece.ensures.start, c.piece-piece.ensures.end, c.piece-piece.ensures.some, c.loop-i.invariant.at);
      parts = placed_more at c.args.braces.now c.deref-2.result.now lexed here.at c.next_place-here.result.at c.loop-i.i here.token
          c.next_place-here.result.token (piece_in (text_of lexed) piece.kind piece.start piece.end) (parts_in lexed c.loop-i.made.items)
          (parts_in lexed c.put_piece.new.made.items) _ c.piece-piece.ensures.piece
          (c.in_ok-put_piece.ensures.parts lexed (piece_in (text_of lexed) piece.kind piece.start piece.end)
          (ap (slice_get lexed) c.loop-i.invariant.number ∙ c.piece-piece.ensures.piece)
          (ap (λ (b : List ℕ). piece_in b piece.kind piece.start piece.end) (sym bytes))
          ∙ ap (λ (n : ℕ). parts_in lexed c.loop-i.made.items ++ tidy_parts at added c.args.braces.now piece.kind (drop here.at c.deref-2.result.now)
          here.token n (piece_in (text_of lexed) piece.kind piece.start piece.end)) c.loop-i.invariant.number)
          place c.next_place-here.ensures.token c.loop-i.invariant.parts;
      origins = λ e. more_of (origins_in c.loop-i.made.items) (origins_in c.put_piece.new.made.items) _
          (origins_at c.args.edits.now c.args.plan.now piece.kind (drop here.at c.deref-2.result.now) here.token c.loop-i.i
          (piece_in (text_of lexed) piece.kind piece.start piece.end)) _ _
          (c.in_ok-put_piece.ensures.origins e (piece_in (text_of lexed) piece.kind piece.start piece.end)
          (ap (λ (b : List ℕ). piece_in b piece.kind piece.start piece.end) (sym bytes))
          ∙ ap (λ (n : ℕ). origins_in c.loop-i.made.items ++ origins_at c.args.edits.now c.args.plan.now piece.kind
          (drop here.at c.deref-2.result.now) here.token n (piece_in (text_of lexed) piece.kind piece.start piece.end)) c.loop-i.invariant.number)
          (origins_step c.args.edits.now c.args.plan.now c.deref-2.result.now lexed here.at c.next_place-here.result.at c.loop-i.i here.token
          c.next_place-here.result.token (piece_in (text_of lexed) piece.kind piece.start piece.end) c.piece-piece.ensures.piece
          place c.next_place-here.ensures.token)
          (c.loop-i.invariant.origins e);
    }
