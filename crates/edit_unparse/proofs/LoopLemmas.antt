-- From one touched token to the next: what the draft has written, and which acts are left.
use Rattle.std.proofs.Common.{◌≡◌, ◌<◌, ◌≤◌, ◌+◌, ◌-◌, ℕ, true, refl, sym, ap, ◌∙◌, arith, List, [], ◌++◌, length, take, drop, subst}
use Rattle.std.specs.Prelude.{None, Some, slice_get}
use Rattle.std.specs.List.{prefix_len}
use Rattle.std.proofs.lemmas.List.{take_rest, drop_all, append-nil}
use Rattle.c_lexer.specs.declared.piece.PieceKind.{PieceKind}
use Rattle.c_lexer.specs.declared.piece.PieceKind.TheVariants.{Word, Blank, Comment, Line}
use Rattle.c_lexer.specs.Pieces.{TextPiece, text_of, most_bytes}
use Rattle.c_lexer.specs.Lexes.{id_after}
use Rattle.c_lexer.specs.Ids.{ids_of}
use Rattle.edit_marks.specs.declared.edit_conflict.edit.Edit.{Edit}
use Rattle.edit_marks.specs.declared.edit_conflict.mark.Mark.{Mark}
use Rattle.edit_marks.specs.EditConflict.Marks.{is_at as is_at_token, AreMarks}
use Rattle.edit_unparse.specs.declared.draft.Draft.{Draft}
use Rattle.edit_unparse.specs.declared.draft.Place.{Place}
use Rattle.edit_unparse.specs.Output.{is_word, placed, parts_at, token_parts, spaced, output_of}
use Rattle.edit_unparse.specs.Written.{left, Writes, Overflows}
use Rattle.edit_unparse.specs.Runs.{run_of, old_parts, next_token, Untouched, IsRun}
use Rattle.edit_unparse.proofs.Cursor.{Ahead, ahead_next, piece_here}
use Rattle.edit_unparse.proofs.Reached.{Ends, ends_more, ends_over}
use Rattle.edit_unparse.proofs.RunLemmas.{ahead_on, untouched, stop_ahead, get_there}

-- Before a touched token, or after the last piece: the acts from here on are left, and what is written, joined with the
-- rest, is the new text.
pub record IsAt (pieces : List TextPiece) (edits : List Edit) (next : ℕ) (marks : List Mark) (at : ℕ) (place : Place) (d : Draft) : Type 0 where
  pub within : place.piece ≤ length pieces
  pub few : place.token ≤ place.piece
  pub word : (p : TextPiece) → slice_get pieces place.piece ≡ Some p → is_word p.kind ≡ true
  pub acts : Ahead edits marks at place.token
  pub reached : Ends pieces edits next d (placed edits place.token place.piece (drop place.piece pieces))

pub are_marks : (edits all : List Edit) (marks : List Mark) → all ≡ edits → AreMarks edits marks → AreMarks all marks
are_marks edits all marks e h = subst (λ (es : List Edit). AreMarks es marks) (sym e) h

pub ends_start : (pieces : List TextPiece) (edits : List Edit) (next : ℕ) (d : Draft) → d.bytes.items ≡ [] → d.ids.items ≡ [] → d.next ≡ next → left d ≡ None
    → Ends pieces edits next d (placed edits 0 0 pieces)
ends_start pieces edits next d bytes ids same none = record {
  bytes = λ i. bytes i ++ text_of (spaced (none i) (same i) (placed edits 0 0 pieces));
  ids = λ i. ids i ++ ids_of (spaced (none i) (same i) (placed edits 0 0 pieces));
}

word_parts : (k : PieceKind) (edits : List Edit) (token i : ℕ) (p : TextPiece) → is_word k ≡ true
    → (parts_at k edits token i p ≡ token_parts edits token i p) × (id_after k token ≡ token + 1)
word_parts (Word a id) edits token i p is = (refl, refl)
word_parts Blank edits token i p is = absurd cc
word_parts Comment edits token i p is = absurd cc
word_parts Line edits token i p is = absurd cc

module _ (pieces : List TextPiece) (edits : List Edit) (next : ℕ) where
  -- a token, with what is beside it
  pub ends_token : (d e : Draft) (token i : ℕ) (p : TextPiece) → slice_get pieces i ≡ Some p → is_word p.kind ≡ true → Writes d e (token_parts edits token i p)
      → Ends pieces edits next d (placed edits token i (drop i pieces)) → Ends pieces edits next e (placed edits (token + 1) (i + 1) (drop (i + 1) pieces))
  ends_token d e token i p at word writes ends =
      let w = word_parts p.kind edits token i p word in
      let rest = placed edits (token + 1) (i + 1) (drop (i + 1) pieces) in
      ends_more pieces edits next d e (token_parts edits token i p) rest
      (subst (Ends pieces edits next d) (piece_here edits token i pieces p at ∙ (λ j. w.0 j ++ placed edits (w.1 j) (i + 1) (drop (i + 1) pieces))) ends) writes

  -- a token with too many parts
  pub over_token : (d : Draft) (token i : ℕ) (p : TextPiece) → slice_get pieces i ≡ Some p → is_word p.kind ≡ true → Overflows d (token_parts edits token i p)
      → Ends pieces edits next d (placed edits token i (drop i pieces)) → most_bytes < length (text_of (output_of pieces edits next))
  over_token d token i p at word over ends =
      let w = word_parts p.kind edits token i p word in
      let rest = placed edits (token + 1) (i + 1) (drop (i + 1) pieces) in
      ends_over pieces edits next d (token_parts edits token i p) rest
      (subst (Ends pieces edits next d) (piece_here edits token i pieces p at ∙ (λ j. w.0 j ++ placed edits (w.1 j) (i + 1) (drop (i + 1) pieces))) ends) over

  module _ (marks : List Mark) (are : AreMarks edits marks) where
    -- a run that is too long
    pub over_run : (at stop : ℕ) (from : Place) (d : Draft) → length pieces ≤ most_bytes → from.piece ≤ length pieces
        → from.token ≤ from.piece → Ahead edits marks at from.token
        → stop ≡ next_token (drop at marks)
        → ((es : List Edit) → Untouched es from.token stop → Overflows d (placed es from.token from.piece (drop from.piece pieces)))
        → Ends pieces edits next d (placed edits from.token from.piece (drop from.piece pieces)) → most_bytes < length (text_of (output_of pieces edits next))
    over_run at stop from d small within few ahead is over ends =
        let less : from.token ≤ 4294967295 = omega (arith, small, within, few) in
        let none : Untouched edits from.token stop =
        subst (λ (s : ℕ). Untouched edits from.token s) (sym is) (untouched edits marks at from.token are ahead less) in
        let rest = placed edits from.token from.piece (drop from.piece pieces) in
        ends_over pieces edits next d rest [] (subst (Ends pieces edits next d) (sym (append-nil rest)) ends) (over edits none)

    -- a run up to the next touched token
    pub is_at : (at stop : ℕ) (from to : Place) (d e : Draft) → length pieces ≤ most_bytes → from.piece ≤ length pieces
        → from.token ≤ from.piece → Ahead edits marks at from.token
        → stop ≡ next_token (drop at marks) → IsRun pieces from stop to → Writes d e (old_parts from.piece (run_of pieces from.piece to.piece))
        → Ends pieces edits next d (placed edits from.token from.piece (drop from.piece pieces)) → IsAt pieces edits next marks at to e
    is_at at stop from to d e small within few ahead is run writes ends =
        let own : IsRun pieces from (next_token (drop at marks)) to = subst (λ (s : ℕ). IsRun pieces from s to) is run in
        let less : from.token ≤ 4294967295 = omega (arith, small, within, few) in
        record {
          within = own.passes.within;
          few = own.passes.few;
          word = own.word;
          acts = ahead_on edits marks at from.token are ahead less to.token own.passes.up own.passes.below;
          reached = ends_more pieces edits next d e (old_parts from.piece (run_of pieces from.piece to.piece))
              (placed edits to.token to.piece (drop to.piece pieces))
              (subst (Ends pieces edits next d) (own.passes.same edits (untouched edits marks at from.token are ahead less)) ends) writes;
        }

    -- a touched token, and the run after it
    pub is_at_next : (at count stop : ℕ) (place to : Place) (d e f : Draft) → length pieces ≤ most_bytes
        → place.piece < length pieces → IsAt pieces edits next marks at place d
        → count ≡ prefix_len (is_at_token place.token) (take (length marks - at) (drop at marks)) → count ≤ length (take (length marks - at) (drop at marks))
        → ((p : TextPiece) → slice_get pieces place.piece ≡ Some p → Writes d e (token_parts edits place.token place.piece p))
        → stop ≡ next_token (take (length marks - (at + count)) (drop (at + count) marks))
        → IsRun pieces (record { piece = place.piece + 1; token = place.token + 1 }) stop to
        → Writes e f (old_parts (place.piece + 1) (run_of pieces (place.piece + 1) to.piece))
        → IsAt pieces edits next marks (at + count) to f
    is_at_next at count stop place to d e f small less own counted fits token is run writes =
        let there = get_there pieces place.piece less in
        let ends = ends_token d e place.token place.piece there.0 there.1 (own.word there.0 there.1) (token there.0 there.1) own.reached in
        let within : place.piece + 1 ≤ length pieces = omega (arith, less) in
        let few : place.token + 1 ≤ place.piece + 1 = omega (arith, own.few) in
        is_at (at + count) stop (record { piece = place.piece + 1; token = place.token + 1 }) to e f small within few
        (ahead_next edits marks at place.token count are own.acts counted fits) (is ∙ ap next_token (take_rest marks (at + count))) run writes ends

    -- a run that is too long after a touched token
    pub over_next : (at count stop : ℕ) (place : Place) (d e : Draft) → length pieces ≤ most_bytes → place.piece < length pieces
        → IsAt pieces edits next marks at place d
        → count ≡ prefix_len (is_at_token place.token) (take (length marks - at) (drop at marks)) → count ≤ length (take (length marks - at) (drop at marks))
        → ((p : TextPiece) → slice_get pieces place.piece ≡ Some p → Writes d e (token_parts edits place.token place.piece p))
        → stop ≡ next_token (take (length marks - (at + count)) (drop (at + count) marks))
        → ((es : List Edit) → Untouched es (place.token + 1) stop → Overflows e (placed es (place.token + 1) (place.piece + 1) (drop (place.piece + 1) pieces)))
        → most_bytes < length (text_of (output_of pieces edits next))
    over_next at count stop place d e small less own counted fits token is over =
        let there = get_there pieces place.piece less in
        let ends = ends_token d e place.token place.piece there.0 there.1 (own.word there.0 there.1) (token there.0 there.1) own.reached in
        let within : place.piece + 1 ≤ length pieces = omega (arith, less) in
        let few : place.token + 1 ≤ place.piece + 1 = omega (arith, own.few) in
        over_run (at + count) stop (record { piece = place.piece + 1; token = place.token + 1 }) e small within few
        (ahead_next edits marks at place.token count are own.acts counted fits) (is ∙ ap next_token (take_rest marks (at + count))) over ends

    -- the next touched token is a later one
    pub stop_later : (at count stop : ℕ) (place : Place) (d : Draft) → length pieces ≤ most_bytes → place.piece < length pieces
        → IsAt pieces edits next marks at place d
        → count ≡ prefix_len (is_at_token place.token) (take (length marks - at) (drop at marks)) → count ≤ length (take (length marks - at) (drop at marks))
        → stop ≡ next_token (take (length marks - (at + count)) (drop (at + count) marks)) → place.token + 1 ≤ stop
    stop_later at count stop place d small less own counted fits is =
        let few : place.token + 1 ≤ 4294967295 = omega (arith, own.few, small, less) in
        let later = stop_ahead edits marks (at + count) (place.token + 1) are (ahead_next edits marks at place.token count are own.acts counted fits) few in
        subst (λ (s : ℕ). place.token + 1 ≤ s) (sym (is ∙ ap next_token (take_rest marks (at + count)))) later.0

-- if nothing is left, all is written
pub all_written : (pieces : List TextPiece) (edits all : List Edit) (next : ℕ) (d : Draft) (token i : ℕ) → length pieces ≤ i
    → all ≡ edits → Ends pieces all next d (placed all token i (drop i pieces))
    → (d.bytes.items ≡ text_of (output_of pieces edits next)) × (d.ids.items ≡ ids_of (output_of pieces edits next))
all_written pieces edits all next d token i less same ends =
    let none : placed all token i (drop i pieces) ≡ [] = ap (placed all token i) (drop_all i pieces less) in
    let over = subst (Ends pieces all next d) none ends in (
      sym (append-nil d.bytes.items) ∙ over.bytes ∙ ap (λ (es : List Edit). text_of (output_of pieces es next)) same,
      sym (append-nil d.ids.items) ∙ over.ids ∙ ap (λ (es : List Edit). ids_of (output_of pieces es next)) same,
    )
