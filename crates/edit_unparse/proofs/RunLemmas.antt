-- Runs of pieces that no edit touches: which parts are there, and what of them is written.
use Rattle.std.proofs.Common.{◌≡◌, ◌<◌, ◌≤◌, ◌+◌, ◌-◌, ◌==◌, ℕ, zero, suc, true, false, inl, inr, refl, sym, ap, ◌∙◌, arith}
use Rattle.std.proofs.Common.{List, [], ◌∷◌, ◌++◌, append_assoc, length, take, drop, filter, subst}
use Rattle.std.specs.Prelude.{Some, slice_get}
use Rattle.std.specs.List.{list_any}
use Rattle.std.proofs.lemmas.List.{append-nil, length-take-le, length-drop}
use Rattle.std.proofs.lemmas.Bool.Decides.{Decides-eqb}
use Rattle.c_lexer.specs.declared.piece.PieceKind.{PieceKind}
use Rattle.c_lexer.specs.declared.piece.PieceKind.TheVariants.{Word, Blank, Comment, Line}
use Rattle.c_lexer.specs.Pieces.{TextPiece}
use Rattle.c_lexer.specs.Lexes.{id_after}
use Rattle.c_lexer.specs.Ids.{ids_of, id_before}
use Rattle.edit_marks.specs.declared.edit_conflict.edit.Side.TheVariants.{Before, After}
use Rattle.edit_marks.specs.declared.edit_conflict.edit.Edit.{Edit}
use Rattle.edit_marks.specs.declared.edit_conflict.mark.Mark.{Mark}
use Rattle.edit_marks.specs.EditConflict.Marks.{is_at, marks_from, AreMarks}
use Rattle.edit_marks.proofs.EditConflict.Ordered.{Ordered, Ordered-drop, marks_ordered}
use Rattle.edit_unparse.specs.declared.draft.Draft.{Draft}
use Rattle.edit_unparse.specs.declared.draft.Place.{Place}
use Rattle.edit_unparse.specs.Output.{Part, is_word, old_part, kept, added, inserted, is_removed, token_parts, parts_at, placed}
use Rattle.edit_unparse.specs.Written.{mark_texts, is_removal}
use Rattle.edit_unparse.specs.Runs.{run_of, old_parts, is_stop, next_token, Untouched, Passes, SameButIds}
use Rattle.edit_unparse.proofs.Acts.{From, none_at, texts_there, removed_there}
use Rattle.edit_unparse.proofs.Cursor.{Ahead, piece_here}
use Rattle.edit_unparse.proofs.WrittenLemmas.{ids_of-append}

-- the parts at a piece that no edit touches

token_stays : (edits : List Edit) (t n : ℕ) (p : TextPiece) → filter (is_at t) (marks_from 0 edits) ≡ [] → token_parts edits t n p ≡ old_part n p ∷ []
token_stays edits t n p none =
    let before : inserted Before t edits ≡ [] = sym (texts_there edits Before t) ∙ ap (mark_texts edits Before) none in
    let after : inserted After t edits ≡ [] = sym (texts_there edits After t) ∙ ap (mark_texts edits After) none in
    let gone : is_removed t edits ≡ false = sym (removed_there edits t) ∙ ap (list_any is_removal) none in
    λ i. added (before i) ++ (kept (gone i) n p ++ added (after i))

not_there : (t stop : ℕ) → (t == stop) ≡ false → t ≤ stop → t < stop
not_there t stop e le = grind (
  arith,
  (λ (same : t ≡ stop). let yes : (t == stop) ≡ true = (Decides-eqb t stop).1 same in
      let both : true ≡ false = sym yes ∙ e in both),
)

piece_stays : (edits : List Edit) (t n stop : ℕ) (k : PieceKind) (p : TextPiece) → is_stop k t stop ≡ false → t ≤ stop
    → ((u : ℕ) → t ≤ u → u < stop → filter (is_at u) (marks_from 0 edits) ≡ []) → parts_at k edits t n p ≡ old_part n p ∷ []
piece_stays edits t n stop (Word a id) p e le none = token_stays edits t n p (none t (omega arith) (not_there t stop e le))
piece_stays edits t n stop Blank p e le none = refl
piece_stays edits t n stop Comment p e le none = refl
piece_stays edits t n stop Line p e le none = refl

pub below_stop : (t stop : ℕ) (k : PieceKind) → is_stop k t stop ≡ false → t ≤ stop → (t ≤ id_after k t) × (id_after k t ≤ stop)
below_stop t stop (Word a id) e le = let less = not_there t stop e le in (omega arith, omega arith)
below_stop t stop Blank e le = (omega arith, le)
below_stop t stop Comment e le = (omega arith, le)
below_stop t stop Line e le = (omega arith, le)

one_at_most : (k : PieceKind) (t n : ℕ) → t ≤ n → id_after k t ≤ n + 1
one_at_most (Word a id) t n le = omega arith
one_at_most Blank t n le = omega arith
one_at_most Comment t n le = omega arith
one_at_most Line t n le = omega arith

old_parts-append : (n : ℕ) (xs ys : List TextPiece) → old_parts n (xs ++ ys) ≡ old_parts n xs ++ old_parts (n + length xs) ys
old_parts-append n [] ys = let e : n ≡ n + 0 = omega arith in ap (λ (m : ℕ). old_parts m ys) e
old_parts-append n (x ∷ xs) ys =
    let e : n + 1 + length xs ≡ n + length (x ∷ xs) = omega arith in
    ap (λ (l : List Part). old_part n x ∷ l) (old_parts-append (n + 1) xs ys ∙ ap (λ (m : ℕ). old_parts (n + 1) xs ++ old_parts m ys) e)

take_one : (n : ℕ) (ps : List TextPiece) (p : TextPiece) → slice_get ps n ≡ Some p → take (suc n) ps ≡ take n ps ++ p ∷ []
take_one n [] p at = absurd cc
take_one zero (q ∷ ps) p at = let same : q ≡ p = cc in ap (λ (x : TextPiece). x ∷ []) same
take_one (suc n) (q ∷ ps) p at = ap (λ (l : List TextPiece). q ∷ l) (take_one n ps p at)

pub get_drop : (m n : ℕ) (ps : List TextPiece) → slice_get (drop m ps) n ≡ slice_get ps (m + n)
get_drop zero n ps = let e : n ≡ 0 + n = omega arith in ap (slice_get ps) e
get_drop (suc m) n [] = refl
get_drop (suc m) n (q ∷ ps) = let e : suc (m + n) ≡ suc m + n = omega arith in get_drop m n ps ∙ ap (slice_get (q ∷ ps)) e

-- one more piece
pub run_more : (pieces : List TextPiece) (a b : ℕ) (p : TextPiece) → a ≤ b → slice_get pieces b ≡ Some p → run_of pieces a (b + 1) ≡ run_of pieces a b ++ p ∷ []
run_more pieces a b p le at =
    let one : b + 1 - a ≡ suc (b - a) = omega arith in
    let there : a + (b - a) ≡ b = omega arith in
    ap (λ (n : ℕ). take n (drop a pieces)) one ∙ take_one (b - a) (drop a pieces) p (get_drop a (b - a) pieces ∙ ap (slice_get pieces) there ∙ at)

pub run_none : (pieces : List TextPiece) (a : ℕ) → run_of pieces a a ≡ []
run_none pieces a = let e : a - a ≡ 0 = omega arith in ap (λ (n : ℕ). take n (drop a pieces)) e

pub run_length : (pieces : List TextPiece) (a b : ℕ) → a ≤ b → b ≤ length pieces → length (run_of pieces a b) ≡ b - a
run_length pieces a b le within = length-take-le (b - a) (drop a pieces) (omega (arith, length-drop a pieces))

pub passes_start : (pieces : List TextPiece) (from : Place) (stop : ℕ) → from.piece ≤ length pieces → from.token ≤ from.piece
    → from.token ≤ stop → Passes pieces from stop from.piece from.token
passes_start pieces from stop within few ahead = record {
  on = omega arith;
  within = within;
  few = few;
  up = omega arith;
  below = ahead;
  same = λ edits none. ap (λ (l : List TextPiece). old_parts from.piece l
      ++ placed edits from.token from.piece (drop from.piece pieces)) (sym (run_none pieces from.piece));
}

pub passes_more : (pieces : List TextPiece) (from : Place) (stop i t : ℕ) (p : TextPiece) → slice_get pieces i ≡ Some p
    → i < length pieces → is_stop p.kind t stop ≡ false → Passes pieces from stop i t → Passes pieces from stop (i + 1) (id_after p.kind t)
passes_more pieces from stop i t p at less go h =
    let b = below_stop t stop p.kind go h.below in
    record {
      on = omega (arith, h.on);
      within = omega (arith, less);
      few = one_at_most p.kind t i h.few;
      up = omega (arith, h.up, b.0);
      below = b.1;
      same = λ edits none.
          let after : List Part = placed edits (id_after p.kind t) (i + 1) (drop (i + 1) pieces) in
          let stays : parts_at p.kind edits t i p ≡ old_part i p ∷ [] =
          piece_stays edits t i stop p.kind p go h.below (λ u le lt. none u (omega (arith, h.up, le)) lt) in
          let len : from.piece + length (run_of pieces from.piece i) ≡ i = omega (arith, run_length pieces from.piece i h.on h.within, h.on) in
          let longer : old_parts from.piece (run_of pieces from.piece (i + 1)) ≡ old_parts from.piece (run_of pieces from.piece i) ++ old_part i p ∷ [] =
          ap (old_parts from.piece) (run_more pieces from.piece i p h.on at) ∙ old_parts-append from.piece (run_of pieces from.piece i) (p ∷ [])
          ∙ ap (λ (m : ℕ). old_parts from.piece (run_of pieces from.piece i) ++ old_part m p ∷ []) len in
          h.same edits none
          ∙ ap (λ (l : List Part). old_parts from.piece (run_of pieces from.piece i) ++ l)
          (piece_here edits t i pieces p at ∙ ap (λ (l : List Part). l ++ after) stays)
          ∙ sym (append_assoc (old_parts from.piece (run_of pieces from.piece i)) (old_part i p ∷ []) after)
          ∙ ap (λ (l : List Part). l ++ after) (sym longer);
    }

-- a token at which to stop is a token
pub stop_word : (k : PieceKind) (t stop : ℕ) → is_stop k t stop ≡ true → is_word k ≡ true
stop_word (Word a id) t stop e = refl
stop_word Blank t stop e = absurd cc
stop_word Comment t stop e = absurd cc
stop_word Line t stop e = absurd cc

-- the ids

pub ids_more : (pieces : List TextPiece) (a b : ℕ) (p : TextPiece) (ids : List ℕ) → a ≤ b → slice_get pieces b ≡ Some p
    → (ids ++ ids_of (run_of pieces a b)) ++ id_before p.kind [] ≡ ids ++ ids_of (run_of pieces a (b + 1))
ids_more pieces a b p ids le at =
    append_assoc ids (ids_of (run_of pieces a b)) (id_before p.kind [])
    ∙ ap (λ (l : List ℕ). ids ++ l) (sym (ids_of-append (run_of pieces a b) (p ∷ [])) ∙ ap ids_of (sym (run_more pieces a b p le at)))

pub ids_start : (pieces : List TextPiece) (a : ℕ) (ids : List ℕ) → ids ≡ ids ++ ids_of (run_of pieces a a)
ids_start pieces a ids = sym (append-nil ids) ∙ ap (λ (l : List TextPiece). ids ++ ids_of l) (sym (run_none pieces a))

pub same_start : (d : Draft) → SameButIds d d
same_start d = record { bytes = refl; next = refl; left = refl }

pub same_more : (a b c : Draft) → SameButIds a b → SameButIds b c → SameButIds a c
same_more a b c h k = record { bytes = k.bytes ∙ h.bytes; next = k.next ∙ h.next; left = k.left ∙ h.left }

-- the piece with a number

pub get_there : (pieces : List TextPiece) (i : ℕ) → i < length pieces → (p : TextPiece) × (slice_get pieces i ≡ Some p)
get_there [] i less = absurd (omega arith)
get_there (q ∷ ps) zero less = (q, refl)
get_there (q ∷ ps) (suc i) less = get_there ps i (omega (arith, less))

-- the acts that are left

pub next_ahead : (ms : List Mark) (t : ℕ) → Ordered ms → From t ms → t ≤ 4294967295 → (t ≤ next_token ms) × From (next_token ms) ms
next_ahead [] t o up small = (small, λ x h. absurd h)
next_ahead (m ∷ ms) t o up small = (
  up m (inl refl),
  λ x h. elim h [
    | inl is ↦ subst (λ (y : Mark). m.token ≤ y.token) (sym is) (omega arith)
    | inr k ↦ elim (o.0 x k) [ inl less ↦ omega arith | inr both ↦ omega (arith, both.0) ]
  ],
)

module _ (edits : List Edit) (marks : List Mark) (at t : ℕ) (are : AreMarks edits marks) (h : Ahead edits marks at t) (small : t ≤ 4294967295) where
  pub stop_ahead : (t ≤ next_token (drop at marks)) × From (next_token (drop at marks)) (drop at marks)
  stop_ahead = next_ahead (drop at marks) t (Ordered-drop at marks (marks_ordered edits marks are)) h.ahead small

  pub untouched : Untouched edits t (next_token (drop at marks))
  untouched = λ u le less. sym (h.there u le) ∙ none_at u (drop at marks) (λ x k. let up = stop_ahead.1 x k in omega (arith, up, less))

  pub ahead_on : (u : ℕ) → t ≤ u → u ≤ next_token (drop at marks) → Ahead edits marks at u
  ahead_on u le less = record {
    within = h.within;
    ahead = λ x k. let up = stop_ahead.1 x k in omega (arith, up, less);
    there = λ v more. h.there v (omega (arith, le, more));
  }

-- a step of the loop

pub word_there : (pieces : List TextPiece) (i : ℕ) (k : PieceKind) (text : List ℕ) (p : TextPiece)
    → slice_get pieces i ≡ Some (record { kind = k; text = text }) → is_word k ≡ true → slice_get pieces i ≡ Some p → is_word p.kind ≡ true
word_there pieces i k text p is word at =
    let q : TextPiece = record { kind = k; text = text } in
    let both : Some p ≡ Some q = sym at ∙ is in
    let same : p ≡ q = cc in
    ap (λ (x : TextPiece). is_word x.kind) same ∙ word

pub word_beyond : (pieces : List TextPiece) (i : ℕ) (p : TextPiece) → length pieces ≤ i → slice_get pieces i ≡ Some p → is_word p.kind ≡ true
word_beyond [] i p le at = absurd cc
word_beyond (q ∷ ps) zero p le at = absurd (omega (arith, le))
word_beyond (q ∷ ps) (suc i) p le at = word_beyond ps i p (omega (arith, le)) at

pub next_pass : (pieces : List TextPiece) (from : Place) (stop i t next : ℕ) (k : PieceKind) (text : List ℕ)
    → slice_get pieces i ≡ Some (record { kind = k; text = text }) → i < length pieces
    → is_stop k t stop ≡ false → next ≡ id_after k t → Passes pieces from stop i t → Passes pieces from stop (i + 1) next
next_pass pieces from stop i t next k text at less go is h =
    subst (Passes pieces from stop (i + 1)) (sym is) (passes_more pieces from stop i t (record { kind = k; text = text }) at less go h)

pub next_ids : (pieces : List TextPiece) (a i : ℕ) (k : PieceKind) (text ids now new : List ℕ) → a ≤ i
    → slice_get pieces i ≡ Some (record { kind = k; text = text })
    → new ≡ now ++ id_before k [] → now ≡ ids ++ ids_of (run_of pieces a i) → new ≡ ids ++ ids_of (run_of pieces a (i + 1))
next_ids pieces a i k text ids now new le at is was =
    is ∙ ap (λ (l : List ℕ). l ++ id_before k []) was ∙ ids_more pieces a i (record { kind = k; text = text }) ids le at
