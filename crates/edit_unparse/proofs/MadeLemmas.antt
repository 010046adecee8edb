-- The parts that the code has made, with those still to come.
use Rattle.std.proofs.Common.{◌≡◌, ◌+◌, ◌==◌, ℕ, zero, suc, true, false, refl, sym, ap, ◌∙◌, arith, map}
use Rattle.std.proofs.Common.{List, [], ◌∷◌, ◌++◌, append_assoc, drop, filter, cond}
use Rattle.std.specs.Prelude.{Option, Some, None, slice_get, if◌then◌else◌}
use Rattle.std.proofs.lemmas.List.{append-nil, map-append}
use Rattle.c_lexer.specs.Pieces.{TextPiece}
use Rattle.edit_marks.specs.declared.edit_conflict.edit.Edit.{Edit}
use Rattle.edit_unparse.specs.declared.tidy.parts.Brace.{Brace}
use Rattle.edit_unparse.specs.declared.tidy.parts.TextPart.{TextPart}
use Rattle.edit_unparse.specs.declared.tidy.plan.Placed.{Placed}
use Rattle.edit_unparse.specs.Output.{Part, added, new_parts}
use Rattle.edit_unparse.specs.Written.{edit_text, option_list}
use Rattle.edit_unparse.specs.Tidy.Made.{part_in, parts_in, piece_or}
use Rattle.edit_unparse.specs.Tidy.Spots.{placed_texts}
use Rattle.edit_unparse.specs.Tidy.Text.{behind, braces_among}

pub added-append : (xs ys : List (List ℕ)) → added (xs ++ ys) ≡ added xs ++ added ys
added-append [] ys = refl
added-append (x ∷ xs) ys = ap (λ (l : List Part). new_parts x ++ l) (added-append xs ys) ∙ sym (append_assoc (new_parts x) (added xs) (added ys))

pub parts_in-append : (pieces : List TextPiece) (xs ys : List TextPart) → parts_in pieces (xs ++ ys) ≡ parts_in pieces xs ++ parts_in pieces ys
parts_in-append pieces xs ys = map-append (part_in pieces) xs ys

-- one more part
pub part_more : (pieces : List TextPiece) (old new : List TextPart) (x : TextPart) → new ≡ old ++ x ∷ []
    → parts_in pieces new ≡ parts_in pieces old ++ part_in pieces x ∷ []
part_more pieces old new x is = ap (parts_in pieces) is ∙ parts_in-append pieces old (x ∷ [])

-- some of what is to come
pub parts_more : (old new all own rest left : List Part) → new ≡ old ++ own → rest ≡ own ++ left → old ++ rest ≡ all → new ++ left ≡ all
parts_more old new all own rest left is split before =
    ap (λ (l : List Part). l ++ left) is ∙ append_assoc old own left ∙ ap (λ (l : List Part). old ++ l) (sym split) ∙ before

pub texts_more : (old new all : List Part) (own rest left : List (List ℕ)) → new ≡ old ++ added own → rest ≡ own ++ left
    → old ++ added rest ≡ all → new ++ added left ≡ all
texts_more old new all own rest left is split before =
    parts_more old new all (added own) (added rest) (added left) is (ap added split ∙ added-append own left) before

pub parts_end : (old all rest : List Part) → rest ≡ [] → old ++ rest ≡ all → old ≡ all
parts_end old all rest none before = sym (append-nil old) ∙ ap (λ (l : List Part). old ++ l) (sym none) ∙ before

-- of the braces at a place, one more
pub among_step : (b : Brace) (braces : List Brace) (count : ℕ)
    → braces_among (b ∷ braces) count ≡ (if b.inserts == count then b.text ∷ [] else []) ++ braces_among braces count
among_step b braces count = elim (b.inserts == count) as (λ x. map (λ (y : Brace). y.text)
    (cond x (b ∷ filter (λ y. y.inserts == count) braces) (filter (λ y. y.inserts == count) braces))
    ≡ (if x then b.text ∷ [] else []) ++ braces_among braces count) [ true ↦ refl | false ↦ refl ]

-- an insert without a text is none
pub no_text : (edits : List Edit) (braces : List Brace) (count : ℕ) (p : Placed) (rest : List Placed) → edit_text (slice_get edits p.edit) p.insert ≡ None
    → behind braces count (placed_texts edits rest) ≡ behind braces count (placed_texts edits (p ∷ rest))
no_text edits braces count p rest none =
    sym (ap (λ (o : Option (List ℕ)). behind braces count (option_list o ++ placed_texts edits rest)) none)

-- an insert, and the braces behind it
pub some_text : (edits : List Edit) (braces : List Brace) (count : ℕ) (p : Placed) (rest : List Placed) (text : List ℕ) (old one two : List Part)
    → edit_text (slice_get edits p.edit) p.insert ≡ Some text → one ≡ old ++ new_parts text → two ≡ one ++ added (braces_among braces (count + 1))
    → two ++ added (behind braces (count + 1) (placed_texts edits rest)) ≡ old ++ added (behind braces count (placed_texts edits (p ∷ rest)))
some_text edits braces count p rest text old one two some is_one is_two =
    let texts = behind braces (count + 1) (placed_texts edits rest) in
    let among = braces_among braces (count + 1) in
    ap (λ (l : List Part). l ++ added texts) (is_two ∙ ap (λ (l : List Part). l ++ added among) is_one)
    ∙ append_assoc (old ++ new_parts text) (added among) (added texts)
    ∙ append_assoc old (new_parts text) (added among ++ added texts)
    ∙ ap (λ (l : List Part). old ++ (new_parts text ++ l)) (sym (added-append among texts))
    ∙ sym (ap (λ (o : Option (List ℕ)). old ++ added (behind braces count (option_list o ++ placed_texts edits rest))) some)

-- the piece with a number
pub piece_at : (pieces : List TextPiece) (i : ℕ) (p : TextPiece) → slice_get pieces i ≡ Some p → piece_or pieces i ≡ p
piece_at [] i p at = absurd cc
piece_at (q ∷ pieces) zero p at = cc
piece_at (q ∷ pieces) (suc i) p at = piece_at pieces i p at

pub there : (pieces : List TextPiece) (i : ℕ) (p : TextPiece) → slice_get pieces i ≡ Some p → drop i pieces ≡ p ∷ drop (i + 1) pieces
there pieces i p at =
    let next : suc i ≡ i + 1 = omega arith in
    by pieces i at ∙ ap (λ (k : ℕ). p ∷ drop k pieces) next
  where
    by : (ps : List TextPiece) (k : ℕ) → slice_get ps k ≡ Some p → drop k ps ≡ p ∷ drop (suc k) ps
    by [] k is = absurd cc
    by (q ∷ ps) zero is = let same : q ≡ p = cc in ap (λ (x : TextPiece). x ∷ ps) same
    by (q ∷ ps) (suc k) is = by ps k is
