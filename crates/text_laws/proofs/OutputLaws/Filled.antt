-- Each token of a text that edits produce has at least one byte, so there are no more ids than bytes.
use Rattle.std.proofs.Common.{◌≡◌, ◌≤◌, ◌+◌, ℕ, Bool, true, false, sym, ap, subst, ◌∙◌, arith, List, [], ◌∷◌, ◌++◌, length}
use Rattle.std.proofs.Common.{length-append, map}
use Rattle.std.specs.Prelude.{Option, None, Some, not, nat_lt, IsSomeAnd}
use Rattle.std.proofs.lemmas.List.Sums.{length-filter, count_by-le-length}
use Rattle.c_terms.specs.declared.token.TokenKind.{TokenKind}
use Rattle.c_lexer.specs.declared.state.Kind.{Kind}
use Rattle.c_lexer.specs.declared.piece.PieceKind.{PieceKind}
use Rattle.c_lexer.specs.declared.piece.PieceKind.TheVariants.{Word, Blank, Comment, Line}
use Rattle.c_lexer.specs.Kinds.{kind_of}
use Rattle.c_lexer.specs.First.{IsFirst}
use Rattle.c_lexer.specs.Pieces.{TextPiece, text_of, kind_of_piece}
use Rattle.c_lexer.specs.Lexes.{Cuts, IsFirstPiece, id_after}
use Rattle.c_lexer.specs.Ids.{ids_of, id_before, kind_without_id}
use Rattle.edit_marks.specs.declared.edit_conflict.edit.Side.TheVariants.{Before, After}
use Rattle.edit_marks.specs.declared.edit_conflict.edit.Edit.{Edit}
use Rattle.edit_unparse.specs.Cutting.{cut, cut-lexes}
use Rattle.edit_unparse.specs.Output.{Part, Left, inserted, is_removed, new_part, new_parts, added, kept, parts_at, placed, left_of, gap}
use Rattle.edit_unparse.specs.Output.{with_next, next_after, spaced, output_of}
use Rattle.edit_unparse.proofs.WrittenLemmas.{text_of-append, ids_of-append, gap_ids}
use Rattle.edit_unparse.specs.NextId.{free_id}

-- a token's text is not empty
abbrev Filled : PieceKind → List ℕ → Type 0
Filled (Word k id) text = 1 ≤ length text
Filled Blank text = Unit {0}
Filled Comment text = Unit {0}
Filled Line text = Unit {0}

none_of : (o : Option Kind) (rest : List ℕ) → IsSomeAnd o (λ k. IsFirst k [] rest) → ⊥
none_of None rest h = h
none_of (Some k) rest h = let e : kind_of [] ≡ Some k = h.of_kind in absurd cc

word_filled : (k : TokenKind) (id : ℕ) (text rest : List ℕ) → IsFirstPiece (record { kind = Word k id; text = text }) rest → 1 ≤ length text
word_filled k id [] rest h = absurd (none_of (kind_of_piece (Word k id)) rest h)
word_filled k id (b ∷ bs) rest h = omega arith

piece_filled : (k : PieceKind) (text rest : List ℕ) → IsFirstPiece (record { kind = k; text = text }) rest → Filled k text
piece_filled (Word k id) text rest h = word_filled k id text rest h
piece_filled Blank text rest h = tt
piece_filled Comment text rest h = tt
piece_filled Line text rest h = tt

abbrev AreFilled : List Part → Type 0
AreFilled [] = Unit {0}
AreFilled (p ∷ parts) = Filled p.piece.kind p.piece.text × AreFilled parts

both : (xs ys : List Part) → AreFilled xs → AreFilled ys → AreFilled (xs ++ ys)
both [] ys h k = k
both (x ∷ xs) ys h k = (h.0, both xs ys h.1 k)

bare_filled : (k : PieceKind) (text : List ℕ) → Filled k text → Filled (kind_without_id k) text
bare_filled (Word k id) text h = h
bare_filled Blank text h = h
bare_filled Comment text h = h
bare_filled Line text h = h

new_filled : (pieces : List TextPiece) → Cuts pieces → AreFilled (map new_part pieces)
new_filled [] cuts = tt
new_filled (p ∷ pieces) cuts = (bare_filled p.kind p.text (piece_filled p.kind p.text (text_of pieces) cuts.0), new_filled pieces cuts.1)

added_filled : (texts : List (List ℕ)) → AreFilled (added texts)
added_filled [] = tt
added_filled (text ∷ texts) = both (new_parts text) (added texts) (new_filled (cut text) ((cut-lexes text).1.0)) (added_filled texts)

kept_filled : (b : Bool) (number : ℕ) (p : TextPiece) → Filled p.kind p.text → AreFilled (kept b number p)
kept_filled true number p h = tt
kept_filled false number p h = (h, tt)

at_filled : (k : PieceKind) (edits : List Edit) (token number : ℕ) (p : TextPiece) → Filled p.kind p.text → AreFilled (parts_at k edits token number p)
at_filled (Word k id) edits token number p h =
    both (added (inserted Before token edits)) (kept (is_removed token edits) number p ++ added (inserted After token edits))
    (added_filled (inserted Before token edits))
    (both (kept (is_removed token edits) number p) (added (inserted After token edits)) (kept_filled (is_removed token edits) number p h)
    (added_filled (inserted After token edits)))
at_filled Blank edits token number p h = (h, tt)
at_filled Comment edits token number p h = (h, tt)
at_filled Line edits token number p h = (h, tt)

placed_filled : (edits : List Edit) (token number : ℕ) (pieces : List TextPiece) → Cuts pieces → AreFilled (placed edits token number pieces)
placed_filled edits token number [] cuts = tt
placed_filled edits token number (p ∷ pieces) cuts =
    both (parts_at p.kind edits token number p) (placed edits (id_after p.kind token) (number + 1) pieces)
    (at_filled p.kind edits token number p (piece_filled p.kind p.text (text_of pieces) cuts.0))
    (placed_filled edits (id_after p.kind token) (number + 1) pieces cuts.1)

one_more : (from : Option ℕ) (n : ℕ) (k : PieceKind) (text ids rest : List ℕ) → Filled k text → length ids ≤ length rest
    → length (id_before (with_next from n k) ids) ≤ length (text ++ rest)
one_more (Some number) n (Word k id) text ids rest h le = omega (arith, le, h, length-append text rest)
one_more None n (Word k id) text ids rest h le = omega (arith, le, h, length-append text rest)
one_more (Some number) n Blank text ids rest h le = omega (arith, le, length-append text rest)
one_more (Some number) n Comment text ids rest h le = omega (arith, le, length-append text rest)
one_more (Some number) n Line text ids rest h le = omega (arith, le, length-append text rest)
one_more None n Blank text ids rest h le = omega (arith, le, length-append text rest)
one_more None n Comment text ids rest h le = omega (arith, le, length-append text rest)
one_more None n Line text ids rest h le = omega (arith, le, length-append text rest)

spaced_few : (left : Option Left) (n : ℕ) (parts : List Part) → AreFilled parts
    → length (ids_of (spaced left n parts)) ≤ length (text_of (spaced left n parts))
spaced_few left n [] h = omega arith
spaced_few left n (p ∷ parts) h =
    let rest = spaced (Some (left_of p)) (next_after p.from n p.piece.kind) parts in
    let own : TextPiece = record { kind = with_next p.from n p.piece.kind; text = p.piece.text } in
    let front = gap left p.from p.piece.text in
    let few : length (ids_of (own ∷ rest)) ≤ length (text_of (own ∷ rest)) =
    one_more p.from n p.piece.kind p.piece.text (ids_of rest) (text_of rest) h.0
    (spaced_few (Some (left_of p)) (next_after p.from n p.piece.kind) parts h.1) in
    let ids : ids_of (front ++ own ∷ rest) ≡ ids_of (own ∷ rest) =
    ids_of-append front (own ∷ rest) ∙ ap (λ (l : List ℕ). l ++ ids_of (own ∷ rest)) (gap_ids left p.from p.piece.text) in
    let text : text_of (front ++ own ∷ rest) ≡ text_of front ++ text_of (own ∷ rest) = text_of-append front (own ∷ rest) in
    let le : length (ids_of (own ∷ rest)) ≤ length (text_of front ++ text_of (own ∷ rest)) = omega
    (arith, few, length-append (text_of front) (text_of (own ∷ rest))) in
    subst (λ (l : List ℕ). length l ≤ length (text_of (front ++ own ∷ rest))) (sym ids)
    (subst (λ (l : List ℕ). length (ids_of (own ∷ rest)) ≤ length l) (sym text) le)

pub output_few : (pieces : List TextPiece) (edits : List Edit) (next : ℕ) → Cuts pieces
    → length (ids_of (output_of pieces edits next)) ≤ length (text_of (output_of pieces edits next))
output_few pieces edits next cuts = spaced_few None next (placed edits 0 0 pieces) (placed_filled edits 0 0 pieces cuts)

word_more : (k : PieceKind) (text ids rest : List ℕ) → Filled k text → length ids ≤ length rest → length (id_before k ids) ≤ length (text ++ rest)
word_more (Word k id) text ids rest h le = omega (arith, le, h, length-append text rest)
word_more Blank text ids rest h le = omega (arith, le, length-append text rest)
word_more Comment text ids rest h le = omega (arith, le, length-append text rest)
word_more Line text ids rest h le = omega (arith, le, length-append text rest)

pub pieces_few : (pieces : List TextPiece) → Cuts pieces → length (ids_of pieces) ≤ length (text_of pieces)
pieces_few [] cuts = omega arith
pieces_few (p ∷ pieces) cuts = word_more p.kind p.text (ids_of pieces) (text_of pieces) (piece_filled p.kind p.text (text_of pieces) cuts.0)
    (pieces_few pieces cuts.1)

pub fresh_few : (next : ℕ) (ids : List ℕ) → free_id next ids ≤ next + length ids
fresh_few next ids =
    let test = λ (id : ℕ). not (nat_lt id next) in
    omega (arith, length-filter test ids, count_by-le-length test ids)
