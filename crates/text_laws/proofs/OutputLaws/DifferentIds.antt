-- The ids of a text that edits produce differ, if those of the old text do.
use Rattle.std.proofs.Common.{◌≡◌, ◌<◌, ◌≤◌, ◌+◌, ℕ, Bool, true, false, refl, sym, ap, subst, ◌∙◌, arith, List, [], ◌∷◌, ◌++◌, length, map}
use Rattle.std.specs.Prelude.{Option, None, Some, All}
use Rattle.std.proofs.lemmas.List.Elements.{All-nil, All-cons, All-head, All-tail, All-weaker}
use Rattle.c_lexer.specs.declared.piece.PieceKind.{PieceKind}
use Rattle.c_lexer.specs.declared.piece.PieceKind.TheVariants.{Word, Blank, Comment, Line}
use Rattle.c_lexer.specs.Pieces.{TextPiece}
use Rattle.c_lexer.specs.Lexes.{id_after, HasId, Numbered, Lexes}
use Rattle.c_lexer.specs.Ids.{ids_of, id_before}
use Rattle.edit_marks.specs.declared.edit_conflict.edit.Side.TheVariants.{Before, After}
use Rattle.edit_marks.specs.declared.edit_conflict.edit.Edit.{Edit}
use Rattle.edit_unparse.specs.Cutting.{cut}
use Rattle.edit_unparse.specs.Output.{Part, Left, inserted, is_removed, new_part, new_parts, added, kept, parts_at, placed, left_of, gap}
use Rattle.edit_unparse.specs.Output.{with_next, next_after, spaced, output_of}
use Rattle.edit_unparse.proofs.WrittenLemmas.{ids_of-append, gap_ids}
use Rattle.text_laws.specs.OutputLaws.Differ.{AllDiffer}

-- ---- the ids of old tokens among parts

abbrev old_before : Option ℕ → PieceKind → List ℕ → List ℕ
old_before (Some number) k ids = id_before k ids
old_before None k ids = ids

abbrev old_ids : List Part → List ℕ
old_ids [] = []
old_ids (p ∷ parts) = old_before p.from p.piece.kind (old_ids parts)

old_front : (from : Option ℕ) (k : PieceKind) (xs ys : List ℕ) → old_before from k (xs ++ ys) ≡ old_before from k xs ++ ys
old_front None k xs ys = refl
old_front (Some number) (Word k id) xs ys = refl
old_front (Some number) Blank xs ys = refl
old_front (Some number) Comment xs ys = refl
old_front (Some number) Line xs ys = refl

old_both : (xs ys : List Part) → old_ids (xs ++ ys) ≡ old_ids xs ++ old_ids ys
old_both [] ys = refl
old_both (x ∷ xs) ys = ap (old_before x.from x.piece.kind) (old_both xs ys) ∙ old_front x.from x.piece.kind (old_ids xs) (old_ids ys)

new_none : (pieces : List TextPiece) → old_ids (map new_part pieces) ≡ []
new_none [] = refl
new_none (p ∷ pieces) = new_none pieces

added_none : (texts : List (List ℕ)) → old_ids (added texts) ≡ []
added_none [] = refl
added_none (text ∷ texts) = old_both (new_parts text) (added texts) ∙ (λ i. new_none (cut text) i ++ added_none texts i)

-- one piece of the old text has its own id, or none
abbrev IsPart : PieceKind → List ℕ → Type 1
IsPart k ids = (rest : List ℕ) → (P : List ℕ → Type 0) → P rest → P (id_before k rest) → P (ids ++ rest)

kept_is : (b : Bool) (number : ℕ) (p : TextPiece) → IsPart p.kind (old_ids (kept b number p))
kept_is true number p = λ rest P none one. none
kept_is false number p = λ rest P none one. subst P (old_front (Some number) p.kind [] rest) one

at_is : (k : PieceKind) (edits : List Edit) (token number : ℕ) (p : TextPiece) → p.kind ≡ k → IsPart p.kind (old_ids (parts_at k edits token number p))
at_is (Word k id) edits token number p e = λ rest P none one.
    let front : old_ids (parts_at (Word k id) edits token number p) ≡ old_ids (kept (is_removed token edits) number p) ++ [] =
    old_both (added (inserted Before token edits)) (kept (is_removed token edits) number p ++ added (inserted After token edits))
    ∙ (λ i. added_none (inserted Before token edits) i ++ old_both (kept (is_removed token edits) number p) (added (inserted After token edits)) i)
    ∙ (λ i. old_ids (kept (is_removed token edits) number p) ++ added_none (inserted After token edits) i) in
    subst (λ (l : List ℕ). P (l ++ rest)) (sym (front ∙ append_nil (old_ids (kept (is_removed token edits) number p))))
    (kept_is (is_removed token edits) number p rest P none one)
  where
    append_nil : (l : List ℕ) → l ++ [] ≡ l
    append_nil [] = refl
    append_nil (x ∷ l) = ap (λ (m : List ℕ). x ∷ m) (append_nil l)
at_is Blank edits token number p e = λ rest P none one. kept_is false number p rest P none one
at_is Comment edits token number p e = λ rest P none one. kept_is false number p rest P none one
at_is Line edits token number p e = λ rest P none one. kept_is false number p rest P none one

-- what holds of all ids of the old text holds of those that stay
before_all : (P : ℕ → Type 0) (k : PieceKind) (ids : List ℕ) → All P (id_before k ids) → All P ids
before_all P (Word k id) ids h = All-tail P id ids h
before_all P Blank ids h = h
before_all P Comment ids h = h
before_all P Line ids h = h

with_all : (P : ℕ → Type 0) (k : PieceKind) (ids rest : List ℕ) → All P (id_before k ids) → All P rest → All P (id_before k rest)
with_all P (Word k id) ids rest h g = All-cons P id rest (All-head P id ids h) g
with_all P Blank ids rest h g = g
with_all P Comment ids rest h g = g
with_all P Line ids rest h g = g

placed_all : (P : ℕ → Type 0) (edits : List Edit) (token number : ℕ) (pieces : List TextPiece) → All P (ids_of pieces)
    → All P (old_ids (placed edits token number pieces))
placed_all P edits token number [] h = All-nil P
placed_all P edits token number (p ∷ pieces) h =
    let more = placed edits (id_after p.kind token) (number + 1) pieces in
    let rest : All P (old_ids more) = placed_all P edits (id_after p.kind token) (number + 1) pieces (before_all P p.kind (ids_of pieces) h) in
    subst (All P) (sym (old_both (parts_at p.kind edits token number p) more))
    (at_is p.kind edits token number p refl (old_ids more) (All P) rest (with_all P p.kind (ids_of pieces) (old_ids more) h rest))

before_apart : (k : PieceKind) (ids : List ℕ) → AllDiffer (id_before k ids) → AllDiffer ids
before_apart (Word k id) ids h = h.1
before_apart Blank ids h = h
before_apart Comment ids h = h
before_apart Line ids h = h

with_apart : (k : PieceKind) (ids rest : List ℕ) → AllDiffer (id_before k ids) → ((P : ℕ → Type 0) → All P ids → All P rest) → AllDiffer rest
    → AllDiffer (id_before k rest)
with_apart (Word k id) ids rest h from g = (from (λ other. id ≡ other → ⊥) h.0, g)
with_apart Blank ids rest h from g = g
with_apart Comment ids rest h from g = g
with_apart Line ids rest h from g = g

placed_apart : (edits : List Edit) (token number : ℕ) (pieces : List TextPiece) → AllDiffer (ids_of pieces)
    → AllDiffer (old_ids (placed edits token number pieces))
placed_apart edits token number [] h = tt
placed_apart edits token number (p ∷ pieces) h =
    let more = placed edits (id_after p.kind token) (number + 1) pieces in
    let rest : AllDiffer (old_ids more) = placed_apart edits (id_after p.kind token) (number + 1) pieces (before_apart p.kind (ids_of pieces) h) in
    subst AllDiffer (sym (old_both (parts_at p.kind edits token number p) more))
    (at_is p.kind edits token number p refl (old_ids more) AllDiffer rest
    (with_apart p.kind (ids_of pieces) (old_ids more) h (λ P all. placed_all P edits (id_after p.kind token) (number + 1) pieces all) rest))

-- ---- all ids of the new text

module _ (base : ℕ) where
  up : (from : Option ℕ) (k : PieceKind) (n : ℕ) → base ≤ n → base ≤ next_after from n k
  up (Some number) k n le = le
  up None (Word k id) n le = omega (arith, le)
  up None Blank n le = le
  up None Comment n le = le
  up None Line n le = le

  up_next : (from : Option ℕ) (k : PieceKind) (n : ℕ) → n ≤ next_after from n k
  up_next (Some number) k n = omega arith
  up_next None (Word k id) n = omega arith
  up_next None Blank n = omega arith
  up_next None Comment n = omega arith
  up_next None Line n = omega arith

  head_all : (P : ℕ → Type 0) (from : Option ℕ) (k : PieceKind) (n : ℕ) (olds rest : List ℕ) → All P (old_before from k olds) → ((m : ℕ) → n ≤ m → P m)
      → All P rest → All P (id_before (with_next from n k) rest)
  head_all P (Some number) (Word k id) n olds rest h f g = All-cons P id rest (All-head P id olds h) g
  head_all P (Some number) Blank n olds rest h f g = g
  head_all P (Some number) Comment n olds rest h f g = g
  head_all P (Some number) Line n olds rest h f g = g
  head_all P None (Word k id) n olds rest h f g = All-cons P n rest (f n (omega arith)) g
  head_all P None Blank n olds rest h f g = g
  head_all P None Comment n olds rest h f g = g
  head_all P None Line n olds rest h f g = g

  later_all : (P : ℕ → Type 0) (from : Option ℕ) (k : PieceKind) (olds : List ℕ) → All P (old_before from k olds) → All P olds
  later_all P None k olds h = h
  later_all P (Some number) k olds h = before_all P k olds h

  -- each is one of the old ids, or not below the next one
  spaced_all : (P : ℕ → Type 0) (left : Option Left) (n : ℕ) (parts : List Part) → All P (old_ids parts) → ((m : ℕ) → n ≤ m → P m)
      → All P (ids_of (spaced left n parts))
  spaced_all P left n [] h f = All-nil P
  spaced_all P left n (p ∷ parts) h f =
      let rest = spaced (Some (left_of p)) (next_after p.from n p.piece.kind) parts in
      let own : TextPiece = record { kind = with_next p.from n p.piece.kind; text = p.piece.text } in
      let front = gap left p.from p.piece.text in
      let same : ids_of (front ++ own ∷ rest) ≡ ids_of (own ∷ rest) =
      ids_of-append front (own ∷ rest) ∙ ap (λ (l : List ℕ). l ++ ids_of (own ∷ rest)) (gap_ids left p.from p.piece.text) in
      let le : n ≤ next_after p.from n p.piece.kind = up_next p.from p.piece.kind n in
      subst (All P) (sym same)
      (head_all P p.from p.piece.kind n (old_ids parts) (ids_of rest) h f
      (spaced_all P (Some (left_of p)) (next_after p.from n p.piece.kind) parts (later_all P p.from p.piece.kind (old_ids parts) h)
      (λ m low. f m (omega (arith, le, low)))))

  head_apart : (from : Option ℕ) (k : PieceKind) (n : ℕ) (olds rest : List ℕ) → base ≤ n → AllDiffer (old_before from k olds)
      → All (λ id. id < base) (old_before from k olds)
      → ((P : ℕ → Type 0) → All P olds → ((m : ℕ) → next_after from n k ≤ m → P m) → All P rest) → AllDiffer rest
      → AllDiffer (id_before (with_next from n k) rest)
  head_apart (Some number) (Word k id) n olds rest le h low from g =
      let less : id < base = All-head (λ (x : ℕ). x < base) id olds low in
      (from (λ other. id ≡ other → ⊥) h.0 (λ m up same. absurd (omega (arith, le, less, up, same))), g)
  head_apart (Some number) Blank n olds rest le h low from g = g
  head_apart (Some number) Comment n olds rest le h low from g = g
  head_apart (Some number) Line n olds rest le h low from g = g
  head_apart None (Word k id) n olds rest le h low from g = (
    from (λ other. n ≡ other → ⊥) (All-weaker (λ x. x < base) (λ other. n ≡ other → ⊥) (λ x less same. absurd (omega (arith, le, less, same))) olds low)
        (λ m up same. absurd (omega (arith, up, same))),
    g,
  )
  head_apart None Blank n olds rest le h low from g = g
  head_apart None Comment n olds rest le h low from g = g
  head_apart None Line n olds rest le h low from g = g

  later_apart : (from : Option ℕ) (k : PieceKind) (olds : List ℕ) → AllDiffer (old_before from k olds) → AllDiffer olds
  later_apart None k olds h = h
  later_apart (Some number) k olds h = before_apart k olds h

  spaced_apart : (left : Option Left) (n : ℕ) (parts : List Part) → base ≤ n → AllDiffer (old_ids parts) → All (λ id. id < base) (old_ids parts)
      → AllDiffer (ids_of (spaced left n parts))
  spaced_apart left n [] le h low = tt
  spaced_apart left n (p ∷ parts) le h low =
      let rest = spaced (Some (left_of p)) (next_after p.from n p.piece.kind) parts in
      let own : TextPiece = record { kind = with_next p.from n p.piece.kind; text = p.piece.text } in
      let front = gap left p.from p.piece.text in
      let same : ids_of (front ++ own ∷ rest) ≡ ids_of (own ∷ rest) =
      ids_of-append front (own ∷ rest) ∙ ap (λ (l : List ℕ). l ++ ids_of (own ∷ rest)) (gap_ids left p.from p.piece.text) in
      subst AllDiffer (sym same)
      (head_apart p.from p.piece.kind n (old_ids parts) (ids_of rest) le h low
      (λ P all f. spaced_all P (Some (left_of p)) (next_after p.from n p.piece.kind) parts all f)
      (spaced_apart (Some (left_of p)) (next_after p.from n p.piece.kind) parts (up p.from p.piece.kind n le)
      (later_apart p.from p.piece.kind (old_ids parts) h)
      (later_all (λ id. id < base) p.from p.piece.kind (old_ids parts) low)))

pub output_apart : (pieces : List TextPiece) (edits : List Edit) (next : ℕ) → AllDiffer (ids_of pieces) → All (λ id. id < next) (ids_of pieces)
    → AllDiffer (ids_of (output_of pieces edits next))
output_apart pieces edits next h low =
    spaced_apart next None next (placed edits 0 0 pieces) (omega arith) (placed_apart edits 0 0 pieces h) (placed_all (λ id. id < next) edits 0 0 pieces low)

-- ---- the ids of a text that is read for the first time

first_up : (k : PieceKind) (n : ℕ) (rest : List ℕ) → HasId k n → All (λ id. id_after k n ≤ id) rest → All (λ id. n ≤ id) (id_before k rest)
first_up (Word k id) n rest h g =
    All-cons (λ x. n ≤ x) id rest (omega (arith, h)) (All-weaker (λ x. n + 1 ≤ x) (λ x. n ≤ x) (λ x le. omega (arith, le)) rest g)
first_up Blank n rest h g = g
first_up Comment n rest h g = g
first_up Line n rest h g = g

numbered_up : (n : ℕ) (pieces : List TextPiece) → Numbered n pieces → All (λ id. n ≤ id) (ids_of pieces)
numbered_up n [] h = All-nil (λ id. n ≤ id)
numbered_up n (p ∷ pieces) h = first_up p.kind n (ids_of pieces) h.0 (numbered_up (id_after p.kind n) pieces h.1)

first_apart : (k : PieceKind) (n : ℕ) (rest : List ℕ) → HasId k n → All (λ id. id_after k n ≤ id) rest → AllDiffer rest → AllDiffer (id_before k rest)
first_apart (Word k id) n rest h low g = (
  All-weaker (λ x. n + 1 ≤ x) (λ other. id ≡ other → ⊥)
      (λ x le same. absurd (omega (arith, h, le, same))) rest low,
  g,
)
first_apart Blank n rest h low g = g
first_apart Comment n rest h low g = g
first_apart Line n rest h low g = g

numbered_apart : (n : ℕ) (pieces : List TextPiece) → Numbered n pieces → AllDiffer (ids_of pieces)
numbered_apart n [] h = tt
numbered_apart n (p ∷ pieces) h = first_apart p.kind n (ids_of pieces) h.0 (numbered_up (id_after p.kind n) pieces h.1)
    (numbered_apart (id_after p.kind n) pieces h.1)

first_below : (k : PieceKind) (n : ℕ) (rest : List ℕ) → HasId k n → All (λ id. id < id_after k n + length rest) rest
    → All (λ id. id < n + length (id_before k rest)) (id_before k rest)
first_below (Word k id) n rest h g =
    All-cons (λ x. x < n + length (id ∷ rest)) id rest (omega (arith, h))
    (All-weaker (λ x. x < n + 1 + length rest) (λ x. x < n + length (id ∷ rest)) (λ x less. omega (arith, less)) rest g)
first_below Blank n rest h g = g
first_below Comment n rest h g = g
first_below Line n rest h g = g

numbered_below : (n : ℕ) (pieces : List TextPiece) → Numbered n pieces → All (λ id. id < n + length (ids_of pieces)) (ids_of pieces)
numbered_below n [] h = All-nil (λ (id : ℕ). id < n + 0)
numbered_below n (p ∷ pieces) h = first_below p.kind n (ids_of pieces) h.0 (numbered_below (id_after p.kind n) pieces h.1)

pub first_ids_apart : (bytes : List ℕ) (pieces : List TextPiece) → Lexes bytes pieces → AllDiffer (ids_of pieces)
first_ids_apart bytes pieces h = numbered_apart 0 pieces h.1.1

pub first_ids_below : (bytes : List ℕ) (pieces : List TextPiece) → Lexes bytes pieces → All (λ id. id < length (ids_of pieces)) (ids_of pieces)
first_ids_below bytes pieces h =
    let same : 0 + length (ids_of pieces) ≡ length (ids_of pieces) = omega arith in
    subst (λ (n : ℕ). All (λ id. id < n) (ids_of pieces)) same (numbered_below 0 pieces h.1.1)
