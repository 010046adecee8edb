-- The ids of added tokens count up from the next one.
use Rattle.std.proofs.Common.{◌≡◌, ◌<◌, ◌≤◌, ◌+◌, ℕ, suc, Bool, true, false, not, cond, refl, sym, ap, subst, ◌∙◌, arith, List, [], ◌∷◌, ◌++◌, length, map}
use Rattle.std.specs.Prelude.{Option, None, Some, All, nat_lt}
use Rattle.std.specs.List.{filter}
use Rattle.std.proofs.lemmas.List.Elements.{All-nil, All-cons, All-head, All-tail}
use Rattle.std.proofs.lemmas.Bool.Decides.{Decides-ltb}
use Rattle.c_lexer.specs.declared.piece.PieceKind.{PieceKind}
use Rattle.c_lexer.specs.declared.piece.PieceKind.TheVariants.{Word, Blank, Comment, Line}
use Rattle.c_lexer.specs.Pieces.{TextPiece}
use Rattle.c_lexer.specs.Lexes.{id_after}
use Rattle.c_lexer.specs.Ids.{ids_of, id_before}
use Rattle.edit_marks.specs.declared.edit_conflict.edit.Side.TheVariants.{Before, After}
use Rattle.edit_marks.specs.declared.edit_conflict.edit.Edit.{Edit}
use Rattle.edit_unparse.specs.Cutting.{cut}
use Rattle.edit_unparse.specs.Output.{Part, Left, inserted, is_removed, new_part, new_parts, added, kept, parts_at}
use Rattle.edit_unparse.specs.Output.{placed, left_of, gap, with_next, next_after, spaced, output_of}
use Rattle.edit_unparse.specs.NextId.{free_id}
use Rattle.edit_unparse.proofs.WrittenLemmas.{ids_of-append, gap_ids}

module _ (base : ℕ) where
  abbrev news : List ℕ → ℕ
  news ids = length (filter (λ id. not (nat_lt id base)) ids)

  -- each id is below n plus the number of ids that are not below base
  abbrev Within : ℕ → List ℕ → Type 0
  Within n ids = All (λ id. id < n + news ids) ids

  old_news : (id : ℕ) (ids : List ℕ) → id < base → news (id ∷ ids) ≡ news ids
  old_news id ids h =
      let below : nat_lt id base ≡ true = (Decides-ltb id base).1 h in
      ap (λ (b : Bool). length (cond (not b) (id ∷ filter (λ k. not (nat_lt k base)) ids) (filter (λ k. not (nat_lt k base)) ids))) below

  not_below : (id : ℕ) (b : Bool) → nat_lt id base ≡ b → base ≤ id → b ≡ false
  not_below id true e h = let less : id < base = (Decides-ltb id base).0 e in absurd (omega (arith, less, h))
  not_below id false e h = refl

  new_news : (id : ℕ) (ids : List ℕ) → base ≤ id → news (id ∷ ids) ≡ suc (news ids)
  new_news id ids h =
      let above : nat_lt id base ≡ false = not_below id (nat_lt id base) refl h in
      ap (λ (b : Bool). length (cond (not b) (id ∷ filter (λ k. not (nat_lt k base)) ids) (filter (λ k. not (nat_lt k base)) ids))) above

  -- a token of the old text has an id below base
  abbrev IsOld : Option ℕ → PieceKind → Type 0
  IsOld None kind = Unit {0}
  IsOld (Some number) (Word kind id) = id < base
  IsOld (Some number) Blank = Unit {0}
  IsOld (Some number) Comment = Unit {0}
  IsOld (Some number) Line = Unit {0}

  abbrev AreOld : List Part → Type 0
  AreOld [] = Unit {0}
  AreOld (p ∷ parts) = IsOld p.from p.piece.kind × AreOld parts

  one_more : (from : Option ℕ) (kind : PieceKind) (n : ℕ) (rest : List ℕ) → base ≤ n → IsOld from kind → Within (next_after from n kind) rest
      → Within n (id_before (with_next from n kind) rest)
  one_more (Some number) (Word k id) n rest le old h =
      let same : news (id ∷ rest) ≡ news rest = old_news id rest old in
      subst (λ (m : ℕ). All (λ x. x < n + m) (id ∷ rest)) (sym same) (All-cons (λ x. x < n + news rest) id rest (omega (arith, le, old)) h)
  one_more (Some number) Blank n rest le old h = h
  one_more (Some number) Comment n rest le old h = h
  one_more (Some number) Line n rest le old h = h
  one_more None (Word k id) n rest le old h =
      let one : news (n ∷ rest) ≡ suc (news rest) = new_news n rest le in
      let same : n + 1 + news rest ≡ n + suc (news rest) = omega arith in
      subst (λ (m : ℕ). All (λ x. x < n + m) (n ∷ rest)) (sym one)
      (All-cons (λ x. x < n + suc (news rest)) n rest (omega arith) (subst (λ (m : ℕ). All (λ x. x < m) rest) same h))
  one_more None Blank n rest le old h = h
  one_more None Comment n rest le old h = h
  one_more None Line n rest le old h = h

  next_up : (from : Option ℕ) (kind : PieceKind) (n : ℕ) → base ≤ n → base ≤ next_after from n kind
  next_up (Some number) kind n le = le
  next_up None (Word k id) n le = omega (arith, le)
  next_up None Blank n le = le
  next_up None Comment n le = le
  next_up None Line n le = le

  spaced_within : (left : Option Left) (n : ℕ) (parts : List Part) → base ≤ n → AreOld parts → Within n (ids_of (spaced left n parts))
  spaced_within left n [] le old = All-nil (λ (id : ℕ). id < n + 0)
  spaced_within left n (p ∷ parts) le old =
      let rest = spaced (Some (left_of p)) (next_after p.from n p.piece.kind) parts in
      let own : TextPiece = record { kind = with_next p.from n p.piece.kind; text = p.piece.text } in
      let front = gap left p.from p.piece.text in
      let same : ids_of (front ++ own ∷ rest) ≡ ids_of (own ∷ rest) =
      ids_of-append front (own ∷ rest) ∙ ap (λ (l : List ℕ). l ++ ids_of (own ∷ rest)) (gap_ids left p.from p.piece.text) in
      subst (Within n) (sym same)
      (one_more p.from p.piece.kind n (ids_of rest) le old.0
      (spaced_within (Some (left_of p)) (next_after p.from n p.piece.kind) parts (next_up p.from p.piece.kind n le) old.1))

  -- ---- the parts of a text whose ids are below base

  both_old : (a b : List Part) → AreOld a → AreOld b → AreOld (a ++ b)
  both_old [] b h k = k
  both_old (p ∷ a) b h k = (h.0, both_old a b h.1 k)

  cut_old : (pieces : List TextPiece) → AreOld (map new_part pieces)
  cut_old [] = tt
  cut_old (p ∷ pieces) = (tt, cut_old pieces)

  added_old : (texts : List (List ℕ)) → AreOld (added texts)
  added_old [] = tt
  added_old (text ∷ texts) = both_old (new_parts text) (added texts) (cut_old (cut text)) (added_old texts)

  kept_old : (b : Bool) (number : ℕ) (p : TextPiece) → IsOld (Some number) p.kind → AreOld (kept b number p)
  kept_old true number p h = tt
  kept_old false number p h = (h, tt)

  at_old : (kind : PieceKind) (edits : List Edit) (token number : ℕ) (p : TextPiece) → IsOld (Some number) p.kind → AreOld (parts_at kind edits token number p)
  at_old (Word k id) edits token number p h =
      both_old (added (inserted Before token edits)) (kept (is_removed token edits) number p ++ added (inserted After token edits))
      (added_old (inserted Before token edits))
      (both_old (kept (is_removed token edits) number p) (added (inserted After token edits))
      (kept_old (is_removed token edits) number p h) (added_old (inserted After token edits)))
  at_old Blank edits token number p h = (h, tt)
  at_old Comment edits token number p h = (h, tt)
  at_old Line edits token number p h = (h, tt)

  first_old : (kind : PieceKind) (number : ℕ) (ids : List ℕ) → All (λ id. id < base) (id_before kind ids) → IsOld (Some number) kind × All (λ id. id < base) ids
  first_old (Word k id) number ids h = (All-head (λ x. x < base) id ids h, All-tail (λ x. x < base) id ids h)
  first_old Blank number ids h = (tt, h)
  first_old Comment number ids h = (tt, h)
  first_old Line number ids h = (tt, h)

  placed_old : (edits : List Edit) (token number : ℕ) (pieces : List TextPiece) → All (λ id. id < base) (ids_of pieces)
      → AreOld (placed edits token number pieces)
  placed_old edits token number [] h = tt
  placed_old edits token number (p ∷ pieces) h =
      let first = first_old p.kind number (ids_of pieces) h in
      both_old (parts_at p.kind edits token number p) (placed edits (id_after p.kind token) (number + 1) pieces)
      (at_old p.kind edits token number p first.0) (placed_old edits (id_after p.kind token) (number + 1) pieces first.1)

-- all ids of the new text are below the next one after it
pub ids_below : (pieces : List TextPiece) (edits : List Edit) (next : ℕ) → All (λ id. id < next) (ids_of pieces)
    → All (λ id. id < free_id next (ids_of (output_of pieces edits next))) (ids_of (output_of pieces edits next))
ids_below pieces edits next h = spaced_within next None next (placed edits 0 0 pieces) (omega arith) (placed_old next edits 0 0 pieces h)
