-- Ids stay below the next one.
use Rattle.std.proofs.Common.{◌≡◌, ◌<◌, ◌≤◌, ◌+◌, ℕ, suc, Bool, true, false, not, nat_lt, cond, if◌then◌else◌, Option, Some}
use Rattle.std.proofs.Common.{None, refl, sym, ap, subst, arith, List, [], ◌∷◌, ◌++◌, length, map}
use Rattle.std.specs.Prelude.{All}
use Rattle.std.specs.List.{filter, AllByRecursion}
use Rattle.std.proofs.lemmas.Bool.Decides.{nat_tests}
use Rattle.std.proofs.lemmas.List.Elements.{All-from_recursion, All-head, All-tail}
use Rattle.c_lexer.specs.Pieces.{TextPiece}
use Rattle.c_lexer.specs.declared.piece.PieceKind.{PieceKind}
use Rattle.c_lexer.specs.declared.piece.PieceKind.TheVariants.{Word, Blank, Comment, Line}
use Rattle.c_lexer.specs.Lexes.{id_after}
use Rattle.c_lexer.specs.Ids.{ids_of, id_before}
use Rattle.edit_marks.specs.declared.edit_conflict.edit.Side.TheVariants.{Before, After}
use Rattle.edit_marks.specs.declared.edit_conflict.edit.Edit.{Edit}
use Rattle.edit_unparse.specs.Cutting.{cut}
use Rattle.edit_unparse.specs.Output.{Part, Left, inserted, is_removed, new_part, new_parts, added, old_part, kept, token_parts}
use Rattle.edit_unparse.specs.Output.{parts_at, placed, gap, needs_space, space, left_of, with_next, spaced, output_of}
use Rattle.edit_unparse.specs.Output as out
use Rattle.rule_chain.specs.RuleEdits.Pages.{page_of, page_after, old_page, is_edited}

abbrev Below : ℕ → List ℕ → Type 0
Below n ids = AllByRecursion (λ id. id < n) ids

abbrev pub count : ℕ → List ℕ → ℕ
count next ids = length (filter (λ id. not (nat_lt id next)) ids)

-- ---- the old parts

abbrev pub OneBelow : ℕ → Option ℕ → PieceKind → Type 0
OneBelow next None kind = Unit {0}
OneBelow next (Some number) (Word kind id) = id < next
OneBelow next (Some number) Blank = Unit {0}
OneBelow next (Some number) Comment = Unit {0}
OneBelow next (Some number) Line = Unit {0}

abbrev pub OldBelow : ℕ → List Part → Type 0
OldBelow next [] = Unit {0}
OldBelow next (p ∷ ps) = OneBelow next p.from p.piece.kind × OldBelow next ps

pub old-append : (next : ℕ) (ps qs : List Part) → OldBelow next ps → OldBelow next qs → OldBelow next (ps ++ qs)
old-append next [] qs h k = k
old-append next (p ∷ ps) qs h k = (h.0, old-append next ps qs h.1 k)

old-new : (next : ℕ) (ps : List TextPiece) → OldBelow next (map new_part ps)
old-new next [] = tt
old-new next (p ∷ ps) = (tt, old-new next ps)

pub old-added : (next : ℕ) (texts : List (List ℕ)) → OldBelow next (added texts)
old-added next [] = tt
old-added next (text ∷ texts) = old-append next (new_parts text) (added texts) (old-new next (cut text)) (old-added next texts)

pub old-kept : (next number : ℕ) (removed : Bool) (p : TextPiece) → OneBelow next (Some number) p.kind → OldBelow next (kept removed number p)
old-kept next number true p h = tt
old-kept next number false p h = (h, tt)

old-token : (next : ℕ) (edits : List Edit) (token number : ℕ) (p : TextPiece) → OneBelow next (Some number) p.kind
    → OldBelow next (token_parts edits token number p)
old-token next edits token number p h =
    old-append next (added (inserted Before token edits)) (kept (is_removed token edits) number p ++ added (inserted After token edits))
    (old-added next (inserted Before token edits))
    (old-append next (kept (is_removed token edits) number p) (added (inserted After token edits))
    (old-kept next number (is_removed token edits) p h) (old-added next (inserted After token edits)))

old-at : (next : ℕ) (kind : PieceKind) (edits : List Edit) (token number : ℕ) (p : TextPiece) → OneBelow next (Some number) p.kind
    → OldBelow next (parts_at kind edits token number p)
old-at next (Word k id) edits token number p h = old-token next edits token number p h
old-at next Blank edits token number p h = (h, tt)
old-at next Comment edits token number p h = (h, tt)
old-at next Line edits token number p h = (h, tt)

pub one-below : (next number : ℕ) (kind : PieceKind) (ids : List ℕ) → All (λ id. id < next) (id_before kind ids) → OneBelow next (Some number) kind
one-below next number (Word k id) ids h = All-head (λ i. i < next) id ids h
one-below next number Blank ids h = tt
one-below next number Comment ids h = tt
one-below next number Line ids h = tt

pub rest-below : (next : ℕ) (kind : PieceKind) (ids : List ℕ) → All (λ id. id < next) (id_before kind ids) → All (λ id. id < next) ids
rest-below next (Word k id) ids h = All-tail (λ i. i < next) id ids h
rest-below next Blank ids h = h
rest-below next Comment ids h = h
rest-below next Line ids h = h

old-placed : (next : ℕ) (edits : List Edit) (token number : ℕ) (pieces : List TextPiece) → All (λ id. id < next) (ids_of pieces)
    → OldBelow next (placed edits token number pieces)
old-placed next edits token number [] h = tt
old-placed next edits token number (p ∷ ps) h =
    old-append next (parts_at p.kind edits token number p) (placed edits (id_after p.kind token) (number + 1) ps)
    (old-at next p.kind edits token number p (one-below next number p.kind (ids_of ps) h))
    (old-placed next edits (id_after p.kind token) (number + 1) ps (rest-below next p.kind (ids_of ps) h))

-- ---- the parts with their ids

no_gap : (b : Bool) (ps : List TextPiece) → ids_of ((if b then space ∷ [] else []) ++ ps) ≡ ids_of ps
no_gap true ps = refl
no_gap false ps = refl

gap-ids : (left : Option Left) (from : Option ℕ) (text : List ℕ) (ps : List TextPiece) → ids_of (gap left from text ++ ps) ≡ ids_of ps
gap-ids None from text ps = refl
gap-ids (Some l) from text ps = no_gap (needs_space l from text) ps

abbrev own_piece : ℕ → Part → TextPiece
own_piece m p = record { kind = with_next p.from m p.piece.kind; text = p.piece.text }

-- an old id isn't counted, and a new one is
old-step : (next m id : ℕ) (ids : List ℕ) → id < next → next ≤ m → Below (m + count next ids) ids
    → Below (m + count next (id ∷ ids)) (id ∷ ids)
old-step next m id ids lt le h =
    let t : nat_lt id next ≡ true = grind (arith, nat_tests) in
    let c : count next (id ∷ ids) ≡ count next ids =
    ap (λ b. length (cond (not b) (id ∷ filter (λ i. not (nat_lt i next)) ids) (filter (λ i. not (nat_lt i next)) ids))) t in
    subst (λ (n : ℕ). Below (m + n) (id ∷ ids)) (sym c) (omega arith, h)

new-step : (next m : ℕ) (ids : List ℕ) → next ≤ m → Below ((m + 1) + count next ids) ids → Below (m + count next (m ∷ ids)) (m ∷ ids)
new-step next m ids le h =
    let t : nat_lt m next ≡ false = grind (arith, nat_tests) in
    let c : count next (m ∷ ids) ≡ suc (count next ids) =
    ap (λ b. length (cond (not b) (m ∷ filter (λ i. not (nat_lt i next)) ids) (filter (λ i. not (nat_lt i next)) ids))) t in
    let e : (m + 1) + count next ids ≡ m + suc (count next ids) = omega arith in
    subst (λ (n : ℕ). Below (m + n) (m ∷ ids)) (sym c) (omega arith, subst (λ (n : ℕ). Below n ids) e h)

step : (next m : ℕ) (from : Option ℕ) (kind : PieceKind) (parts : List Part) (l : Option Left) → next ≤ m → OneBelow next from kind
    → ((k : ℕ) → next ≤ k → Below (k + count next (ids_of (spaced l k parts))) (ids_of (spaced l k parts)))
    → Below (m + count next (id_before (with_next from m kind) (ids_of (spaced l (out.next_after from m kind) parts))))
    (id_before (with_next from m kind) (ids_of (spaced l (out.next_after from m kind) parts)))
step next m None (Word k id) parts l le one rest = new-step next m (ids_of (spaced l (m + 1) parts)) le (rest (m + 1) (omega arith))
step next m None Blank parts l le one rest = rest m le
step next m None Comment parts l le one rest = rest m le
step next m None Line parts l le one rest = rest m le
step next m (Some number) (Word k id) parts l le one rest = old-step next m id (ids_of (spaced l m parts)) one le (rest m le)
step next m (Some number) Blank parts l le one rest = rest m le
step next m (Some number) Comment parts l le one rest = rest m le
step next m (Some number) Line parts l le one rest = rest m le

spaced-below : (next m : ℕ) (left : Option Left) (parts : List Part) → next ≤ m → OldBelow next parts
    → Below (m + count next (ids_of (spaced left m parts))) (ids_of (spaced left m parts))
spaced-below next m left [] le old = tt
spaced-below next m left (p ∷ ps) le old =
    subst (λ ids. Below (m + count next ids) ids)
    (sym (gap-ids left p.from p.piece.text (own_piece m p ∷ spaced (Some (left_of p)) (out.next_after p.from m p.piece.kind) ps)))
    (step next m p.from p.piece.kind ps (Some (left_of p)) le old.0 (λ k lt. spaced-below next k (Some (left_of p)) ps lt old.1))

-- the ids of a text that parts make
pub spaced_below : (next : ℕ) (parts : List Part) → OldBelow next parts
    → All (λ id. id < next + count next (ids_of (spaced None next parts))) (ids_of (spaced None next parts))
spaced_below next parts old = All-from_recursion (λ id. id < next + count next (ids_of (spaced None next parts))) (ids_of (spaced None next parts))
    (spaced-below next next None parts (omega arith) old)

-- ---- pages

pub page_below : (next : ℕ) (pieces : List TextPiece) (edits : List Edit) → All (λ id. id < next) (ids_of pieces)
    → All (λ id. id < (page_after next pieces edits).next) (page_after next pieces edits).ids
page_below next pieces edits h =
    elim (is_edited edits) as (λ b. All (λ id. id < (cond b (page_of next (output_of pieces edits next)) (old_page next pieces)).next)
    (cond b (page_of next (output_of pieces edits next)) (old_page next pieces)).ids) [
      | true ↦ spaced_below next (placed edits 0 0 pieces) (old-placed next edits 0 0 pieces h)
      | false ↦ h
    ]

pub page_rises : (next : ℕ) (pieces : List TextPiece) (edits : List Edit) → next ≤ (page_after next pieces edits).next
page_rises next pieces edits =
    elim (is_edited edits) as (λ b. next ≤ (cond b (page_of next (output_of pieces edits next)) (old_page next pieces)).next) [
      | true ↦ omega arith
      | false ↦ omega arith
    ]
