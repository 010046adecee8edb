-- Edits that touch no Stray and no token after one don't change what follows Strays.
use Rattle.std.proofs.Common.{◌≡◌, ◌==◌, ◌&&◌, ◌||◌, ℕ, Bool, true, false, refl, List, [], ◌∷◌, ◌++◌}
use Rattle.std.specs.Prelude.{All, if◌then◌else◌}
use Rattle.std.specs.List.{list_any}
use Rattle.std.proofs.lemmas.Bool.Decides.{Decides-eqb}
use Rattle.std.proofs.lemmas.List.Elements.{All-head, All-tail, All-weaker}
use Rattle.c_lexer.specs.declared.piece.PieceKind.{PieceKind}
use Rattle.c_lexer.specs.declared.piece.PieceKind.TheVariants.{Word, Blank, Comment, Line}
use Rattle.c_lexer.specs.Pieces.{TextPiece}
use Rattle.c_lexer.specs.Lexes.{id_after}
use Rattle.edit_marks.specs.declared.edit_conflict.edit.Side.{Side}
use Rattle.edit_marks.specs.declared.edit_conflict.edit.Side.TheVariants.{Before, After}
use Rattle.edit_marks.specs.declared.edit_conflict.edit.Insert.{Insert}
use Rattle.edit_marks.specs.declared.edit_conflict.edit.Edit.{Edit}
use Rattle.edit_marks.specs.EditConflict.Same.{side_number}
use Rattle.edit_marks.specs.EditConflict.Clashes.{removes}
use Rattle.edit_unparse.specs.Output.{texts_in, inserted, is_removed}
use Rattle.edit_unparse.specs.Fair.{is_stray, after_stray, StrayStays, StraysStay}
use Rattle.text_laws.proofs.Places.{GoodHere, GoodAt}

-- what the edit removes, and where it inserts
abbrev pub Touches : (ℕ → Type 0) → Edit → Type 0
Touches G e = All G e.removed × All (λ (i : Insert). G i.token) e.inserts

pub touches_weaker : (G H : ℕ → Type 0) → ((n : ℕ) → G n → H n) → (edits : List Edit) → All (Touches G) edits → All (Touches H) edits
touches_weaker G H from edits h =
    All-weaker (Touches G) (Touches H)
    (λ e t. (
      All-weaker G H from e.removed t.0,
      All-weaker (λ (i : Insert). G i.token) (λ (i : Insert). H i.token)
          (λ i g. from i.token g) e.inserts t.1,
    )) edits h

module _ (token : ℕ) where
  abbrev Other : ℕ → Type 0
  Other n = n ≡ token → ⊥

  differs : (n : ℕ) (b : Bool) → (n == token) ≡ b → Other n → b ≡ false
  differs n true e h = absurd (h ((Decides-eqb n token).0 e))
  differs n false e h = refl

  or_none : (a b : Bool) → a ≡ false → b ≡ false → (a || b) ≡ false
  or_none true b x y = absurd cc
  or_none false b x y = y

  none_removed : (ns : List ℕ) → All Other ns → list_any (λ n. n == token) ns ≡ false
  none_removed [] h = refl
  none_removed (n ∷ ns) h =
      or_none (n == token) (list_any (λ m. m == token) ns) (differs n (n == token) refl (All-head Other n ns h)) (none_removed ns (All-tail Other n ns h))

  not_removed : (edits : List Edit) → All (Touches Other) edits → is_removed token edits ≡ false
  not_removed [] h = refl
  not_removed (e ∷ edits) h =
      or_none (removes token e) (list_any (removes token) edits) (none_removed e.removed ((All-head (Touches Other) e edits h).0))
      (not_removed edits (All-tail (Touches Other) e edits h))

  none_here : (a b : Bool) (text : List ℕ) (rest : List (List ℕ)) → a ≡ false → rest ≡ [] → (if a && b then text ∷ rest else rest) ≡ []
  none_here true b text rest x y = absurd cc
  none_here false b text rest x y = y

  none_texts : (side : Side) (is : List Insert) → All (λ (i : Insert). Other i.token) is → texts_in side token is ≡ []
  none_texts side [] h = refl
  none_texts side (i ∷ is) h =
      none_here (i.token == token) (side_number i.side == side_number side) i.text (texts_in side token is)
      (differs i.token (i.token == token) refl (All-head (λ (j : Insert). Other j.token) i is h))
      (none_texts side is (All-tail (λ (j : Insert). Other j.token) i is h))

  none_inserted : (side : Side) (edits : List Edit) → All (Touches Other) edits → inserted side token edits ≡ []
  none_inserted side [] h = refl
  none_inserted side (e ∷ edits) h =
      (λ i. none_texts side e.inserts ((All-head (Touches Other) e edits h).1) i ++ none_inserted side edits (All-tail (Touches Other) e edits h) i)

module _ (edits : List Edit) where
  here : (k : PieceKind) (after : Bool) (token : ℕ) → All (Touches (λ n. GoodHere n after token k)) edits → StrayStays k edits after token
  here (Word kind id) after token h = (
    (λ e. let other : All (Touches (λ n. n ≡ token → ⊥)) edits =
        touches_weaker (λ n. GoodHere n after token (Word kind id)) (λ n. n ≡ token → ⊥)
        (λ n g same. (let not : after ≡ false = (g same).0 in absurd cc)) edits h in
        (not_removed token edits other, none_inserted token Before edits other)),
    (λ e. none_inserted token After edits
        (touches_weaker (λ n. GoodHere n after token (Word kind id)) (λ n. n ≡ token → ⊥)
        (λ n g same. (let not : is_stray kind ≡ false = (g same).1 in absurd cc)) edits h)),
  )
  here Blank after token h = tt
  here Comment after token h = tt
  here Line after token h = tt

  pub strays_stay : (after : Bool) (token : ℕ) (pieces : List TextPiece) → All (Touches (GoodAt after token pieces)) edits
      → StraysStay edits after token pieces
  strays_stay after token [] h = tt
  strays_stay after token (p ∷ pieces) h = (
    here p.kind after token (touches_weaker (GoodAt after token (p ∷ pieces)) (λ n. GoodHere n after token p.kind) (λ n g. g.0) edits h),
    strays_stay (after_stray p.kind after) (id_after p.kind token) pieces
        (touches_weaker (GoodAt after token (p ∷ pieces)) (GoodAt (after_stray p.kind after) (id_after p.kind token) pieces) (λ n g. g.1) edits h),
  )
