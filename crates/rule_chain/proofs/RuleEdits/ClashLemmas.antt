-- Edits of a text act at tokens of the text.
use Rattle.std.proofs.Common.{◌≡◌, ◌<◌, ◌⊎◌, ℕ, Bool, true, false, ◌&&◌, ◌||◌, ◌==◌, Some, refl, subst, inl, inr, arith, List, [], ◌∷◌}
use Rattle.std.specs.Prelude.{All, slice_get}
use Rattle.std.specs.List.{list_any}
use Rattle.std.proofs.lemmas.Bool.Decides.{nat_tests}
use Rattle.std.proofs.lemmas.List.Elements.{All-head, All-tail}
use Rattle.std.proofs.lemmas.Option.{get_or_from_slice_get, slice_get_within}
use Rattle.edit_marks.specs.declared.edit_conflict.edit.Edit.{Edit}
use Rattle.edit_marks.specs.declared.edit_conflict.edit.Insert.{Insert}
use Rattle.edit_marks.specs.declared.edit_conflict.edit.Side.{Side}
use Rattle.edit_marks.specs.declared.edit_conflict.edit.Side.TheVariants.{Before, After}
use Rattle.edit_marks.specs.EditConflict.Same.{side_number}
use Rattle.edit_marks.specs.EditConflict.Clashes.{removes, inserts, inserts_alone, meet_at, IsClash}
use Rattle.edit_marks.specs.declared.edit_conflict.clash.Clash.{Clash}
use Rattle.edit_marks.specs.EditWalk.Fit.{FitsText}

either : (a b : Bool) → (a || b) ≡ true → (a ≡ true) ⊎ (b ≡ true)
either true b h = inl refl
either false b h = inr h

first_part : (a b : Bool) → (a && b) ≡ true → a ≡ true
first_part true b h = refl
first_part false b h = absurd cc

removes_within : (token count : ℕ) (removed : List ℕ) → All (λ n. n < count) removed → list_any (λ n. n == token) removed ≡ true → token < count
removes_within token count [] all h = absurd cc
removes_within token count (n ∷ ns) all h =
    elim (either (n == token) (list_any (λ m. m == token) ns) h) [
      | inl e ↦ let same : n ≡ token = grind (arith, nat_tests) in let lt : n < count = All-head (λ m. m < count) n ns all in omega arith
      | inr e ↦ removes_within token count ns (All-tail (λ m. m < count) n ns all) e
    ]

inserts_within : (token count : ℕ) (side : Side) (is : List Insert) → All (λ i. i.token < count) is
    → list_any (λ i. i.token == token && side_number i.side == side_number side) is ≡ true → token < count
inserts_within token count side [] all h = absurd cc
inserts_within token count side (i ∷ is) all h =
    elim (either (i.token == token && side_number i.side == side_number side)
    (list_any (λ j. j.token == token && side_number j.side == side_number side) is) h) [
      | inl e ↦
          let first : (i.token == token) ≡ true = first_part (i.token == token) (side_number i.side == side_number side) e in
          let same : i.token ≡ token = grind (arith, nat_tests) in
          let lt : i.token < count = All-head (λ (j : Insert). j.token < count) i is all in omega arith
      | inr e ↦ inserts_within token count side is (All-tail (λ (j : Insert). j.token < count) i is all) e
    ]

acts : (ra rb ba bb aa ab before after : Bool)
    → (ra && rb || (ba && bb && before || aa && ab && after) || ((ba || aa) && rb || ra && (bb || ab))) ≡ true
    → (ra ≡ true) ⊎ ((ba ≡ true) ⊎ (aa ≡ true))
acts true rb ba bb aa ab before after h = inl refl
acts false rb true bb aa ab before after h = inr (inl refl)
acts false rb false bb true ab before after h = inr (inr refl)
acts false rb false bb false ab before after h = absurd cc

meets_within : (token count : ℕ) (a b : Edit) → FitsText count a → meet_at token a b ≡ true → token < count
meets_within token count a b fits h =
    elim (acts (removes token a) (removes token b) (inserts Before token a) (inserts Before token b) (inserts After token a) (inserts After token b)
    (inserts_alone Before token a || inserts_alone Before token b) (inserts_alone After token a || inserts_alone After token b) h) [
      | inl r ↦ removes_within token count a.removed fits.removed r
      | inr (inl i) ↦ inserts_within token count Before a.inserts fits.inserts i
      | inr (inr i) ↦ inserts_within token count After a.inserts fits.inserts i
    ]

at_place : (count : ℕ) (edits : List Edit) (i : ℕ) (e : Edit) → All (FitsText count) edits → slice_get edits i ≡ Some e → FitsText count e
at_place count edits i e all is =
    subst (FitsText count) (get_or_from_slice_get edits i e e is) (all i e (slice_get_within edits i e is))

-- a clash is at a token of the text
pub clash_within : (count : ℕ) (edits : List Edit) (c : Clash) → All (FitsText count) edits → IsClash edits c → c.token < count
clash_within count edits c all is =
    meets_within c.token count is.first is.second (at_place count edits c.first is.first all is.first_is) is.clash.meet
