-- Acts of edits that insert.
use Rattle.std.proofs.Common.{◌≡◌, ◌+◌, ◌==◌, ◌&&◌, ◌||◌, ℕ, Bool, true, false, refl, ap, ◌∙◌, List, [], ◌∷◌, cond, filter}
use Rattle.std.specs.List.{list_any}
use Rattle.std.proofs.lemmas.List.Folds.{list_any-append}
use Rattle.edit_marks.specs.declared.edit_conflict.edit.Edit.{Edit}
use Rattle.edit_marks.specs.declared.edit_conflict.edit.Insert.{Insert}
use Rattle.edit_marks.specs.declared.edit_conflict.mark.Mark.{Mark}
use Rattle.edit_marks.specs.EditConflict.Marks.{insert_marks, is_at, marks_from, marks_of, removal_marks}
use Rattle.edit_marks.specs.Tidy.Bodies.{acts_of, is_at as inserts_there}
use Rattle.edit_bodies.specs.Scenes.{is_insert}

and_true : (b : Bool) → (b && true) ≡ b
and_true true = refl
and_true false = refl

and_false : (b : Bool) → (b && false) ≡ false
and_false true = refl
and_false false = refl

any_filter : {X : Type 0} (p q : X → Bool) (xs : List X) → list_any p (filter q xs) ≡ list_any (λ x. q x && p x) xs
any_filter p q [] = refl
any_filter p q (x ∷ xs) =
    elim (q x) as (λ b. list_any p (cond b (x ∷ filter q xs) (filter q xs)) ≡ ((b && p x) || list_any (λ y. q y && p y) xs))
    [ true ↦ ap (λ (r : Bool). p x || r) (any_filter p q xs) | false ↦ any_filter p q xs ]

module _ (token : ℕ) where
  abbrev found : Mark → Bool
  found m = is_at token m && is_insert m.act

  no_removal : (edit : ℕ) (ns : List ℕ) → list_any found (removal_marks edit ns) ≡ false
  no_removal edit [] = refl
  no_removal edit (n ∷ ns) = ap (λ (b : Bool). b || list_any found (removal_marks edit ns)) (and_false (n == token)) ∙ no_removal edit ns

  each_insert : (edit number : ℕ) (is : List Insert) → list_any found (insert_marks edit number is) ≡ inserts_there is token
  each_insert edit number [] = refl
  each_insert edit number (i ∷ is) =
      ap (λ (b : Bool). b || list_any found (insert_marks edit (number + 1) is)) (and_true (i.token == token))
      ∙ ap (λ (b : Bool). i.token == token || b) (each_insert edit (number + 1) is)

  of_edit : (edit : ℕ) (e : Edit) → list_any found (marks_of edit e) ≡ inserts_there e.inserts token
  of_edit edit e =
      list_any-append found (removal_marks edit e.removed) (insert_marks edit 0 e.inserts)
      ∙ ap (λ (b : Bool). b || list_any found (insert_marks edit 0 e.inserts)) (no_removal edit e.removed)
      ∙ each_insert edit 0 e.inserts

  of_edits : (number : ℕ) (edits : List Edit) → list_any found (marks_from number edits) ≡ (acts_of edits).comes token
  of_edits number [] = refl
  of_edits number (e ∷ edits) =
      list_any-append found (marks_of number e) (marks_from (number + 1) edits)
      ∙ ap (λ (b : Bool). b || list_any found (marks_from (number + 1) edits)) (of_edit number e)
      ∙ ap (λ (b : Bool). inserts_there e.inserts token || b) (of_edits (number + 1) edits)

  -- some act at the token inserts exactly if some edit inserts there
  pub some_inserts : (edits : List Edit) → list_any (λ m. is_insert m.act) (filter (is_at token) (marks_from 0 edits)) ≡ (acts_of edits).comes token
  some_inserts edits = any_filter (λ (m : Mark). is_insert m.act) (is_at token) (marks_from 0 edits) ∙ of_edits 0 edits
