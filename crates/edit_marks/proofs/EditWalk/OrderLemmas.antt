-- The inserts of an edit are in order, since the places of plus code are.
use Rattle.std.proofs.Common.{◌≡◌, ◌<◌, ◌≤◌, ℕ, suc, Bool, true, false, refl, ◌∙◌, arith, List, [], ◌∷◌, ◌++◌, length, get_or}
use Rattle.std.specs.Prelude.{Option, None, Some, All, slice_get}
use Rattle.std.specs.Ordering.{is_lt, ordering_then, nat_cmp}
use Rattle.std.specs.declared.cmp.Ordering.{Ordering}
use Rattle.std.specs.declared.cmp.Ordering.TheVariants.{Less, Equal, Greater}
use Rattle.std.specs.List.Sorted.{IsSortedBy}
use Rattle.std.proofs.lemmas.List.Elements.{All-nil, All-cons, All-head, All-tail, All-append}
use Rattle.smpl_patch.specs.declared.pattern.VarDecl.{VarDecl}
use Rattle.smpl_patch.specs.declared.pattern.PatToken.{PatToken}
use Rattle.smpl_patch.specs.declared.pattern.PlusBlock.{PlusBlock}
use Rattle.edit_marks.specs.declared.edit_conflict.edit.Insert.{Insert}
use Rattle.edit_marks.specs.EditConflict.Same.{side_number}
use Rattle.edit_marks.specs.declared.spot.PlusSpot.{PlusSpot}
use Rattle.edit_marks.specs.declared.file_tokens.FileToken.{FileToken}
use Rattle.edit_marks.specs.Blocks.{Environment}
use Rattle.edit_marks.specs.Spots.{side, spot_order}
use Rattle.edit_marks.specs.Edits.{side_of, block_of, insert_of_block, insert_if, inserts_at}
use Rattle.edit_marks.proofs.OneEdit.{AreRising, rising}
use Rattle.edit_marks.specs.EditWalk.Fit.{insert_order, AreInOrder}

first_not_less : (o p : Ordering) → is_lt (ordering_then o p) ≡ false → is_lt o ≡ false
first_not_less Less p e = e
first_not_less Equal p e = refl
first_not_less Greater p e = refl

pub side_is : (after : Bool) → side_number (side_of after) ≡ side after
side_is true = refl
side_is false = refl

-- an insert that is at a place of plus code
abbrev pub IsAtSpot : PlusSpot → Insert → Type 0
IsAtSpot s i = (i.token ≡ s.token) × (side_number i.side ≡ side s.after)

pub not_less : (s t : PlusSpot) (i j : Insert) → IsAtSpot s i → IsAtSpot t j → is_lt (spot_order t s) ≡ false → is_lt (insert_order j i) ≡ false
not_less s t i j a b e =
    (λ k. is_lt (ordering_then (nat_cmp (b.0 k) (a.0 k)) (nat_cmp (b.1 k) (a.1 k))))
    ∙ first_not_less (ordering_then (nat_cmp t.token s.token) (nat_cmp (side t.after) (side s.after))) (nat_cmp t.pattern s.pattern) e

module _ (decls : List VarDecl) (tokens : List PatToken) (env : Environment) (files : List FileToken) (removed : List ℕ) where
  if_later : (s t : PlusSpot) (i : Insert) (block : Option PlusBlock) (file : Option FileToken) → IsAtSpot s i → is_lt (spot_order t s) ≡ false
      → All (λ j. is_lt (insert_order j i) ≡ false) (insert_if decls env removed t block file)
  if_later s t i None file a e = All-nil (λ j. is_lt (insert_order j i) ≡ false)
  if_later s t i (Some b) None a e = All-nil (λ j. is_lt (insert_order j i) ≡ false)
  if_later s t i (Some b) (Some f) a e =
      All-cons (λ j. is_lt (insert_order j i) ≡ false) (insert_of_block decls env removed t b f) []
      (not_less s t i (insert_of_block decls env removed t b f) a (refl, side_is t.after) e) (All-nil (λ j. is_lt (insert_order j i) ≡ false))

  all_later : (s : PlusSpot) (i : Insert) (spots : List PlusSpot) → IsAtSpot s i → All (λ t. is_lt (spot_order t s) ≡ false) spots
      → All (λ j. is_lt (insert_order j i) ≡ false) (inserts_at decls tokens env files removed spots)
  all_later s i [] a h = All-nil (λ j. is_lt (insert_order j i) ≡ false)
  all_later s i (t ∷ spots) a h =
      let P = λ (x : PlusSpot). is_lt (spot_order x s) ≡ false in
      All-append (λ j. is_lt (insert_order j i) ≡ false)
      (insert_if decls env removed t (block_of tokens t) (slice_get files t.token)) (inserts_at decls tokens env files removed spots)
      (if_later s t i (block_of tokens t) (slice_get files t.token) a (All-head P t spots h)) (all_later s i spots a (All-tail P t spots h))

  one_first : (s : PlusSpot) (block : Option PlusBlock) (file : Option FileToken) (rest : List Insert) → AreInOrder rest
      → ((i : Insert) → IsAtSpot s i → All (λ j. is_lt (insert_order j i) ≡ false) rest) → AreInOrder (insert_if decls env removed s block file ++ rest)
  one_first s None file rest h later = h
  one_first s (Some b) None rest h later = h
  one_first s (Some b) (Some f) rest h later = (later (insert_of_block decls env removed s b f) (refl, side_is s.after), h)

  in_order : (spots : List PlusSpot) → AreRising spots → AreInOrder (inserts_at decls tokens env files removed spots)
  in_order [] h = tt
  in_order (s ∷ spots) h =
      one_first s (block_of tokens s) (slice_get files s.token) (inserts_at decls tokens env files removed spots)
      (in_order spots h.1) (λ i a. all_later s i spots a h.0)

  pub inserts_in_order : (spots : List PlusSpot) → IsSortedBy (λ a b. is_lt (spot_order a b)) spots
      → AreInOrder (inserts_at decls tokens env files removed spots)
  inserts_in_order spots up = in_order spots (rising spots up)
