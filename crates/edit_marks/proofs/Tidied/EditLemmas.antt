-- The blocks of an edit are in the order of their places, and so are its inserts, which are at tokens of the text.
use Rattle.std.proofs.Common.{◌≡◌, ◌<◌, ◌+◌, ◌==◌, ℕ, zero, suc, arith, Bool, true, false, refl, sym, ap, ◌∙◌, List, [], ◌∷◌, ◌++◌, append_assoc, drop, length}
use Rattle.std.specs.Prelude.{Option, None, Some, All, slice_get}
use Rattle.std.specs.Ordering.{is_lt}
use Rattle.std.specs.List.Sorted.{IsSortedBy}
use Rattle.std.proofs.lemmas.List.Elements.{All-nil, All-cons, All-head, All-tail, All-append}
use Rattle.smpl_patch.specs.declared.pattern.VarDecl.{VarDecl}
use Rattle.smpl_patch.specs.declared.pattern.PatToken.{PatToken}
use Rattle.smpl_patch.specs.declared.pattern.PlusBlock.{PlusBlock}
use Rattle.edit_marks.specs.declared.edit_conflict.edit.Insert.{Insert}
use Rattle.edit_marks.specs.declared.file_tokens.FileToken.{FileToken}
use Rattle.edit_marks.specs.declared.spot.PlusSpot.{PlusSpot}
use Rattle.edit_marks.specs.declared.tidy.edges.PlacedBlock.{PlacedBlock}
use Rattle.edit_marks.specs.Blocks.{Environment}
use Rattle.edit_marks.specs.Edits.{block_of}
use Rattle.edit_marks.specs.Spots.{spot_order}
use Rattle.edit_marks.specs.Tidy.Neighbours.{AreInPlace}
use Rattle.edit_marks.specs.Tidy.Edits.{TouchAt, placed, block_if, blocks_at, insert_of_block, insert_if, inserts_at, tidy_inserts}
use Rattle.edit_marks.proofs.TokenLemmas.{drop_here}
use Rattle.edit_marks.proofs.Tidied.EntryLemmas.{there}
use Rattle.edit_marks.proofs.OneEdit.{AreRising, rising}

abbrev IsLater : PlusSpot → PlacedBlock → Type 0
IsLater s b = is_lt (spot_order b.spot s) ≡ false

module _ (decls : List VarDecl) (tokens : List PatToken) (env : Environment) where
  if_later : (s t : PlusSpot) (o : Option PlusBlock) → is_lt (spot_order t s) ≡ false → All (IsLater s) (block_if decls env t o)
  if_later s t None e = All-nil (IsLater s)
  if_later s t (Some b) e = All-cons (IsLater s) (placed decls env t b) [] e (All-nil (IsLater s))

  all_later : (s : PlusSpot) (spots : List PlusSpot) → All (λ t. is_lt (spot_order t s) ≡ false) spots → All (IsLater s) (blocks_at decls tokens env spots)
  all_later s [] h = All-nil (IsLater s)
  all_later s (t ∷ spots) h =
      let P = λ (x : PlusSpot). is_lt (spot_order x s) ≡ false in
      All-append (IsLater s) (block_if decls env t (block_of tokens t)) (blocks_at decls tokens env spots)
      (if_later s t (block_of tokens t) (All-head P t spots h)) (all_later s spots (All-tail P t spots h))

  one_first : (s : PlusSpot) (o : Option PlusBlock) (rest : List PlacedBlock) → AreInPlace rest → All (IsLater s) rest
      → AreInPlace (block_if decls env s o ++ rest)
  one_first s None rest h later = h
  one_first s (Some b) rest h later = (later, h)

  in_place : (spots : List PlusSpot) → AreRising spots → AreInPlace (blocks_at decls tokens env spots)
  in_place [] h = tt
  in_place (s ∷ spots) h =
      one_first s (block_of tokens s) (blocks_at decls tokens env spots) (in_place spots h.1) (all_later s spots h.0)

  pub blocks_in_place : (spots : List PlusSpot) → IsSortedBy (λ a b. is_lt (spot_order a b)) spots → AreInPlace (blocks_at decls tokens env spots)
  blocks_in_place spots up = in_place spots (rising spots up)

pub some_within : {A : Type 0} (xs : List A) (n : ℕ) (x : A) → slice_get xs n ≡ Some x → n < length xs
some_within [] n x at = absurd cc
some_within (y ∷ ys) zero x at = omega arith
some_within (y ∷ ys) (suc n) x at = let rest = some_within ys n x at in omega (arith, rest)

module _ (ids : List ℕ) (files : List FileToken) (t : TouchAt) (removed : List ℕ) (blocks : List PlacedBlock) where
  abbrev IsWithin : Insert → Type 0
  IsWithin i = i.token < length files

  if_within : (number : ℕ) (b : PlacedBlock) (o : Option FileToken) → ((f : FileToken) → o ≡ Some f → b.spot.token < length files)
      → All IsWithin (insert_if ids files t removed blocks number b o)
  if_within number b None h = All-nil IsWithin
  if_within number b (Some f) h = All-cons IsWithin (insert_of_block ids files t removed blocks number b f) [] (h f refl) (All-nil IsWithin)

  pub tidy_inserts_within : (number : ℕ) (bs : List PlacedBlock) → All IsWithin (tidy_inserts ids files t removed blocks number bs)
  tidy_inserts_within number [] = All-nil IsWithin
  tidy_inserts_within number (b ∷ bs) =
      All-append IsWithin (insert_if ids files t removed blocks number b (slice_get files b.spot.token))
      (tidy_inserts ids files t removed blocks (number + 1) bs)
      (if_within number b (slice_get files b.spot.token) (λ f at. some_within files b.spot.token f at)) (tidy_inserts_within (number + 1) bs)

  own_step : (number : ℕ) (b : PlacedBlock) → slice_get blocks number ≡ Some b
      → tidy_inserts ids files t removed blocks number (drop number blocks)
      ≡ inserts_at ids files t removed blocks number (slice_get blocks number) ++ tidy_inserts ids files t removed blocks (number + 1) (drop (number + 1) blocks)
  own_step number b at =
      let rest = tidy_inserts ids files t removed blocks (number + 1) (drop (number + 1) blocks) in
      ap (tidy_inserts ids files t removed blocks number) (drop_here blocks number b at)
      ∙ sym (ap (λ (o : Option PlacedBlock). inserts_at ids files t removed blocks number o ++ rest) at)

  -- the inserts of one more block
  pub inserts_more : (number : ℕ) (found new whole : List Insert) → number < length blocks
      → new ≡ found ++ inserts_at ids files t removed blocks number (slice_get blocks number)
      → found ++ tidy_inserts ids files t removed blocks number (drop number blocks) ≡ whole
      → new ++ tidy_inserts ids files t removed blocks (number + 1) (drop (number + 1) blocks) ≡ whole
  inserts_more number found new whole less is h =
      let b = there blocks number less in
      let own = inserts_at ids files t removed blocks number (slice_get blocks number) in
      let rest = tidy_inserts ids files t removed blocks (number + 1) (drop (number + 1) blocks) in
      ap (λ (l : List Insert). l ++ rest) is ∙ append_assoc found own rest
      ∙ ap (λ (l : List Insert). found ++ l) (sym (own_step number b.0 b.1)) ∙ h
