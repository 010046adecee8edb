-- The tidied edits of touches fit their text, and so do they without the removal of tokens that stay.
use Rattle.std.proofs.Common.{◌≡◌, ◌<◌, ◌≤◌, ◌+◌, ◌==◌, ℕ, zero, suc, Bool, true, false, refl, sym, ap, subst, ◌∙◌, arith, List, [], ◌∷◌, ◌++◌, length}
use Rattle.std.specs.Prelude.{Option, None, Some, All, Contains, filter, map, not, slice_get, slice_index, if◌then◌else◌}
use Rattle.std.specs.List.{AllZip, list_any}
use Rattle.std.specs.List.Sorted.{IsSortedBy, IsStrictlyIncreasing}
use Rattle.std.specs.Ordering.{is_lt}
use Rattle.std.proofs.lemmas.List.Elements.{All-nil, All-cons, All-head, All-tail, All-append, All-weaker, All-contains, All-contains_itself}
use Rattle.c_lexer.specs.Pieces.{TextPiece, text_of}
use Rattle.c_lexer.specs.Ids.{ids_of}
use Rattle.smpl_patch.specs.declared.pattern.VarDecl.{VarDecl}
use Rattle.smpl_patch.specs.declared.pattern.PatToken.{PatToken}
use Rattle.edit_marks.specs.declared.edit_conflict.edit.Insert.{Insert}
use Rattle.edit_marks.specs.declared.edit_conflict.edit.Edit.{Edit}
use Rattle.edit_marks.specs.declared.file_tokens.FileToken.{FileToken}
use Rattle.edit_marks.specs.declared.tidy.edges.PlacedBlock.{PlacedBlock}
use Rattle.edit_marks.specs.Blocks.{Environment}
use Rattle.edit_marks.specs.Removals.{minus_tokens}
use Rattle.edit_marks.specs.Spots.{spot_order}
use Rattle.pat_match.specs.declared.pat_pairs.pairs.AlignedToken.{AlignedToken}
use Rattle.edit_marks.specs.EditWalk.Touches.{Touched}
use Rattle.edit_marks.specs.EditWalk.Named.{pairs_of}
use Rattle.edit_marks.specs.EditWalk.Fit.{FitsText, AreInOrder, insert_order}
use Rattle.edit_marks.specs.Tokens.{file_tokens}
use Rattle.edit_marks.specs.Tidy.Bodies.{without}
use Rattle.edit_marks.specs.Tidy.Edits.{TouchAt, TidyEditOf, blocks_at, insert_of_block, insert_if, tidy_inserts}
use Rattle.edit_marks.specs.Tidy.Neighbours.{AreInPlace}
use Rattle.edit_marks.proofs.EditWalk.FitLemmas.{pairs_below, minus_below, count_of}
use Rattle.edit_marks.proofs.EditWalk.OrderLemmas.{IsAtSpot, side_is, not_less}
use Rattle.edit_marks.proofs.OneEdit.{Rising, rises}
use Rattle.edit_marks.proofs.Tidied.EditLemmas.{blocks_in_place, tidy_inserts_within}

-- ---- inserts in order

module _ (ids : List ℕ) (files : List FileToken) (t : TouchAt) (removed : List ℕ) (blocks : List PlacedBlock) where
  if_later : (i : Insert) (b c : PlacedBlock) (number : ℕ) (o : Option FileToken) → IsAtSpot b.spot i → is_lt (spot_order c.spot b.spot) ≡ false
      → All (λ j. is_lt (insert_order j i) ≡ false) (insert_if ids files t removed blocks number c o)
  if_later i b c number None a e = All-nil (λ j. is_lt (insert_order j i) ≡ false)
  if_later i b c number (Some f) a e =
      let own = insert_of_block ids files t removed blocks number c f in
      All-cons (λ j. is_lt (insert_order j i) ≡ false) own [] (not_less b.spot c.spot i own a (refl, side_is c.spot.after) e)
      (All-nil (λ j. is_lt (insert_order j i) ≡ false))

  all_later : (i : Insert) (b : PlacedBlock) (number : ℕ) (bs : List PlacedBlock) → IsAtSpot b.spot i
      → All (λ c. is_lt (spot_order c.spot b.spot) ≡ false) bs → All (λ j. is_lt (insert_order j i) ≡ false) (tidy_inserts ids files t removed blocks number bs)
  all_later i b number [] a h = All-nil (λ j. is_lt (insert_order j i) ≡ false)
  all_later i b number (c ∷ bs) a h =
      let P = λ (x : PlacedBlock). is_lt (spot_order x.spot b.spot) ≡ false in
      All-append (λ j. is_lt (insert_order j i) ≡ false) (insert_if ids files t removed blocks number c (slice_get files c.spot.token))
      (tidy_inserts ids files t removed blocks (number + 1) bs)
      (if_later i b c number (slice_get files c.spot.token) a (All-head P c bs h)) (all_later i b (number + 1) bs a (All-tail P c bs h))

  one_first : (b : PlacedBlock) (number : ℕ) (o : Option FileToken) (rest : List Insert) → AreInOrder rest
      → ((i : Insert) → IsAtSpot b.spot i → All (λ j. is_lt (insert_order j i) ≡ false) rest)
      → AreInOrder (insert_if ids files t removed blocks number b o ++ rest)
  one_first b number None rest h later = h
  one_first b number (Some f) rest h later = (later (insert_of_block ids files t removed blocks number b f) (refl, side_is b.spot.after), h)

  in_order : (number : ℕ) (bs : List PlacedBlock) → AreInPlace bs → AreInOrder (tidy_inserts ids files t removed blocks number bs)
  in_order number [] h = tt
  in_order number (b ∷ bs) h =
      one_first b number (slice_get files b.spot.token) (tidy_inserts ids files t removed blocks (number + 1) bs) (in_order (number + 1) bs h.1)
      (λ i a. all_later i b (number + 1) bs a h.0)

-- the edit of a touch fits the text
pub tidy_edit_fits : (decls : List VarDecl) (tokens : List PatToken) (env : Environment) (pieces : List TextPiece) (t : TouchAt)
    (found : Option (List AlignedToken)) (edit : Edit)
    → TidyEditOf decls tokens env (ids_of pieces) (file_tokens pieces) t (pairs_of (ids_of pieces) found) edit → FitsText (length (ids_of pieces)) edit
tidy_edit_fits decls tokens env pieces t found edit is =
    let n = length (ids_of pieces) in
    let ids = ids_of pieces in
    let files = file_tokens pieces in
    let blocks = blocks_at decls tokens env is.spots in
    let minus = minus_tokens tokens (pairs_of ids found) in
    let below : All (λ m. m < n) minus = minus_below tokens n (pairs_of ids found) (pairs_below ids found) in
    record {
      rise = is.rise;
      removed = All-weaker (Contains edit.removed) (λ m. m < n)
          (λ m has. All-contains (λ k. k < n) minus m below ((is.removed m).0 has)) edit.removed (All-contains_itself edit.removed);
      inserts = subst (λ (l : List Insert). All (λ (i : Insert). i.token < n) l) (sym is.inserts)
          (subst (λ (m : ℕ). All (λ (i : Insert). i.token < m) (tidy_inserts ids files t edit.removed blocks 0 blocks)) (count_of (text_of pieces) 0 pieces)
          (tidy_inserts_within ids files t edit.removed blocks 0 blocks));
      in_order = subst AreInOrder (sym is.inserts) (in_order ids files t edit.removed blocks 0 blocks (blocks_in_place decls tokens env is.spots is.sorted));
    }

-- ---- without some removals

module _ (test : ℕ → Bool) where
  kept_all : (P : ℕ → Type 0) (b : Bool) (x : ℕ) (rest : List ℕ) → P x → All P rest → All P (if b then x ∷ rest else rest)
  kept_all P true x rest one all = All-cons P x rest one all
  kept_all P false x rest one all = all

  filter_all : (P : ℕ → Type 0) (xs : List ℕ) → All P xs → All P (filter test xs)
  filter_all P [] h = All-nil P
  filter_all P (x ∷ xs) h = kept_all P (test x) x (filter test xs) (All-head P x xs h) (filter_all P xs (All-tail P x xs h))

  kept_rising : (b : Bool) (x : ℕ) (rest : List ℕ) → All (λ y. x < y) rest → Rising rest → Rising (if b then x ∷ rest else rest)
  kept_rising true x rest one all = (one, all)
  kept_rising false x rest one all = all

  filter_rising : (xs : List ℕ) → Rising xs → Rising (filter test xs)
  filter_rising [] h = tt
  filter_rising (x ∷ xs) h = kept_rising (test x) x (filter test xs) (filter_all (λ y. x < y) xs h.0) (filter_rising xs h.1)

first_more : (x y : ℕ) (ys : List ℕ) → x < y → IsStrictlyIncreasing (y ∷ ys) → IsStrictlyIncreasing (x ∷ y ∷ ys)
first_more x y ys first rest zero less = first
first_more x y ys first rest (suc k) less =
    let same : suc k + 1 ≡ suc (k + 1) = omega arith in
    subst (λ (n : ℕ). slice_index (y ∷ ys) k < slice_index (x ∷ y ∷ ys) n) (sym same) (rest k (omega (arith, less)))

increasing : (xs : List ℕ) → Rising xs → IsStrictlyIncreasing xs
increasing [] h = λ k less. absurd (omega (arith, less))
increasing (x ∷ []) h = λ k less. absurd (omega (arith, less))
increasing (x ∷ y ∷ ys) h = first_more x y ys (All-head (λ z. x < z) y ys h.0) (increasing (y ∷ ys) h.1)

-- an edit without some removals fits the text too
pub without_fits : (count : ℕ) (stays : List ℕ) (e : Edit) → FitsText count e → FitsText count (without stays e)
without_fits count stays e fit =
    let test = λ (n : ℕ). not (list_any (λ m. m == n) stays) in
    record {
      rise = increasing (filter test e.removed) (filter_rising test e.removed (rises e.removed fit.rise));
      removed = filter_all test (λ n. n < count) e.removed fit.removed;
      inserts = fit.inserts;
      in_order = fit.in_order;
    }

pub all_fit : (count : ℕ) (stays : List ℕ) (edits : List Edit) → All (FitsText count) edits → All (FitsText count) (map (without stays) edits)
all_fit count stays [] h = All-nil (FitsText count)
all_fit count stays (e ∷ edits) h =
    All-cons (FitsText count) (without stays e) (map (without stays) edits) (without_fits count stays e (All-head (FitsText count) e edits h))
    (all_fit count stays edits (All-tail (FitsText count) e edits h))
