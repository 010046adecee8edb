-- What stands before and behind a place, one block or one token more.
use Rattle.std.proofs.Common.{◌≡◌, ◌<◌, ◌≤◌, ◌+◌, ◌-◌, ◌*◌, ◌==◌, ℕ, zero, suc, Bool, true, false, refl, sym, ap, ◌∙◌, arith}
use Rattle.std.proofs.Common.{List, [], ◌∷◌, ◌++◌, append_assoc, length, get_or}
use Rattle.std.specs.Prelude.{Option, None, Some, slice_get, if◌then◌else◌}
use Rattle.std.specs.List.{list_any}
use Rattle.std.proofs.lemmas.List.{append-nil}
use Rattle.edit_marks.specs.declared.file_tokens.FileToken.{FileToken}
use Rattle.edit_marks.specs.declared.tidy.edges.PlacedBlock.{PlacedBlock}
use Rattle.edit_marks.specs.Blocks.{left_after}
use Rattle.edit_marks.specs.Spots.{side}
use Rattle.edit_marks.specs.Tidy.Neighbours.{Entry, is_place, block_entry, blocks_at, kept_entry, last_in, first_in}
use Rattle.edit_marks.specs.Tidy.Neighbours.{entries_at, entries_before, entries_from, before, behind}
use Rattle.edit_marks.specs.Tidy.Searches.{rank_of, text_in, text_at}
use Rattle.edit_marks.proofs.Tidied.PlaceOrder.{rank_at, side_small, no_place, place_token, place_rank}

pub last_in-append : (left : Option (List ℕ)) (es fs : List Entry) → last_in left (es ++ fs) ≡ last_in (last_in left es) fs
last_in-append left [] fs = refl
last_in-append left (e ∷ es) fs = last_in-append (left_after left e.last) es fs

-- ---- blocks at a place

blocks_at-append : (token : ℕ) (after : Bool) (xs ys : List PlacedBlock) → blocks_at token after (xs ++ ys) ≡ blocks_at token after xs ++ blocks_at token after ys
blocks_at-append token after [] ys = refl
blocks_at-append token after (x ∷ xs) ys =
    let own = if is_place token after x then block_entry x ∷ [] else [] in
    ap (λ (l : List Entry). own ++ l) (blocks_at-append token after xs ys) ∙ sym (append_assoc own (blocks_at token after xs) (blocks_at token after ys))

pub none_at : (token : ℕ) (after : Bool) (xs : List PlacedBlock)
    → ((k : ℕ) (d : PlacedBlock) → k < length xs → rank_of (get_or xs k d) ≡ rank_at token after → ⊥) → blocks_at token after xs ≡ []
none_at token after [] h = refl
none_at token after (x ∷ xs) h =
    ap (λ (b : Bool). (if b then block_entry x ∷ [] else []) ++ blocks_at token after xs) (no_place token after x (h 0 x (omega arith)))
    ∙ none_at token after xs (λ k d less. h (suc k) d (omega (arith, less)))

module _ (token : ℕ) (after : Bool) (b : PlacedBlock) where
  first_here : (xs : List PlacedBlock) → is_place token after b ≡ true → blocks_at token after (b ∷ xs) ≡ block_entry b ∷ blocks_at token after xs
  first_here xs e = ap (λ (x : Bool). (if x then block_entry b ∷ [] else []) ++ blocks_at token after xs) e

  first_elsewhere : (xs : List PlacedBlock) → is_place token after b ≡ false → blocks_at token after (b ∷ xs) ≡ blocks_at token after xs
  first_elsewhere xs e = ap (λ (x : Bool). (if x then block_entry b ∷ [] else []) ++ blocks_at token after xs) e

  last_here : (xs : List PlacedBlock) → is_place token after b ≡ true → blocks_at token after (xs ++ b ∷ []) ≡ blocks_at token after xs ++ block_entry b ∷ []
  last_here xs e = blocks_at-append token after xs (b ∷ []) ∙ ap (λ (l : List Entry). blocks_at token after xs ++ l) (first_here [] e)

  last_elsewhere : (xs : List PlacedBlock) → is_place token after b ≡ false → blocks_at token after (xs ++ b ∷ []) ≡ blocks_at token after xs
  last_elsewhere xs e =
      blocks_at-append token after xs (b ∷ []) ∙ ap (λ (l : List Entry). blocks_at token after xs ++ l) (first_elsewhere [] e)
      ∙ append-nil (blocks_at token after xs)

-- ---- tokens

abbrev own_entry : Option (List ℕ) → Entry
own_entry text = record { first = text; last = text }

pub kept_gone : (removed : List ℕ) (token : ℕ) (o : Option FileToken) → list_any (λ n. n == token) removed ≡ true → kept_entry removed token o ≡ []
kept_gone removed token None e = refl
kept_gone removed token (Some f) e = ap (λ (b : Bool). if b then [] else own_entry (Some f.text) ∷ []) e

pub there : {A : Type 0} (xs : List A) (n : ℕ) → n < length xs → (x : A) × (slice_get xs n ≡ Some x)
there [] n less = absurd (omega (arith, less))
there (x ∷ xs) zero less = (x, refl)
there (x ∷ xs) (suc n) less = there xs n (omega (arith, less))

kept_some : (removed : List ℕ) (token : ℕ) (o : Option FileToken) (f : FileToken) → o ≡ Some f → list_any (λ n. n == token) removed ≡ false
    → kept_entry removed token o ≡ own_entry (text_in o) ∷ []
kept_some removed token o f is e =
    ap (kept_entry removed token) is
    ∙ ap (λ (b : Bool). if b then [] else own_entry (Some f.text) ∷ []) e
    ∙ ap (λ (p : Option FileToken). own_entry (text_in p) ∷ []) (sym is)

pub kept_stays : (files : List FileToken) (removed : List ℕ) (token : ℕ) → token < length files → list_any (λ n. n == token) removed ≡ false
    → kept_entry removed token (slice_get files token) ≡ own_entry (text_at files token) ∷ []
kept_stays files removed token less e = let f = there files token less in kept_some removed token (slice_get files token) f.0 f.1 e

module _ (files : List FileToken) (removed : List ℕ) where
  -- ---- to the left

  at_elsewhere : (xs : List PlacedBlock) (b : PlacedBlock) (token : ℕ) → is_place token false b ≡ false → is_place token true b ≡ false
      → entries_at files removed (xs ++ b ∷ []) token ≡ entries_at files removed xs token
  at_elsewhere xs b token apart nor =
      let kept = kept_entry removed token (slice_get files token) in
      λ i. last_elsewhere token false b xs apart i ++ (kept ++ last_elsewhere token true b xs nor i)

  earlier : (b : PlacedBlock) (token : ℕ) (after : Bool) → token < b.spot.token → rank_of b ≡ rank_at token after → ⊥
  earlier b token after less e = let small = side_small after in omega (arith, less, e, small)

  earlier_same : (xs : List PlacedBlock) (b : PlacedBlock) (n : ℕ) → n ≤ b.spot.token
      → entries_before files removed (xs ++ b ∷ []) n ≡ entries_before files removed xs n
  earlier_same xs b zero le = refl
  earlier_same xs b (suc n) le =
      let rest = earlier_same xs b n (omega (arith, le)) in
      let here = at_elsewhere xs b n (no_place n false b (earlier b n false (omega (arith, le)))) (no_place n true b (earlier b n true (omega (arith, le)))) in
      λ i. rest i ++ here i

  other_side : (b : PlacedBlock) (token : ℕ) (after other : Bool) → rank_of b ≡ rank_at token after → (side after ≡ side other → ⊥)
      → rank_of b ≡ rank_at token other → ⊥
  other_side b token after other e ne f = ne (omega (arith, e, f))

  one_zero : side true ≡ side false → ⊥
  one_zero e = omega (arith, e)

  zero_one : side false ≡ side true → ⊥
  zero_one e = omega (arith, e)

  -- the last block before a place is at it
  pub before_more : (xs : List PlacedBlock) (b : PlacedBlock) (t : ℕ) (after : Bool) → is_place t after b ≡ true
      → before files removed (xs ++ b ∷ []) t after ≡ before files removed xs t after ++ block_entry b ∷ []
  before_more xs b t false e =
      let same = place_token t false b e in
      (λ i. earlier_same xs b t (omega (arith, same)) i ++ last_here t false b xs e i)
      ∙ sym (append_assoc (entries_before files removed xs t) (blocks_at t false xs) (block_entry b ∷ []))
  before_more xs b t true e =
      let same = place_token t true b e in
      let r = place_rank t true b e in
      let kept = kept_entry removed t (slice_get files t) in
      let left = blocks_at t false xs in
      let right = blocks_at t true xs in
      let own = block_entry b ∷ [] in
      let first = last_elsewhere t false b xs (no_place t false b (other_side b t true false r one_zero)) in
      (λ i. earlier_same xs b t (omega (arith, same)) i ++ (first i ++ (kept ++ last_here t true b xs e i)))
      ∙ ap (λ (l : List Entry). entries_before files removed xs t ++ (left ++ l)) (sym (append_assoc kept right own))
      ∙ ap (λ (l : List Entry). entries_before files removed xs t ++ l) (sym (append_assoc left (kept ++ right) own))
      ∙ sym (append_assoc (entries_before files removed xs t) (left ++ (kept ++ right)) own)

  -- no block is behind a token that stays
  pub before_kept : (xs : List PlacedBlock) (token : ℕ) → blocks_at token true xs ≡ [] → token < length files → list_any (λ n. n == token) removed ≡ false
      → last_in None (before files removed xs token true) ≡ text_at files token
  before_kept xs token none less stays =
      let all = entries_before files removed xs token in
      let left = blocks_at token false xs in
      let own = own_entry (text_at files token) ∷ [] in
      ap (last_in None) (λ i. all ++ (left ++ (kept_stays files removed token less stays i ++ none i)))
      ∙ ap (last_in None) (sym (append_assoc all left own))
      ∙ last_in-append None (all ++ left) own
      ∙ some_last (last_in None (all ++ left)) (slice_get files token) (there files token less).0 (there files token less).1
    where
      some_last : (l : Option (List ℕ)) (o : Option FileToken) (f : FileToken) → o ≡ Some f → left_after l (text_in o) ≡ text_in o
      some_last l o f is = ap (λ (p : Option FileToken). left_after l (text_in p)) is ∙ ap text_in (sym is)

  -- nor behind one that goes
  pub before_gone : (xs : List PlacedBlock) (token : ℕ) → blocks_at token true xs ≡ [] → list_any (λ n. n == token) removed ≡ true
      → before files removed xs token true ≡ before files removed xs token false
  before_gone xs token none gone =
      let all = entries_before files removed xs token in
      let left = blocks_at token false xs in
      (λ i. all ++ (left ++ (kept_gone removed token (slice_get files token) gone i ++ none i)))
      ∙ ap (λ (l : List Entry). all ++ l) (append-nil left)

  pub before_first : (xs : List PlacedBlock) → blocks_at 0 false xs ≡ [] → last_in None (before files removed xs 0 false) ≡ None
  before_first xs none = ap (last_in None) none

  pub before_next : (xs : List PlacedBlock) (token : ℕ) → blocks_at (suc token) false xs ≡ []
      → before files removed xs (suc token) false ≡ before files removed xs token true
  before_next xs token none =
      ap (λ (l : List Entry). entries_before files removed xs (suc token) ++ l) none ∙ append-nil (entries_before files removed xs (suc token))

  -- ---- to the right

  from_elsewhere : (xs : List PlacedBlock) (b : PlacedBlock) (token : ℕ) → is_place token false b ≡ false → is_place token true b ≡ false
      → entries_at files removed (b ∷ xs) token ≡ entries_at files removed xs token
  from_elsewhere xs b token apart nor =
      let kept = kept_entry removed token (slice_get files token) in
      λ i. first_elsewhere token false b xs apart i ++ (kept ++ first_elsewhere token true b xs nor i)

  later : (b : PlacedBlock) (token : ℕ) (after : Bool) → b.spot.token < token → rank_of b ≡ rank_at token after → ⊥
  later b token after less e = let small = side_small b.spot.after in omega (arith, less, e, small)

  later_same : (xs : List PlacedBlock) (b : PlacedBlock) (token n : ℕ) → b.spot.token < token
      → entries_from files removed (b ∷ xs) token n ≡ entries_from files removed xs token n
  later_same xs b token zero less = refl
  later_same xs b token (suc n) less =
      let here = from_elsewhere xs b token (no_place token false b (later b token false less)) (no_place token true b (later b token true less)) in
      let rest = later_same xs b (token + 1) n (omega (arith, less)) in
      λ i. here i ++ rest i

  pub behind_more : (xs : List PlacedBlock) (b : PlacedBlock) (t : ℕ) (after : Bool) → is_place t after b ≡ true
      → behind files removed (b ∷ xs) t after ≡ block_entry b ∷ behind files removed xs t after
  behind_more xs b t false e =
      let same = place_token t false b e in
      let r = place_rank t false b e in
      let kept = kept_entry removed t (slice_get files t) in
      let other = first_elsewhere t true b xs (no_place t true b (other_side b t false true r zero_one)) in
      let rest = later_same xs b (t + 1) (length files - (t + 1)) (omega (arith, same)) in
      λ i. (first_here t false b xs e i ++ (kept ++ other i)) ++ rest i
  behind_more xs b t true e =
      let same = place_token t true b e in
      let rest = later_same xs b (t + 1) (length files - (t + 1)) (omega (arith, same)) in
      λ i. first_here t true b xs e i ++ rest i

  pub behind_kept : (xs : List PlacedBlock) (token : ℕ) → blocks_at token false xs ≡ [] → token < length files → list_any (λ n. n == token) removed ≡ false
      → first_in (behind files removed xs token false) ≡ text_at files token
  behind_kept xs token none less stays =
      let right = blocks_at token true xs in
      let rest = entries_from files removed xs (token + 1) (length files - (token + 1)) in
      ap first_in (λ i. (none i ++ (kept_stays files removed token less stays i ++ right)) ++ rest)
      ∙ some_first (first_in (right ++ rest)) (slice_get files token) (there files token less).0 (there files token less).1
    where
      some_first : (l : Option (List ℕ)) (o : Option FileToken) (f : FileToken) → o ≡ Some f → left_after l (text_in o) ≡ text_in o
      some_first l o f is = ap (λ (p : Option FileToken). left_after l (text_in p)) is ∙ ap text_in (sym is)

  pub behind_gone : (xs : List PlacedBlock) (token : ℕ) → blocks_at token false xs ≡ [] → list_any (λ n. n == token) removed ≡ true
      → behind files removed xs token false ≡ behind files removed xs token true
  behind_gone xs token none gone =
      let right = blocks_at token true xs in
      let rest = entries_from files removed xs (token + 1) (length files - (token + 1)) in
      λ i. (none i ++ (kept_gone removed token (slice_get files token) gone i ++ right)) ++ rest

  pub behind_last : (xs : List PlacedBlock) (token : ℕ) → blocks_at token true xs ≡ [] → length files ≤ token + 1
      → first_in (behind files removed xs token true) ≡ None
  behind_last xs token none le =
      let end : length files - (token + 1) ≡ 0 = omega (arith, le) in
      ap first_in (λ i. none i ++ entries_from files removed xs (token + 1) (end i))

  pub behind_next : (xs : List PlacedBlock) (token : ℕ) → blocks_at token true xs ≡ [] → token + 1 < length files
      → behind files removed xs token true ≡ behind files removed xs (token + 1) false
  behind_next xs token none less =
      let more : length files - (token + 1) ≡ suc (length files - (token + 1 + 1)) = omega (arith, less) in
      λ i. none i ++ entries_from files removed xs (token + 1) (more i)
