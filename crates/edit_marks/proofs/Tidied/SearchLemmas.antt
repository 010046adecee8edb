-- Steps of the search for the token next to a block.
use Rattle.std.proofs.Common.{◌≡◌, ◌<◌, ◌≤◌, ◌+◌, ◌-◌, ◌*◌, ◌==◌, ◌&&◌, ℕ, zero, suc, Bool, true, false, refl, sym, ap, subst, ◌∙◌, arith}
use Rattle.std.proofs.Common.{List, [], ◌∷◌, ◌++◌, length, get_or, take, drop}
use Rattle.std.specs.Prelude.{Option, None, Some, slice_get, nat_lt}
use Rattle.std.specs.List.{list_any}
use Rattle.std.proofs.lemmas.Bool.Decides.{nat_tests}
use Rattle.std.proofs.lemmas.List.{take_more, drop_more, get_or-take, get_or-drop, get_or_default, length-take-le}
use Rattle.std.proofs.Common.{length-drop}
use Rattle.edit_marks.specs.declared.file_tokens.FileToken.{FileToken}
use Rattle.edit_marks.specs.declared.tidy.edges.PlacedBlock.{PlacedBlock}
use Rattle.edit_marks.specs.declared.tidy.edges.Search.{Search}
use Rattle.edit_marks.specs.declared.tidy.edges.Step.{Step}
use Rattle.edit_marks.specs.Blocks.{left_after}
use Rattle.edit_marks.specs.Spots.{side}
use Rattle.edit_marks.specs.Tidy.Layout.{last_word}
use Rattle.edit_marks.specs.Tidy.Brackets.{first_token}
use Rattle.edit_marks.specs.Tidy.Neighbours.{AreInPlace, Entry, is_place, block_entry, blocks_at, last_in, first_in, before, behind, left_of, left_of_block, right_of, right_of_block}
use Rattle.edit_marks.specs.Tidy.Searches.{is_at, is_left_here, is_right_here, text_at, found_or, rank, rank_of, found_left, found_right}
use Rattle.edit_marks.specs.Tidy.Searches.{IsLeftSearch, IsRightSearch, GoesLeft, GoesRight, IsLeftStep, IsRightStep}
use Rattle.edit_marks.proofs.Tidied.PlaceOrder.{rank_at, side_small, rank_place, ranked}
use Rattle.edit_marks.proofs.Tidied.EntryLemmas.{last_in-append, none_at, before_more, before_kept, before_gone, before_first, before_next}
use Rattle.edit_marks.proofs.Tidied.EntryLemmas.{behind_more, behind_kept, behind_gone, behind_last, behind_next}

pub some_at : {A : Type 0} (xs : List A) (n : ℕ) (d : A) → n < length xs → slice_get xs n ≡ Some (get_or xs n d)
some_at [] n d less = absurd (omega (arith, less))
some_at (x ∷ xs) zero d less = refl
some_at (x ∷ xs) (suc n) d less = some_at xs n d (omega (arith, less))

pub block_there : (xs : List PlacedBlock) (n : ℕ) (b : PlacedBlock) → n < length xs → b ≡ get_or xs n b → slice_get xs n ≡ Some b
block_there xs n b less is = some_at xs n b less ∙ ap Some (sym is)

true_not : (b : Bool) → b ≡ true → b ≡ false → ⊥
true_not true e f = absurd cc
true_not false e f = absurd cc

and_true : (a b : Bool) → a ≡ true → b ≡ true → (a && b) ≡ true
and_true true b h k = k
and_true false b h k = absurd cc

and_parts : (a b : Bool) → (a && b) ≡ true → (a ≡ true) × (b ≡ true)
and_parts true b e = (refl, e)
and_parts false b e = absurd cc

positive : (n : ℕ) → 0 < n → nat_lt 0 n ≡ true
positive n less = grind (arith, nat_tests)

some_left : (n : ℕ) → nat_lt 0 n ≡ true → 0 < n
some_left n e = grind (arith, nat_tests)

-- a block that is at the place is there
pub left_here : (blocks : List PlacedBlock) (p : Search) → is_left_here blocks p ≡ true → 0 < p.next
left_here blocks p e = some_left p.next (and_parts (nat_lt 0 p.next) (is_at p (slice_get blocks (p.next - 1))) e).0

at_within : (p : Search) (xs : List PlacedBlock) (n : ℕ) → is_at p (slice_get xs n) ≡ true → n < length xs
at_within p [] n e = absurd cc
at_within p (x ∷ xs) zero e = omega arith
at_within p (x ∷ xs) (suc n) e = let rest = at_within p xs n e in omega (arith, rest)

pub right_here : (blocks : List PlacedBlock) (p : Search) → is_right_here blocks p ≡ true → p.next < length blocks
right_here blocks p e = at_within p blocks p.next e

at_block : (p : Search) (xs : List PlacedBlock) (n : ℕ) (b : PlacedBlock) → n < length xs → b ≡ get_or xs n b → is_at p (slice_get xs n) ≡ is_place p.token p.after b
at_block p xs n b less is = ap (is_at p) (some_at xs n b less) ∙ ap (is_place p.token p.after) (sym is)

module _ (files : List FileToken) (removed : List ℕ) (blocks : List PlacedBlock) (up : AreInPlace blocks) where
  -- ---- to the left

  no_left : (p : Search) → IsLeftSearch files removed blocks p → is_left_here blocks p ≡ false → (k : ℕ) (d : PlacedBlock) → k < p.next
      → rank_of (get_or blocks k d) ≡ rank p → ⊥
  no_left p s apart k d within own =
      let last = p.next - 1 in
      let in_blocks : last < length blocks = omega (arith, within, s.next) in
      let rise : rank_of (get_or blocks k d) ≤ rank_of (get_or blocks last d) = ranked blocks up k last d (omega (arith, within)) in_blocks in
      let most : rank_of (get_or blocks last d) ≤ rank p = s.places last d (omega (arith, within)) in
      let same : rank_of (get_or blocks last d) ≡ rank_at p.token p.after = omega (arith, own, rise, most) in
      let here : is_at p (slice_get blocks last) ≡ true = ap (is_at p) (some_at blocks last d in_blocks) ∙ rank_place p.token p.after (get_or blocks last d) same in
      true_not (is_left_here blocks p) (and_true (nat_lt 0 p.next) (is_at p (slice_get blocks last)) (positive p.next (omega (arith, within))) here) apart

  none_left : (p : Search) → IsLeftSearch files removed blocks p → is_left_here blocks p ≡ false → blocks_at p.token p.after (take p.next blocks) ≡ []
  none_left p s apart = none_at p.token p.after (take p.next blocks) (λ k d less e.
      let long : length (take p.next blocks) ≡ p.next = length-take-le p.next blocks s.next in
      let within : k < p.next = omega (arith, less, long) in
      no_left p s apart k d within (ap rank_of (sym (get_or-take p.next blocks k d within)) ∙ e))

  left_found : (o : Option (List ℕ)) (p q : Search) → left_after (found_left files removed blocks q) o ≡ found_left files removed blocks p
      → IsLeftSearch files removed blocks q → q.next + rank q < p.next + rank p → IsLeftStep files removed blocks p (found_or o q)
  left_found None p q e s less = record { search = s; same = e; less = less }
  left_found (Some text) p q e s less = e

  pub left_block : (p q : Search) (b : PlacedBlock) → IsLeftSearch files removed blocks p → is_left_here blocks p ≡ true → q.next ≡ p.next - 1
      → q.token ≡ p.token → q.after ≡ p.after → b ≡ get_or blocks (p.next - 1) b
      → IsLeftStep files removed blocks p (found_or (last_word None b.words) q)
  left_block p q b s is next token after own =
      let some = left_here blocks p is in
      let m = p.next - 1 in
      let one : p.next ≡ m + 1 = omega (arith, some) in
      let in_blocks : m < length blocks = omega (arith, some, s.next) in
      let at : is_at p (slice_get blocks m) ≡ true = (and_parts (nat_lt 0 p.next) (is_at p (slice_get blocks m)) is).1 in
      let place : is_place p.token p.after b ≡ true = sym (at_block p blocks m b in_blocks own) ∙ at in
      let xs = take m blocks in
      let longer : take p.next blocks ≡ xs ++ b ∷ [] =
      ap (λ (n : ℕ). take n blocks) one ∙ take_more blocks m b in_blocks ∙ ap (λ (x : PlacedBlock). xs ++ x ∷ []) (sym own) in
      let found : found_left files removed blocks p ≡ left_after (last_in None (before files removed xs p.token p.after)) (last_word None b.words) =
      ap (λ (l : List PlacedBlock). last_in None (before files removed l p.token p.after)) longer
      ∙ ap (last_in None) (before_more files removed xs b p.token p.after place)
      ∙ last_in-append None (before files removed xs p.token p.after) (block_entry b ∷ []) in
      let same : found_left files removed blocks q ≡ last_in None (before files removed xs p.token p.after) =
      λ i. last_in None (before files removed (take (next i) blocks) (token i) (after i)) in
      let level : rank q ≡ rank p = λ i. rank_at (token i) (after i) in
      left_found (last_word None b.words) p q (ap (λ (l : Option (List ℕ)). left_after l (last_word None b.words)) same ∙ sym found)
      (record {
        next = omega (arith, next, s.next);
        token = omega (arith, token, s.token);
        places = λ k d less. let le = s.places k d (omega (arith, less, next)) in omega (arith, le, level);
      })
      (omega (arith, next, level, some))

  pub left_kept : (p : Search) → IsLeftSearch files removed blocks p → is_left_here blocks p ≡ false → p.after ≡ true
      → list_any (λ n. n == p.token) removed ≡ false → text_at files p.token ≡ found_left files removed blocks p
  left_kept p s apart after stays =
      let none : blocks_at p.token true (take p.next blocks) ≡ [] = ap (λ (a : Bool). blocks_at p.token a (take p.next blocks)) (sym after) ∙ none_left p s apart in
      sym (ap (λ (a : Bool). last_in None (before files removed (take p.next blocks) p.token a)) after
      ∙ before_kept files removed (take p.next blocks) p.token none s.token stays)

  below_next : (x r q : ℕ) → x ≤ r → (x ≡ r → ⊥) → r ≡ q + 1 → x ≤ q
  below_next x r q le apart one = omega (arith, le, apart, one)

  pub left_gone : (p q : Search) → IsLeftSearch files removed blocks p → is_left_here blocks p ≡ false → p.after ≡ true
      → list_any (λ n. n == p.token) removed ≡ true → q.next ≡ p.next → q.token ≡ p.token → q.after ≡ false → GoesLeft files removed blocks p q
  left_gone p q s apart after gone next token side_is =
      let none : blocks_at p.token true (take p.next blocks) ≡ [] = ap (λ (a : Bool). blocks_at p.token a (take p.next blocks)) (sym after) ∙ none_left p s apart in
      let p_rank : rank p ≡ 2 * p.token + 1 = ap (rank_at p.token) after in
      let q_rank : rank q ≡ 2 * p.token + 0 = λ i. rank_at (token i) (side_is i) in
      record {
        search = record {
          next = omega (arith, next, s.next);
          token = omega (arith, token, s.token);
          places = λ k d less.
              let within : k < p.next = omega (arith, less, next) in
              below_next (rank_of (get_or blocks k d)) (rank p) (rank q) (s.places k d within) (no_left p s apart k d within) (omega (arith, p_rank, q_rank));
        };
        same = (λ i. last_in None (before files removed (take (next i) blocks) (token i) (side_is i)))
            ∙ ap (last_in None) (sym (before_gone files removed (take p.next blocks) p.token none gone))
            ∙ ap (λ (a : Bool). last_in None (before files removed (take p.next blocks) p.token a)) (sym after);
        less = omega (arith, next, p_rank, q_rank);
      }

  -- at the first token
  pub left_end : (p : Search) → IsLeftSearch files removed blocks p → is_left_here blocks p ≡ false → p.after ≡ false → p.token ≡ 0
      → None ≡ found_left files removed blocks p
  left_end p s apart after first =
      let xs = take p.next blocks in
      let none : blocks_at 0 false xs ≡ [] = (λ i. blocks_at (sym first i) (sym after i) xs) ∙ none_left p s apart in
      sym ((λ i. last_in None (before files removed xs (first i) (after i))) ∙ before_first files removed xs none)

  pub left_next : (p q : Search) → IsLeftSearch files removed blocks p → is_left_here blocks p ≡ false → p.after ≡ false → 0 < p.token
      → q.next ≡ p.next → q.token ≡ p.token - 1 → q.after ≡ true → GoesLeft files removed blocks p q
  left_next p q s apart after some next token side_is =
      let xs = take p.next blocks in
      let one : p.token ≡ suc q.token = omega (arith, some, token) in
      let none : blocks_at (suc q.token) false xs ≡ [] = (λ i. blocks_at (sym one i) (sym after i) xs) ∙ none_left p s apart in
      let p_rank : rank p ≡ 2 * p.token + 0 = ap (rank_at p.token) after in
      let q_rank : rank q ≡ 2 * q.token + 1 = ap (rank_at q.token) side_is in
      record {
        search = record {
          next = omega (arith, next, s.next);
          token = omega (arith, token, s.token);
          places = λ k d less.
              let within : k < p.next = omega (arith, less, next) in
              below_next (rank_of (get_or blocks k d)) (rank p) (rank q) (s.places k d within) (no_left p s apart k d within) (omega (arith, p_rank, q_rank, one));
        };
        same = (λ i. last_in None (before files removed (take (next i) blocks) q.token (side_is i)))
            ∙ ap (last_in None) (sym (before_next files removed xs q.token none))
            ∙ (λ i. last_in None (before files removed xs (sym one i) (sym after i)));
        less = omega (arith, next, p_rank, q_rank, one);
      }

  -- ---- to the right

  no_right : (p : Search) → IsRightSearch files removed blocks p → is_right_here blocks p ≡ false → (k : ℕ) (d : PlacedBlock) → p.next ≤ k
      → k < length blocks → rank_of (get_or blocks k d) ≡ rank p → ⊥
  no_right p s apart k d from within own =
      let first = p.next in
      let in_blocks : first < length blocks = omega (arith, from, within) in
      let rise : rank_of (get_or blocks first d) ≤ rank_of (get_or blocks k d) = ranked blocks up first k d from within in
      let least : rank p ≤ rank_of (get_or blocks first d) = s.places first d (omega arith) in_blocks in
      let same : rank_of (get_or blocks first d) ≡ rank_at p.token p.after = omega (arith, own, rise, least) in
      true_not (is_right_here blocks p) (ap (is_at p) (some_at blocks first d in_blocks) ∙ rank_place p.token p.after (get_or blocks first d) same) apart

  none_right : (p : Search) → IsRightSearch files removed blocks p → is_right_here blocks p ≡ false → blocks_at p.token p.after (drop p.next blocks) ≡ []
  none_right p s apart = none_at p.token p.after (drop p.next blocks) (λ k d less e.
      let long : length (drop p.next blocks) ≡ length blocks - p.next = length-drop p.next blocks in
      no_right p s apart (p.next + k) d (omega arith) (omega (arith, less, long)) (ap rank_of (sym (get_or-drop p.next blocks k d)) ∙ e))

  right_found : (o : Option (List ℕ)) (p q : Search) → left_after (found_right files removed blocks q) o ≡ found_right files removed blocks p
      → IsRightSearch files removed blocks q
      → (length blocks - q.next) + (2 * length files - rank q) < (length blocks - p.next) + (2 * length files - rank p)
      → IsRightStep files removed blocks p (found_or o q)
  right_found None p q e s less = record { search = s; same = e; less = less }
  right_found (Some text) p q e s less = e

  pub right_block : (p q : Search) (b : PlacedBlock) → IsRightSearch files removed blocks p → is_right_here blocks p ≡ true → q.next ≡ p.next + 1
      → q.token ≡ p.token → q.after ≡ p.after → b ≡ get_or blocks p.next b
      → IsRightStep files removed blocks p (found_or (first_token b.words None) q)
  right_block p q b s is next token after own =
      let in_blocks = right_here blocks p is in
      let place : is_place p.token p.after b ≡ true = sym (at_block p blocks p.next b in_blocks own) ∙ is in
      let xs = drop (p.next + 1) blocks in
      let longer : drop p.next blocks ≡ b ∷ xs = drop_more blocks p.next b in_blocks ∙ ap (λ (x : PlacedBlock). x ∷ xs) (sym own) in
      let found : found_right files removed blocks p ≡ left_after (first_in (behind files removed xs p.token p.after)) (first_token b.words None) =
      ap (λ (l : List PlacedBlock). first_in (behind files removed l p.token p.after)) longer
      ∙ ap first_in (behind_more files removed xs b p.token p.after place) in
      let same : found_right files removed blocks q ≡ first_in (behind files removed xs p.token p.after) =
      λ i. first_in (behind files removed (drop (next i) blocks) (token i) (after i)) in
      let level : rank q ≡ rank p = λ i. rank_at (token i) (after i) in
      right_found (first_token b.words None) p q (ap (λ (l : Option (List ℕ)). left_after l (first_token b.words None)) same ∙ sym found)
      (record {
        next = omega (arith, next, in_blocks);
        token = omega (arith, token, s.token);
        places = λ k d from within. let le = s.places k d (omega (arith, from, next)) within in omega (arith, le, level);
      })
      (omega (arith, next, level, in_blocks))

  pub right_kept : (p : Search) → IsRightSearch files removed blocks p → is_right_here blocks p ≡ false → p.after ≡ false
      → list_any (λ n. n == p.token) removed ≡ false → text_at files p.token ≡ found_right files removed blocks p
  right_kept p s apart after stays =
      let xs = drop p.next blocks in
      let none : blocks_at p.token false xs ≡ [] = ap (λ (a : Bool). blocks_at p.token a xs) (sym after) ∙ none_right p s apart in
      sym (ap (λ (a : Bool). first_in (behind files removed xs p.token a)) after ∙ behind_kept files removed xs p.token none s.token stays)

  above_next : (x r q : ℕ) → r ≤ x → (x ≡ r → ⊥) → q ≡ r + 1 → q ≤ x
  above_next x r q le apart one = omega (arith, le, apart, one)

  pub right_gone : (p q : Search) → IsRightSearch files removed blocks p → is_right_here blocks p ≡ false → p.after ≡ false
      → list_any (λ n. n == p.token) removed ≡ true → q.next ≡ p.next → q.token ≡ p.token → q.after ≡ true → GoesRight files removed blocks p q
  right_gone p q s apart after gone next token side_is =
      let xs = drop p.next blocks in
      let none : blocks_at p.token false xs ≡ [] = ap (λ (a : Bool). blocks_at p.token a xs) (sym after) ∙ none_right p s apart in
      let p_rank : rank p ≡ 2 * p.token + 0 = ap (rank_at p.token) after in
      let q_rank : rank q ≡ 2 * p.token + 1 = λ i. rank_at (token i) (side_is i) in
      record {
        search = record {
          next = omega (arith, next, s.next);
          token = omega (arith, token, s.token);
          places = λ k d from within.
              let here : p.next ≤ k = omega (arith, from, next) in
              above_next (rank_of (get_or blocks k d)) (rank p) (rank q) (s.places k d here within) (no_right p s apart k d here within)
              (omega (arith, p_rank, q_rank));
        };
        same = (λ i. first_in (behind files removed (drop (next i) blocks) (token i) (side_is i)))
            ∙ ap first_in (sym (behind_gone files removed xs p.token none gone))
            ∙ ap (λ (a : Bool). first_in (behind files removed xs p.token a)) (sym after);
        less = omega (arith, next, p_rank, q_rank, s.token);
      }

  -- at the last token
  pub right_end : (p : Search) → IsRightSearch files removed blocks p → is_right_here blocks p ≡ false → p.after ≡ true → length files ≤ p.token + 1
      → None ≡ found_right files removed blocks p
  right_end p s apart after last =
      let xs = drop p.next blocks in
      let none : blocks_at p.token true xs ≡ [] = ap (λ (a : Bool). blocks_at p.token a xs) (sym after) ∙ none_right p s apart in
      sym (ap (λ (a : Bool). first_in (behind files removed xs p.token a)) after ∙ behind_last files removed xs p.token none last)

  pub right_next : (p q : Search) → IsRightSearch files removed blocks p → is_right_here blocks p ≡ false → p.after ≡ true → p.token + 1 < length files
      → q.next ≡ p.next → q.token ≡ p.token + 1 → q.after ≡ false → GoesRight files removed blocks p q
  right_next p q s apart after more next token side_is =
      let xs = drop p.next blocks in
      let none : blocks_at p.token true xs ≡ [] = ap (λ (a : Bool). blocks_at p.token a xs) (sym after) ∙ none_right p s apart in
      let p_rank : rank p ≡ 2 * p.token + 1 = ap (rank_at p.token) after in
      let q_rank : rank q ≡ 2 * q.token + 0 = ap (rank_at q.token) side_is in
      record {
        search = record {
          next = omega (arith, next, s.next);
          token = omega (arith, token, more);
          places = λ k d from within.
              let here : p.next ≤ k = omega (arith, from, next) in
              above_next (rank_of (get_or blocks k d)) (rank p) (rank q) (s.places k d here within) (no_right p s apart k d here within)
              (omega (arith, p_rank, q_rank, token));
        };
        same = (λ i. first_in (behind files removed (drop (next i) blocks) (token i) (side_is i)))
            ∙ ap first_in (sym (behind_next files removed xs p.token none more))
            ∙ ap (λ (a : Bool). first_in (behind files removed xs p.token a)) (sym after);
        less = omega (arith, next, token, p_rank, q_rank, more);
      }

  -- ---- where a search begins

  pub left_start : (number : ℕ) (b : PlacedBlock) (p : Search) → number < length blocks → b ≡ get_or blocks number b → b.spot.token < length files
      → p.next ≡ number → p.token ≡ b.spot.token → p.after ≡ b.spot.after → IsLeftSearch files removed blocks p
  left_start number b p within own in_text next token after =
      let level : rank p ≡ rank_of b = λ i. rank_at (token i) (after i) in
      record {
        next = omega (arith, next, within);
        token = omega (arith, token, in_text);
        places = λ k d less.
            let rise : rank_of (get_or blocks k d) ≤ rank_of (get_or blocks number d) = ranked blocks up k number d (omega (arith, less, next)) within in
            let here : rank_of (get_or blocks number d) ≡ rank_of b = ap rank_of (get_or_default blocks number d b within ∙ sym own) in
            omega (arith, rise, here, level);
      }

  pub right_start : (number : ℕ) (b : PlacedBlock) (p : Search) → number < length blocks → b ≡ get_or blocks number b → b.spot.token < length files
      → p.next ≡ number + 1 → p.token ≡ b.spot.token → p.after ≡ b.spot.after → IsRightSearch files removed blocks p
  right_start number b p within own in_text next token after =
      let level : rank p ≡ rank_of b = λ i. rank_at (token i) (after i) in
      record {
        next = omega (arith, next, within);
        token = omega (arith, token, in_text);
        places = λ k d from less.
            let rise : rank_of (get_or blocks number d) ≤ rank_of (get_or blocks k d) = ranked blocks up number k d (omega (arith, from, next)) less in
            let here : rank_of (get_or blocks number d) ≡ rank_of b = ap rank_of (get_or_default blocks number d b within ∙ sym own) in
            omega (arith, rise, here, level);
      }

module _ (files : List FileToken) (removed : List ℕ) (blocks : List PlacedBlock) where
  pub left_is : (number : ℕ) (b : PlacedBlock) (p : Search) → number < length blocks → b ≡ get_or blocks number b
      → p.next ≡ number → p.token ≡ b.spot.token → p.after ≡ b.spot.after → found_left files removed blocks p ≡ left_of files removed blocks number
  left_is number b p within own next token after =
      let at : slice_get blocks number ≡ Some b = some_at blocks number b within ∙ ap Some (sym own) in
      (λ i. last_in None (before files removed (take (next i) blocks) (token i) (after i)))
      ∙ sym (ap (left_of_block files removed blocks number) at)

  pub right_is : (number : ℕ) (b : PlacedBlock) (p : Search) → number < length blocks → b ≡ get_or blocks number b
      → p.next ≡ number + 1 → p.token ≡ b.spot.token → p.after ≡ b.spot.after → found_right files removed blocks p ≡ right_of files removed blocks number
  right_is number b p within own next token after =
      let at : slice_get blocks number ≡ Some b = some_at blocks number b within ∙ ap Some (sym own) in
      (λ i. first_in (behind files removed (drop (next i) blocks) (token i) (after i)))
      ∙ sym (ap (right_of_block files removed blocks number) at)
