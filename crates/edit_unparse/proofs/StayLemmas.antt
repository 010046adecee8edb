-- Steps of the loops over parts and lists: what is done, joined with what is left, is the whole.
use Rattle.std.proofs.Common.{◌≡◌, ◌<◌, ◌≤◌, ◌+◌, ◌-◌, ◌&&◌, ◌||◌, ℕ, zero, suc, Bool, true, false, not, refl, sym, ap, ◌∙◌, arith, cond, map}
use Rattle.std.proofs.Common.{List, [], ◌∷◌, ◌++◌, length, get_or, take, drop, fold, replicate}
use borrow.Rule.Slice.PartMut.{put_mid}
use Rattle.std.specs.Prelude.{if◌then◌else◌}
use Rattle.std.specs.List.{items_where_true, list_any, position_or_len, range_with_len}
use Rattle.std.proofs.lemmas.List.{append-nil, drop-map, drop_all, drop_more, get_or-map, length-map, take_all}
use Rattle.c_lexer.specs.Pieces.{TextPiece}
use Rattle.edit_unparse.specs.declared.tidy.commas.CommaList.{CommaList}
use Rattle.edit_unparse.specs.declared.tidy.parts.TextPart.{TextPart}
use Rattle.edit_unparse.specs.Output.{Part}
use Rattle.edit_unparse.specs.Tidy.Clearing.{place_of}
use Rattle.edit_unparse.specs.Tidy.Commas.{is_from, sign_of, with_list}
use Rattle.edit_unparse.specs.Tidy.Made.{part_in, parts_in}
use Rattle.tidy_flags.specs.declared.signs.Sign.{Sign}
use Rattle.tidy_flags.specs.Clearing.{comma_flags}
use Rattle.edit_unparse.proofs.BracketLemmas.{list_some, place_from, position_back}

-- the flag and the part at a place, before the rest
pub flags_ahead : (flags : List Bool) (i : ℕ) (flag : Bool) → i < length flags → flag ≡ get_or flags i false → drop i flags ≡ flag ∷ drop (i + 1) flags
flags_ahead flags i flag less is = drop_more flags i false less ∙ ap (λ (b : Bool). b ∷ drop (i + 1) flags) (sym is)

pub parts_ahead : (pieces : List TextPiece) (parts : List TextPart) (i : ℕ) (x : TextPart) → i < length parts → x ≡ get_or parts i x
    → drop i (parts_in pieces parts) ≡ part_in pieces x ∷ drop (i + 1) (parts_in pieces parts)
parts_ahead pieces parts i x less is =
    drop-map (part_in pieces) i parts
    ∙ ap (parts_in pieces) (drop_more parts i x less ∙ ap (λ (y : TextPart). y ∷ drop (i + 1) parts) (sym is))
    ∙ ap (λ (l : List Part). part_in pieces x ∷ l) (sym (drop-map (part_in pieces) (i + 1) parts))

-- one more part, if it stays
pub kept_more : (pieces : List TextPiece) (flags : List Bool) (parts : List TextPart) (i : ℕ) (flag : Bool) (x : TextPart)
    → i < length flags → i < length parts → flag ≡ get_or flags i false → x ≡ get_or parts i x
    → items_where_true (drop i flags) (drop i (parts_in pieces parts))
    ≡ (if flag then part_in pieces x ∷ [] else []) ++ items_where_true (drop (i + 1) flags) (drop (i + 1) (parts_in pieces parts))
kept_more pieces flags parts i flag x less within flag_is x_is =
    (λ j. items_where_true (flags_ahead flags i flag less flag_is j) (parts_ahead pieces parts i x within x_is j)) ∙ by flag
  where
    by : (b : Bool) → items_where_true (b ∷ drop (i + 1) flags) (part_in pieces x ∷ drop (i + 1) (parts_in pieces parts))
        ≡ (if b then part_in pieces x ∷ [] else []) ++ items_where_true (drop (i + 1) flags) (drop (i + 1) (parts_in pieces parts))
    by true = refl
    by false = refl

-- all parts stay at first
pub all_stay : (parts : List Part) (n : ℕ) → n ≡ length parts → items_where_true (replicate n true) parts ≡ parts
all_stay parts n is = ap (λ (k : ℕ). items_where_true (replicate k true) parts) is ∙ by parts
  where
    by : (ps : List Part) → items_where_true (replicate (length ps) true) ps ≡ ps
    by [] = refl
    by (p ∷ ps) = ap (λ (l : List Part). p ∷ l) (by ps)

-- a part at which the search ends, or not
pub place_more : (pieces : List TextPiece) (n : ℕ) (flags : List Bool) (parts : List TextPart) (i : ℕ) (flag : Bool) (x : TextPart) (b : Bool)
    → i < length flags → i < length parts → flag ≡ get_or flags i false → x ≡ get_or parts i x → b ≡ (flag && is_from n (part_in pieces x).from)
    → place_of n (drop i flags) (drop i (parts_in pieces parts))
    ≡ (if b then 0 else place_of n (drop (i + 1) flags) (drop (i + 1) (parts_in pieces parts)) + 1)
place_more pieces n flags parts i flag x b less within flag_is x_is b_is =
    (λ j. place_of n (flags_ahead flags i flag less flag_is j) (parts_ahead pieces parts i x within x_is j))
    ∙ ap (λ (c : Bool). if c then 0 else place_of n (drop (i + 1) flags) (drop (i + 1) (parts_in pieces parts)) + 1) (sym b_is)

-- one part more from the back
pub least_more : (pieces : List TextPiece) (parts : List TextPart) (at top : ℕ) (x : TextPart) (n old new : ℕ) → top ≡ at + 1 → at < length parts
    → x ≡ get_or parts at x → (is_from n (part_in pieces x).from ≡ true → new ≤ at) → (is_from n (part_in pieces x).from ≡ false → new ≡ old)
    → old ≤ top + position_or_len (λ p. is_from n p.from) (drop top (parts_in pieces parts))
    → new ≤ at + position_or_len (λ p. is_from n p.from) (drop at (parts_in pieces parts))
least_more pieces parts at top x n old new next less is own others before = by (is_from n (part_in pieces x).from) refl
  where
    within : at < length (parts_in pieces parts)
    within = omega (arith, length-map parts (part_in pieces))

    there : part_in pieces x ≡ get_or (parts_in pieces parts) at (part_in pieces x)
    there = ap (part_in pieces) is ∙ sym (get_or-map (part_in pieces) parts at x (part_in pieces x) less)

    later : position_or_len (λ p. is_from n p.from) (drop top (parts_in pieces parts))
        ≡ position_or_len (λ p. is_from n p.from) (drop (at + 1) (parts_in pieces parts))
    later = ap (λ (k : ℕ). position_or_len (λ p. is_from n p.from) (drop k (parts_in pieces parts))) next

    by : (b : Bool) → is_from n (part_in pieces x).from ≡ b → new ≤ at + position_or_len (λ p. is_from n p.from) (drop at (parts_in pieces parts))
    by true e = let most : new ≤ at = own e in omega arith
    by false e =
        let step : at + position_or_len (λ p. is_from n p.from) (drop at (parts_in pieces parts))
        ≡ at + 1 + position_or_len (λ p. is_from n p.from) (drop (at + 1) (parts_in pieces parts)) =
        position_back (λ p. is_from n p.from) (parts_in pieces parts) at (part_in pieces x) false within there e in
        let same : new ≡ old = others e in
        omega (arith, step, same, before, later)

-- one list more
pub lists_more : (f : List Part → CommaList → List Part) (old new all : List Part) (lists : List CommaList) (i : ℕ) (d : CommaList) → i < length lists
    → new ≡ f old (get_or lists i d) → fold f old (drop i lists) ≡ all → fold f new (drop (i + 1) lists) ≡ all
lists_more f old new all lists i d less new_is before =
    ap (λ (ps : List Part). fold f ps (drop (i + 1) lists)) new_is ∙ sym (ap (fold f old) (drop_more lists i d less)) ∙ before

-- flags that were lent as a slice, when they are back
pub lent_back : (len : ℕ) (new items : List Bool) → len ≡ length items → length new ≡ length items → take len (new ++ drop (length new) items) ≡ new
lent_back len new items count same =
    ap (take len) (ap (λ (l : List Bool). new ++ l) (drop_all (length new) items (omega arith)) ∙ append-nil new) ∙ take_all len new (omega arith)

-- one number more of a range
pub range_ahead : (f : ℕ → Bool) (n stop : ℕ) → n < stop
    → list_any f (range_with_len n (stop - n)) ≡ (f n || list_any f (range_with_len (n + 1) (stop - (n + 1))))
range_ahead f n stop less =
    let count : stop - n ≡ suc (stop - (n + 1)) = omega arith in
    ap (λ (k : ℕ). list_any f (range_with_len n k)) count

pub range_end : (f : ℕ → Bool) (n stop : ℕ) → stop ≤ n → list_any f (range_with_len n (stop - n)) ≡ false
range_end f n stop past =
    let count : stop - n ≡ zero = omega arith in
    ap (λ (k : ℕ). list_any f (range_with_len n k)) count

-- a value that is put everywhere
pub replicate_most : (m v n : ℕ) → get_or (replicate m v) n 0 ≤ v
replicate_most zero v n = omega arith
replicate_most (suc m) v zero = omega arith
replicate_most (suc m) v (suc n) = replicate_most m v n

pub position_most : (test : Part → Bool) (parts : List Part) → position_or_len test parts ≤ length parts
position_most test [] = omega arith
position_most test (p ∷ parts) = by (test p) (position_most test parts)
  where
    by : (b : Bool) → position_or_len test parts ≤ length parts → cond (not b) (1 + position_or_len test parts) 0 ≤ suc (length parts)
    by true most = omega arith
    by false most = omega arith

-- the search from a place before which the part isn't is that from the front
pub found_is : (n from start : ℕ) (flags : List Bool) (parts : List Part) → length flags ≡ length parts
    → from ≤ position_or_len (λ p. is_from n p.from) parts → (from ≤ length parts → start ≡ from + place_of n (drop from flags) (drop from parts))
    → start ≡ place_of n flags parts
found_is n from start flags parts long most found =
    let all = position_most (λ p. is_from n p.from) parts in
    let within : from ≤ length parts = omega arith in
    found within ∙ sym (place_from n flags parts from long most)

-- a list whose commas have been cleared
pub cleared : (may_end : Bool) (begin close start stop : ℕ) (parts : List Part) (signs : List Sign) (flags new : List Bool) → length flags ≡ length parts
    → signs ≡ map sign_of parts → start ≡ place_of begin flags parts → start < length parts
    → stop ≡ (start + 1) + place_of close (drop (start + 1) flags) (drop (start + 1) parts)
    → new ≡ comma_flags may_end (take (stop - (start + 1)) (drop (start + 1) signs)) (take (stop - (start + 1)) (drop (start + 1) flags))
    → items_where_true (put_mid (start + 1) (stop - (start + 1)) flags new) parts ≡ with_list may_end begin close (items_where_true flags parts)
cleared may_end begin close start stop parts signs flags new long are here within stop_is new_is =
    let m : ℕ = stop - (start + 1) in
    list_some may_end begin close parts signs flags long are start here within m (put_mid (start + 1) m flags new) (omega arith)
    (ap (λ (l : List Bool). take (start + 1) flags ++ (l ++ drop m (drop (start + 1) flags))) new_is)

-- what parts are for lists, one by one
pub signs_are : (pieces : List TextPiece) (parts : List TextPart) → map (λ p. sign_of (part_in pieces p)) parts ≡ map sign_of (parts_in pieces parts)
signs_are pieces [] = refl
signs_are pieces (p ∷ parts) = ap (λ (l : List Sign). sign_of (part_in pieces p) ∷ l) (signs_are pieces parts)
