-- Flags of tokens, and how many of them are set up to each.
use Rattle.std.proofs.Common.{◌≡◌, ◌<◌, ◌≤◌, ◌+◌, ◌-◌, ◌&&◌, ◌||◌, ◌⊎◌, ℕ, zero, suc, inl, inr, Bool, true, false, not, refl, sym, ap, ◌∙◌, arith, cond}
use Rattle.std.proofs.Common.{List, [], ◌∷◌, ◌++◌, append_assoc, length, length-append, get_or, take, drop}
use Rattle.std.specs.Prelude.{Some, count_by, filter, nat_eq, nat_lt, slice_get, if◌then◌else◌}
use Rattle.std.specs.List.{list_any, range_with_len}
use Rattle.std.proofs.lemmas.Bool.Decides.{nat_tests}
use Rattle.std.proofs.lemmas.List.Elements.{filter_more}
use Rattle.std.proofs.lemmas.List.Sums.{count_by_more_no, count_by_more_yes}
use Rattle.std.proofs.Math.ListN.{get_or-append}
use Rattle.std.proofs.Math.Seq.{get_or-append_seam}
use Rattle.c_lexer.specs.declared.piece.PieceKind.{PieceKind}
use Rattle.c_lexer.specs.declared.piece.PieceKind.TheVariants.{Word, Blank, Comment, Line}
use Rattle.c_lexer.specs.Pieces.{TextPiece}
use Rattle.edit_unparse.specs.declared.tidy.commas.CommaList.{CommaList}
use Rattle.edit_unparse.specs.Fair.{after_stray}
use Rattle.edit_unparse.specs.Tidy.Fair.{behind_strays, closings, has_stray, token_flag}
use Rattle.tidy_flags.specs.Signs.{is_closing}
use Rattle.edit_bodies.specs.Calm.{AreSetCounts, after_line, behind_lines, has_flag, is_calm}

-- ---- one piece more

there : (pieces : List TextPiece) (i : ℕ) (p : TextPiece) → slice_get pieces i ≡ Some p → drop i pieces ≡ p ∷ drop (suc i) pieces
there [] i p at = absurd cc
there (q ∷ pieces) zero p at = let same : q ≡ p = cc in ap (λ (x : TextPiece). x ∷ pieces) same
there (q ∷ pieces) (suc i) p at = there pieces i p at

there_next : (pieces : List TextPiece) (i : ℕ) (p : TextPiece) → slice_get pieces i ≡ Some p → drop i pieces ≡ p ∷ drop (i + 1) pieces
there_next pieces i p at =
    let next : suc i ≡ i + 1 = omega arith in
    there pieces i p at ∙ ap (λ (k : ℕ). p ∷ drop k pieces) next

-- the flags of a piece come behind those of the pieces before it
more : (old new front behind rest all : List Bool) → new ≡ old ++ front → rest ≡ front ++ behind → old ++ rest ≡ all → new ++ behind ≡ all
more old new front behind rest all is parts before =
    ap (λ (l : List Bool). l ++ behind) is ∙ append_assoc old front behind ∙ ap (λ (l : List Bool). old ++ l) (sym parts) ∙ before

pub closings_more : (pieces : List TextPiece) (i : ℕ) (p : TextPiece) (old new all : List Bool) (is : Bool) → slice_get pieces i ≡ Some p
    → is ≡ is_closing p.text → new ≡ old ++ token_flag p.kind is → old ++ closings (drop i pieces) ≡ all → new ++ closings (drop (i + 1) pieces) ≡ all
closings_more pieces i p old new all is at own made before =
    more old new (token_flag p.kind (is_closing p.text)) (closings (drop (i + 1) pieces)) (closings (drop i pieces)) all
    (made ∙ ap (λ (b : Bool). old ++ token_flag p.kind b) own) (ap closings (there_next pieces i p at)) before

pub strays_more : (pieces : List TextPiece) (i : ℕ) (p : TextPiece) (old new all : List Bool) (after next : Bool) → slice_get pieces i ≡ Some p
    → new ≡ old ++ token_flag p.kind after → next ≡ after_stray p.kind after → old ++ behind_strays after (drop i pieces) ≡ all
    → new ++ behind_strays next (drop (i + 1) pieces) ≡ all
strays_more pieces i p old new all after next at made is before =
    ap (λ (b : Bool). new ++ behind_strays b (drop (i + 1) pieces)) is
    ∙ more old new (token_flag p.kind after) (behind_strays (after_stray p.kind after) (drop (i + 1) pieces)) (behind_strays after (drop i pieces)) all
    made (ap (behind_strays after) (there_next pieces i p at)) before

pub lines_more : (pieces : List TextPiece) (i : ℕ) (p : TextPiece) (old new all : List Bool) (after next : Bool) → slice_get pieces i ≡ Some p
    → new ≡ old ++ token_flag p.kind after → next ≡ after_line p.kind after → old ++ behind_lines after (drop i pieces) ≡ all
    → new ++ behind_lines next (drop (i + 1) pieces) ≡ all
lines_more pieces i p old new all after next at made is before =
    ap (λ (b : Bool). new ++ behind_lines b (drop (i + 1) pieces)) is
    ∙ more old new (token_flag p.kind after) (behind_lines (after_line p.kind after) (drop (i + 1) pieces)) (behind_lines after (drop i pieces)) all
    made (ap (behind_lines after) (there_next pieces i p at)) before

-- ---- each token has one flag

as_many : (k : PieceKind) (a b : Bool) → length (token_flag k a) ≡ length (token_flag k b)
as_many (Word kind id) a b = refl
as_many Blank a b = refl
as_many Comment a b = refl
as_many Line a b = refl

both_long : (k : PieceKind) (a b : Bool) (xs ys : List Bool) → length xs ≡ length ys → length (token_flag k a ++ xs) ≡ length (token_flag k b ++ ys)
both_long k a b xs ys e = length-append (token_flag k a) xs ∙ (λ i. as_many k a b i + e i) ∙ sym (length-append (token_flag k b) ys)

pub as_many_strays : (after : Bool) (pieces : List TextPiece) → length (closings pieces) ≡ length (behind_strays after pieces)
as_many_strays after [] = refl
as_many_strays after (p ∷ pieces) =
    both_long p.kind (is_closing p.text) after (closings pieces) (behind_strays (after_stray p.kind after) pieces)
    (as_many_strays (after_stray p.kind after) pieces)

pub as_many_lines : (after : Bool) (pieces : List TextPiece) → length (closings pieces) ≡ length (behind_lines after pieces)
as_many_lines after [] = refl
as_many_lines after (p ∷ pieces) =
    both_long p.kind (is_closing p.text) after (closings pieces) (behind_lines (after_line p.kind after) pieces)
    (as_many_lines (after_line p.kind after) pieces)

pub within : (flags : List Bool) (n : ℕ) → get_or flags n false ≡ true → n < length flags
within [] n e = absurd cc
within (b ∷ flags) zero e = omega arith
within (b ∷ flags) (suc n) e = let less = within flags n e in omega (arith, less)

-- ---- counts

abbrev set_up_to : List Bool → ℕ → ℕ
set_up_to flags n = count_by (λ f. f) (take n flags)

order : (a b : ℕ) → (a ≤ b) ⊎ (b < a)
order a b = grind arith

pub count_more : (flags : List Bool) (i count next : ℕ) (is : Bool) → i < length flags → is ≡ get_or flags i false
    → next ≡ (if is then count + 1 else count) → count ≡ set_up_to flags i → next ≡ set_up_to flags (i + 1)
count_more flags i count next true less is same h =
    same ∙ ap (λ (n : ℕ). n + 1) h ∙ sym (count_by_more_yes (λ f. f) flags i false less (sym is))
count_more flags i count next false less is same h = same ∙ h ∙ sym (count_by_more_no (λ f. f) flags i false less (sym is))

pub counts_more : (flags : List Bool) (counts new : List ℕ) (i next : ℕ) → length counts ≡ i → new ≡ counts ++ next ∷ []
    → ((n : ℕ) → n < length counts → get_or counts n 0 ≡ set_up_to flags (n + 1)) → next ≡ set_up_to flags (i + 1)
    → (n : ℕ) → n < length new → get_or new n 0 ≡ set_up_to flags (n + 1)
counts_more flags counts new i next long is each own n less =
    elim (order (length counts) n) [
      | inl le ↦
          let longer : length new ≡ length counts + 1 = ap length is ∙ length-append counts (next ∷ []) in
          let here : n ≡ length counts = omega (arith, longer, le, less) in
          ap (λ (m : ℕ). get_or new m 0) here ∙ ap (λ (l : List ℕ). get_or l (length counts) 0) is ∙ get_or-append_seam counts next [] 0 ∙ own
          ∙ ap (λ (m : ℕ). set_up_to flags (m + 1)) (sym (here ∙ long))
      | inr before ↦ ap (λ (l : List ℕ). get_or l n 0) is ∙ get_or-append counts (next ∷ []) 0 n before ∙ each n before
    ]

pub longer : (counts new : List ℕ) (i next : ℕ) → length counts ≡ i → new ≡ counts ++ next ∷ [] → length new ≡ i + 1
longer counts new i next long is = ap length is ∙ length-append counts (next ∷ []) ∙ ap (λ (n : ℕ). n + 1) long

-- one flag more is set, or none
step : (flags : List Bool) (n : ℕ) (b : Bool) → n < length flags → get_or flags n false ≡ b → set_up_to flags (n + 1) ≡ set_up_to flags n + cond b 1 0
step flags n true less is = count_by_more_yes (λ f. f) flags n false less is
step flags n false less is = let same = count_by_more_no (λ f. f) flags n false less is in omega (arith, same)

-- counts don't fall
rise : (flags : List Bool) (k n : ℕ) → n + k ≤ length flags → set_up_to flags n ≤ set_up_to flags (n + k)
rise flags zero n fits = let same : n + 0 ≡ n = omega arith in omega (arith, ap (set_up_to flags) same)
rise flags (suc k) n fits =
    let next : n + suc k ≡ (n + 1) + k = omega arith in
    let own = step flags n (get_or flags n false) (omega (arith, fits)) refl in
    omega (arith, own, rise flags k (n + 1) (omega (arith, fits)), ap (set_up_to flags) next)

-- the counts before and behind some flags are equal if none of them is set
none_set : (flags : List Bool) (k n : ℕ) → n + k ≤ length flags
    → nat_eq (set_up_to flags n) (set_up_to flags (n + k)) ≡ not (list_any (λ m. get_or flags m false) (range_with_len n k))
none_set flags zero n fits = let same : n ≡ n + 0 = omega arith in equal (set_up_to flags n) (set_up_to flags (n + 0)) (ap (set_up_to flags) same)
  where
    equal : (a b : ℕ) → a ≡ b → nat_eq a b ≡ true
    equal a b e = grind (arith, nat_tests)
none_set flags (suc k) n fits =
    let next : n + suc k ≡ (n + 1) + k = omega arith in
    let later = list_any (λ m. get_or flags m false) (range_with_len (n + 1) k) in
    let fits_next : (n + 1) + k ≤ length flags = omega (arith, fits) in
    ap (λ (m : ℕ). nat_eq (set_up_to flags n) (set_up_to flags m)) next
    ∙ by_flag (get_or flags n false) later (set_up_to flags n) (set_up_to flags (n + 1)) (set_up_to flags ((n + 1) + k))
    (step flags n (get_or flags n false) (omega (arith, fits)) refl) (rise flags k (n + 1) fits_next) (none_set flags k (n + 1) fits_next)
  where
    by_flag : (b later : Bool) (a c d : ℕ) → c ≡ a + cond b 1 0 → c ≤ d → nat_eq c d ≡ not later → nat_eq a d ≡ not (b || later)
    by_flag true later a c d is le h = apart a d (omega (arith, is, le))
      where
        apart : (a d : ℕ) → a < d → nat_eq a d ≡ false
        apart a d less = grind (arith, nat_tests)
    by_flag false later a c d is le h = let same : a ≡ c = omega (arith, is) in ap (λ (m : ℕ). nat_eq m d) same ∙ h

-- as many flags are set up to the opening bracket as up to the closing one
pub none_between : (flags : List Bool) (counts : List ℕ) (l : CommaList) → AreSetCounts flags counts → l.opening < l.closing → l.closing < length flags
    → nat_eq (get_or counts l.opening 0) (get_or counts l.closing 0) ≡ not (has_flag flags l)
none_between flags counts l are rises less =
    let last : (l.opening + 1) + (l.closing - l.opening) ≡ l.closing + 1 = omega (arith, rises) in
    (λ i. nat_eq (are.each l.opening (omega (arith, rises, less, are.long)) i) (are.each l.closing (omega (arith, less, are.long)) i))
    ∙ ap (λ (n : ℕ). nat_eq (set_up_to flags (l.opening + 1)) (set_up_to flags n)) (sym last)
    ∙ none_set flags (l.closing - l.opening) (l.opening + 1) (omega (arith, rises, less))

-- ---- calm lists

not_less : (a b : ℕ) → b ≤ a → nat_lt a b ≡ false
not_less a b le = grind (arith, nat_tests)

less_is : (a b : ℕ) → a < b → nat_lt a b ≡ true
less_is a b less = grind (arith, nat_tests)

-- a list whose brackets don't stand in order, or that ends with no closing bracket, is not calm
pub out_of_order : (pieces : List TextPiece) (l : CommaList) → l.closing ≤ l.opening → false ≡ is_calm pieces l
out_of_order pieces l le =
    sym (ap (λ (b : Bool). (b && (get_or (closings pieces) l.closing false && not (has_stray pieces l))) && not (has_flag (behind_lines false pieces) l))
    (not_less l.opening l.closing le))

without_end : (a b c d : Bool) → b ≡ false → false ≡ ((a && (b && c)) && d)
without_end true b c d e = sym (ap (λ (x : Bool). (x && c) && d) e)
without_end false b c d e = refl

pub not_closed : (pieces : List TextPiece) (l : CommaList) (flags : List Bool) (is : Bool) → is ≡ get_or flags l.closing false → flags ≡ closings pieces
    → is ≡ false → false ≡ is_calm pieces l
not_closed pieces l flags is own same e =
    without_end (nat_lt l.opening l.closing) (get_or (closings pieces) l.closing false) (not (has_stray pieces l))
    (not (has_flag (behind_lines false pieces) l))
    (sym (own ∙ ap (λ (bs : List Bool). get_or bs l.closing false) same) ∙ e)

-- a list that ends with a closing bracket, by what the code knows of it
pub record IsClosed (pieces : List TextPiece) (l : CommaList) : Type 0 where
  pub rises : l.opening < l.closing
  pub closes : get_or (closings pieces) l.closing false ≡ true
  pub in_strays : l.closing < length (behind_strays false pieces)
  pub in_lines : l.closing < length (behind_lines false pieces)

pub closed : (pieces : List TextPiece) (l : CommaList) (flags : List Bool) (is : Bool) → is ≡ get_or flags l.closing false → flags ≡ closings pieces
    → is ≡ true → l.opening < l.closing → IsClosed pieces l
closed pieces l flags is own same e rises =
    let closes = sym (own ∙ ap (λ (bs : List Bool). get_or bs l.closing false) same) ∙ e in
    let fits = within (closings pieces) l.closing closes in
    record {
      rises = rises;
      closes = closes;
      in_strays = omega (arith, fits, as_many_strays false pieces);
      in_lines = omega (arith, fits, as_many_lines false pieces);
    }

all_hold : (a b c d : Bool) → a ≡ true → b ≡ true → ((a && (b && c)) && d) ≡ (c && d)
all_hold a b c d p q = ap (λ (x : Bool). (x && (b && c)) && d) p ∙ ap (λ (x : Bool). (x && c) && d) q

calm_is : (pieces : List TextPiece) (l : CommaList) → IsClosed pieces l
    → is_calm pieces l ≡ (not (has_stray pieces l) && not (has_flag (behind_lines false pieces) l))
calm_is pieces l h =
    all_hold (nat_lt l.opening l.closing) (get_or (closings pieces) l.closing false) (not (has_stray pieces l))
    (not (has_flag (behind_lines false pieces) l)) (less_is l.opening l.closing h.rises) h.closes

pub calm_then : (pieces : List TextPiece) (l : CommaList) (strays lines : Bool) → IsClosed pieces l → strays ≡ not (has_stray pieces l) → strays ≡ true
    → lines ≡ not (has_flag (behind_lines false pieces) l) → lines ≡ is_calm pieces l
calm_then pieces l strays lines h own e is =
    is ∙ ap (λ (b : Bool). b && not (has_flag (behind_lines false pieces) l)) (sym e ∙ own) ∙ sym (calm_is pieces l h)

pub calm_else : (pieces : List TextPiece) (l : CommaList) (strays : Bool) → IsClosed pieces l → strays ≡ not (has_stray pieces l) → strays ≡ false
    → strays ≡ is_calm pieces l
calm_else pieces l strays h own e =
    e ∙ ap (λ (b : Bool). b && not (has_flag (behind_lines false pieces) l)) (sym e ∙ own) ∙ sym (calm_is pieces l h)

pub list_push : (test : CommaList → Bool) (lists : List CommaList) (i : ℕ) (d : CommaList) (is : Bool) (old new : List CommaList) → i < length lists
    → is ≡ test (get_or lists i d) → new ≡ old ++ (if is then get_or lists i d ∷ [] else []) → old ≡ filter test (take i lists)
    → new ≡ filter test (take (i + 1) lists)
list_push test lists i d is old new less same made h =
    made ∙ (λ j. h j ++ (if same j then get_or lists i d ∷ [] else [])) ∙ sym (filter_more test lists i d less)
