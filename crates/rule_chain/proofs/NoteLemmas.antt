-- The first token of an item that was loaded, and the texts of its tokens, token by token.
use Rattle.std.proofs.Common.{◌≡◌, ◌∙◌, ◌<◌, ◌≤◌, ◌+◌, ◌-◌, ◌||◌, ◌⊎◌, inl, inr, ℕ, zero, suc, Bool, true, false, cond, refl, sym, ap, subst, arith, add-one}
use Rattle.std.proofs.Common.{List, [], ◌∷◌, ◌++◌, length, take, drop, get_or, drop-cons, slice_range, Option, Some, None}
use Rattle.std.specs.Prelude.{if◌then◌else◌, is_some, option_and_then, slice_get}
use Rattle.std.specs.Option.{option_or, option_map_or}
use Rattle.std.specs.List.{list_any}
use Rattle.std.proofs.Math.Bool.{or-false}
use Rattle.std.proofs.lemmas.List.{drop_all}
use Rattle.std.proofs.lemmas.List.Folds.{list_any-append}
use Rattle.c_terms.specs.Same.{same_bytes}
use Rattle.c_terms.specs.Names.{has_name, with_name}
use Rattle.c_terms.proofs.BareLaws.{same_bytes-equal}
use Rattle.c_terms.proofs.SameLaws.{bytes-sym}
use Rattle.c_lexer.specs.Pieces.{TextPiece}
use Rattle.cpp_lines.specs.declared.span.ItemSpan.{ItemSpan}
use Rattle.cpp_lines.specs.declared.reading.Item.{Item}
use Rattle.cpp_lines.specs.declared.reading.Item.TheVariants.{Parsed, Skipped}
use Rattle.c_file.specs.File.{FileItems}
use Rattle.rule_chain.specs.RuleRun.Notes.{loaded_id, first_loaded, notes_from}
use Rattle.rule_chain.specs.RuleRun.Needed.{is_word_at, notes_where}

range_cons : (xs : List ℕ) (i last : ℕ) → i < last → i < length xs → slice_range xs i last ≡ get_or xs i 0 ∷ slice_range xs (suc i) last
range_cons xs i last lt within =
    let one : last - i ≡ suc (last - suc i) = omega (arith, lt) in
    (λ k. take (one k) (drop-cons xs i 0 within k))

or_none : (o p : Option ℕ) → is_some o ≡ false → option_or o p ≡ p
or_none None p none = refl
or_none (Some x) p none = absurd cc

or_some : (o p : Option ℕ) → is_some o ≡ true → option_or o p ≡ o
or_some None p some = absurd cc
or_some (Some x) p some = refl

module _ (loaded : ℕ) (pieces : List TextPiece) (shown : List ℕ) (i last : ℕ) (lt : i < last) (within : i < length shown) (id : Option ℕ)
    (is : id ≡ option_and_then (λ (p : TextPiece). loaded_id loaded p.kind) (slice_get pieces (get_or shown i 0))) where
  abbrev later : Option ℕ
  later = first_loaded loaded pieces (slice_range shown (suc i) last)

  at_first : first_loaded loaded pieces (slice_range shown i last) ≡ option_or id later
  at_first = ap (first_loaded loaded pieces) (range_cons shown i last lt within) ∙ ap (λ (o : Option ℕ). option_or o later) (sym is)

  pub found : is_some id ≡ true → first_loaded loaded pieces (slice_range shown i last) ≡ id
  found some = at_first ∙ or_some id later some

  pub passed : is_some id ≡ false → first_loaded loaded pieces (slice_range shown (i + 1) last) ≡ first_loaded loaded pieces (slice_range shown i last)
  passed none = ap (λ n. first_loaded loaded pieces (slice_range shown n last)) (add-one i) ∙ sym (or_none id later none) ∙ sym at_first

-- ---- notes on items that pass a test

-- where no item passes there are none
pub none_where : (test : ItemSpan → Bool) → ((span : ItemSpan) → test span ≡ false) → (loaded reading : ℕ) (file : FileItems) (at : ℕ) (items : List Item)
    → notes_where test loaded reading file at items ≡ []
none_where test none loaded reading file at [] = refl
none_where test none loaded reading file at (Parsed t ∷ items) = none_where test none loaded reading file (suc at) items
none_where test none loaded reading file at (Skipped span why ∷ items) =
    let one = notes_from loaded reading file at (Skipped span why ∷ []) ++ notes_where test loaded reading file (suc at) items in
    (λ i. cond (none span i) one (none_where test none loaded reading file (suc at) items i))

-- ---- the texts of an item's tokens

-- one more text in a set
named : (names : List (List ℕ)) (t w : List ℕ) → has_name (with_name names t) w ≡ (has_name names w || same_bytes t w)
named names t w = by (has_name names t) refl
  where
    known : (b : Bool) → same_bytes t w ≡ b → has_name names t ≡ true → has_name names w ≡ (has_name names w || b)
    known true e h =
        let there : has_name names w ≡ true = subst (λ (v : List ℕ). has_name names v ≡ true) (same_bytes-equal t w e) h in
        there ∙ sym (ap (λ b. b || true) there)
    known false e h = sym (or-false (has_name names w))

    by : (b : Bool) → has_name names t ≡ b → has_name (if b then names else (names ++ t ∷ [])) w ≡ (has_name names w || same_bytes t w)
    by true h = known (same_bytes t w) refl h
    by false h =
        list_any-append (same_bytes w) names (t ∷ [])
        ∙ ap (λ b. has_name names w || b) (or-false (same_bytes w t) ∙ bytes-sym w t)

-- a piece's text is added
pub piece_named : (pieces : List TextPiece) (n : ℕ) (p : TextPiece) (texts new : List (List ℕ)) (t : List ℕ) → slice_get pieces n ≡ Some p → t ≡ p.text
    → new ≡ with_name texts t → (w : List ℕ) → has_name new w ≡ (has_name texts w || is_word_at pieces w n)
piece_named pieces n p texts new t at is added w =
    ap (λ names. has_name names w) added ∙ named texts t w
    ∙ ap (λ v. has_name texts w || same_bytes v w) is
    ∙ sym (ap (λ o. has_name texts w || option_map_or (λ (q : TextPiece). same_bytes q.text w) o false) at)

-- there is no such piece
pub no_piece : (pieces : List TextPiece) (n : ℕ) (texts : List (List ℕ)) → length pieces ≤ n → (w : List ℕ)
    → has_name texts w ≡ (has_name texts w || is_word_at pieces w n)
no_piece pieces n texts past w =
    sym (or-false (has_name texts w))
    ∙ sym (ap (λ o. has_name texts w || option_map_or (λ (q : TextPiece). same_bytes q.text w) o false) (none_past pieces n past))
  where
    none_past : (xs : List TextPiece) (k : ℕ) → length xs ≤ k → slice_get xs k ≡ None
    none_past [] k le = refl
    none_past (x ∷ xs) zero le = absurd (omega (arith, le))
    none_past (x ∷ xs) (suc k) le = none_past xs k (omega (arith, le))

or_assoc : (a b c : Bool) → ((a || b) || c) ≡ (a || (b || c))
or_assoc true b c = refl
or_assoc false b c = refl

module _ (test : ℕ → Bool) (shown : List ℕ) (i last : ℕ) where
  -- the texts so far and what is left are the whole
  pub next_text : (one two whole : Bool) → i < last → i < length shown → two ≡ (one || test (get_or shown i 0))
      → (one || list_any test (slice_range shown i last)) ≡ whole → (two || list_any test (slice_range shown (i + 1) last)) ≡ whole
  next_text one two whole lt within is so_far =
      ap (λ b. b || list_any test (slice_range shown (i + 1) last)) is
      ∙ ap (λ n. (one || test (get_or shown i 0)) || list_any test (slice_range shown n last)) (add-one i)
      ∙ or_assoc one (test (get_or shown i 0)) (list_any test (slice_range shown (suc i) last))
      ∙ sym (ap (λ numbers. one || list_any test numbers) (range_cons shown i last lt within)) ∙ so_far

  -- nothing is left
  pub all_texts : (one whole : Bool) → (i < last → length shown ≤ i) → (one || list_any test (slice_range shown i last)) ≡ whole → one ≡ whole
  all_texts one whole past so_far =
      sym (or-false one) ∙ sym (ap (λ numbers. one || list_any test numbers) (range_none (order last i))) ∙ so_far
    where
      order : (a b : ℕ) → (a ≤ b) ⊎ (b < a)
      order a b = grind arith

      none_taken : (n : ℕ) (xs : List ℕ) → xs ≡ [] → take n xs ≡ []
      none_taken zero xs e = refl
      none_taken (suc n) [] e = refl
      none_taken (suc n) (x ∷ xs) e = absurd (cc)

      range_none : (last ≤ i) ⊎ (i < last) → slice_range shown i last ≡ []
      range_none (inl le) = let none : last - i ≡ 0 = omega (arith, le) in ap (λ n. take n (drop i shown)) none
      range_none (inr lt) = none_taken (last - i) (drop i shown) (drop_all i shown (past lt))
