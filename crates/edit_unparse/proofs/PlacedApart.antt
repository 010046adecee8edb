-- The parts of the tidied text have numbers of their own.
use Rattle.std.proofs.Common.{◌≡◌, ◌<◌, ◌≤◌, ◌+◌, ◌==◌, ◌||◌, ℕ, Bool, true, false, refl, sym, ap, ◌∙◌, arith, map}
use Rattle.std.proofs.Common.{List, [], ◌∷◌, ◌++◌, length, drop}
use Rattle.std.specs.Prelude.{Some, if◌then◌else◌}
use Rattle.std.proofs.lemmas.Bool.{false≢true}
use Rattle.std.proofs.lemmas.Bool.Decides.{nat_tests}
use Rattle.c_lexer.specs.declared.piece.PieceKind.{PieceKind}
use Rattle.c_lexer.specs.declared.piece.PieceKind.TheVariants.{Word, Blank, Comment, Line}
use Rattle.c_lexer.specs.Pieces.{TextPiece}
use Rattle.c_lexer.specs.Lexes.{id_after}
use Rattle.tidy_flags.specs.Lines.{left_of_lines}
use Rattle.edit_unparse.specs.declared.tidy.parts.Brace.{Brace}
use Rattle.edit_unparse.specs.Cutting.{cut}
use Rattle.edit_unparse.specs.Output.{Part, added, kept, new_part, new_parts}
use Rattle.edit_unparse.specs.Tidy.Commas.{is_from}
use Rattle.edit_unparse.specs.Tidy.Fallen.{has_part}
use Rattle.edit_unparse.specs.Tidy.Text.{Placement, braces_at, bytes_at, tidy_parts, tidy_placed, unless_empty, with_braces}
use Rattle.edit_unparse.proofs.FallenLemmas.{or_end}
use Rattle.edit_unparse.proofs.NumberLemmas.{Apart, has_append}

or_both : (a b : Bool) → a ≡ false → b ≡ false → (a || b) ≡ false
or_both a b e f = λ i. e i || f i

-- new parts have no numbers of old pieces
new_none : (n : ℕ) (pieces : List TextPiece) → has_part n (map new_part pieces) ≡ false
new_none n [] = refl
new_none n (p ∷ pieces) = new_none n pieces

added_none : (n : ℕ) (texts : List (List ℕ)) → has_part n (added texts) ≡ false
added_none n [] = refl
added_none n (text ∷ texts) = has_append n (new_parts text) (added texts) ∙ or_both _ _ (new_none n (cut text)) (added_none n texts)

none_apart : (parts : List Part) → ((n : ℕ) → has_part n parts ≡ false) → Apart parts
none_apart [] none = tt
none_apart (p ∷ parts) none = (λ n e. rest n, none_apart parts rest)
  where
    second : (a b : Bool) → (a || b) ≡ false → b ≡ false
    second true b e = absurd (false≢true (sym e))
    second false b e = e

    rest : (n : ℕ) → has_part n parts ≡ false
    rest n = second (is_from n p.from) (has_part n parts) (none n)

both_apart : (xs ys : List Part) → Apart xs → Apart ys → ((n : ℕ) → has_part n xs ≡ true → has_part n ys ≡ false) → Apart (xs ++ ys)
both_apart [] ys ax ay away = ay
both_apart (x ∷ xs) ys ax ay away = (
  λ n e. has_append n xs ys ∙ or_both _ _ (ax.0 n e) (away n (ap (λ (b : Bool). b || has_part n xs) e)),
  both_apart xs ys ax.1 ay (λ n e. away n (later n e)),
)
  where
    or_true : (a b : Bool) → b ≡ true → (a || b) ≡ true
    or_true true b e = refl
    or_true false b e = e

    later : (n : ℕ) → has_part n xs ≡ true → has_part n (x ∷ xs) ≡ true
    later n e = or_true (is_from n x.from) (has_part n xs) e

-- at most one part, and that has this number
pub record OnlyNumber (number : ℕ) (parts : List Part) : Type 0 where
  pub apart : Apart parts
  pub others : (n : ℕ) → (number == n) ≡ false → has_part n parts ≡ false

none_only : (number : ℕ) (parts : List Part) → ((n : ℕ) → has_part n parts ≡ false) → OnlyNumber number parts
none_only number parts none = record { apart = none_apart parts none; others = λ n e. none n }

one_only : (number : ℕ) (piece : TextPiece) → OnlyNumber number ((let p : Part = record { from = Some number; piece = piece } in p) ∷ [])
one_only number piece = record { apart = (λ n e. refl, tt); others = λ n e. or_end (number == n) ∙ e }

around_only : (number : ℕ) (xs ys zs : List Part) → ((n : ℕ) → has_part n xs ≡ false) → OnlyNumber number ys → ((n : ℕ) → has_part n zs ≡ false)
    → OnlyNumber number (xs ++ (ys ++ zs))
around_only number xs ys zs before own behind = record {
  apart = both_apart xs (ys ++ zs) (none_apart xs before) (both_apart ys zs own.apart (none_apart zs behind) (λ n e. behind n))
      (λ n e. absurd (false≢true (sym (before n) ∙ e)));
  others = λ n e. has_append n xs (ys ++ zs) ∙ or_both _ _ (before n) (has_append n ys zs ∙ or_both _ _ (own.others n e) (behind n));
}

module _ (at : Placement) (braces : List Brace) where
  kept_only : (b : Bool) (number : ℕ) (p : TextPiece) → OnlyNumber number (kept b number p)
  kept_only true number p = none_only number [] (λ n. refl)
  kept_only false number p = one_only number p

  left_only : (number : ℕ) (text : List ℕ) → OnlyNumber number (unless_empty number Blank text)
  left_only number [] = none_only number [] (λ n. refl)
  left_only number (b ∷ bytes) = one_only number (record { kind = Blank; text = b ∷ bytes })

  blank_only : (b : Bool) (number : ℕ) (text : List ℕ) → OnlyNumber number (let none : List Part = [] in if b then none else unless_empty number Blank text)
  blank_only true number text = none_only number [] (λ n. refl)
  blank_only false number text = left_only number text

  parts_only : (k : PieceKind) (flags : List Bool) (t number : ℕ) (p : TextPiece) → OnlyNumber number (tidy_parts at added braces k flags t number p)
  parts_only (Word kind id) flags t number p =
      around_only number (added (with_braces (braces_at braces t false) (at.before t))) (kept (at.goes t) number p)
      (added (with_braces (braces_at braces t true) (at.after t))) (λ n. added_none n _) (kept_only (at.goes t) number p) (λ n. added_none n _)
  parts_only Blank flags t number p = blank_only (at.joined t) number (left_of_lines flags p.text)
  parts_only Comment flags t number p = one_only number p
  parts_only Line flags t number p = one_only number p

  -- the numbers are those of these pieces
  pub placed_low : (flags : List Bool) (t number : ℕ) (pieces : List TextPiece) (n : ℕ) → n < number
      → has_part n (tidy_placed at added braces flags t number pieces) ≡ false
  placed_low flags t number [] n less = refl
  placed_low flags t number (p ∷ pieces) n less =
      has_append n (tidy_parts at added braces p.kind flags t number p) _
      ∙ or_both _ _ ((parts_only p.kind flags t number p).others n (above number n less))
      (placed_low (drop (length (bytes_at at p.kind t p.text)) flags) (id_after p.kind t) (number + 1) pieces n (omega arith))
    where
      above : (a b : ℕ) → b < a → (a == b) ≡ false
      above a b l = grind (arith, nat_tests)

  pub placed_high : (flags : List Bool) (t number : ℕ) (pieces : List TextPiece) (n : ℕ) → number + length pieces ≤ n
      → has_part n (tidy_placed at added braces flags t number pieces) ≡ false
  placed_high flags t number [] n less = refl
  placed_high flags t number (p ∷ pieces) n less =
      has_append n (tidy_parts at added braces p.kind flags t number p) _
      ∙ or_both _ _ ((parts_only p.kind flags t number p).others n (below number n (omega arith)))
      (placed_high (drop (length (bytes_at at p.kind t p.text)) flags) (id_after p.kind t) (number + 1) pieces n (omega arith))
    where
      below : (a b : ℕ) → a < b → (a == b) ≡ false
      below a b l = grind (arith, nat_tests)

  pub placed_apart : (flags : List Bool) (t number : ℕ) (pieces : List TextPiece) → Apart (tidy_placed at added braces flags t number pieces)
  placed_apart flags t number [] = tt
  placed_apart flags t number (p ∷ pieces) =
      let own = parts_only p.kind flags t number p in
      both_apart (tidy_parts at added braces p.kind flags t number p) _ own.apart
      (placed_apart (drop (length (bytes_at at p.kind t p.text)) flags) (id_after p.kind t) (number + 1) pieces)
      (λ n e. placed_low (drop (length (bytes_at at p.kind t p.text)) flags) (id_after p.kind t) (number + 1) pieces n (is_own n own e))
    where
      same : (a b : ℕ) → (a == b) ≡ true → b < a + 1
      same a b e = grind (arith, nat_tests)

      is_own : (n : ℕ) → OnlyNumber number (tidy_parts at added braces p.kind flags t number p)
          → has_part n (tidy_parts at added braces p.kind flags t number p) ≡ true → n < number + 1
      is_own n own e = by (number == n) refl
        where
          by : (b : Bool) → (number == n) ≡ b → n < number + 1
          by true f = same number n f
          by false f = absurd (false≢true (sym (own.others n f) ∙ e))
