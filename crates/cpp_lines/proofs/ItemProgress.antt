-- The items, token by token.
use Rattle.std.proofs.Common.{◌≡◌, ℕ, ◌+◌, ◌<◌, ◌≤◌, true, false, List, [], ◌∷◌, ◌++◌, length, drop, get_or, refl, sym, ap, ◌∙◌, arith, append_assoc, map}
use Rattle.std.specs.Prelude.{Some, slice_get}
use Rattle.std.proofs.lemmas.List.{append-nil, drop_all, drop_more, drop-map}
use Rattle.c_lexer.specs.Pieces.{TextPiece}
use Rattle.cpp_lines.specs.declared.sign.Sign.{Sign}
use Rattle.cpp_lines.specs.declared.span.ItemSpan.{ItemSpan}
use Rattle.cpp_lines.specs.declared.item.ItemSoFar.{ItemSoFar}
use Rattle.cpp_lines.specs.Signs.{sign_of}
use Rattle.cpp_lines.specs.Visible.{sign_at}
use Rattle.cpp_lines.specs.Items.{ends_item, last_item, items_from, items_of}
use Rattle.cpp_lines.specs.SoFar.{so_far}

-- as far as the first tokens go
pub record ItemProgress (signs : List Sign) (number first : ℕ) (item : ItemSoFar) (spans : List ItemSpan) : Type 0 where
  pub before : List Sign
  pub known : item ≡ so_far before
  pub count : first + length before ≡ number
  pub joined : spans ++ items_from first before number (drop number signs) ≡ items_of signs

pub start : (signs : List Sign) (item : ItemSoFar) → item ≡ so_far [] → ItemProgress signs 0 0 item []
start signs item is = record { before = []; known = is; count = omega arith; joined = refl }

-- a token that ends the item
pub ended : (signs : List Sign) (number first : ℕ) (item next : ItemSoFar) (spans : List ItemSpan) (sign : Sign)
    → (g : ItemProgress signs number first item spans) → drop number signs ≡ sign ∷ drop (number + 1) signs
    → ends_item sign g.before ≡ true → next ≡ so_far []
    → ItemProgress signs (number + 1) (number + 1) next (spans ++ record { first = first; last = number + 1 } ∷ [])
ended signs number first item next spans sign g here ends is = record {
  before = [];
  known = is;
  count = omega arith;
  joined =
      let span : ItemSpan = record { first = first; last = number + 1 } in
      let goes : items_from first g.before number (drop number signs) ≡ span
      ∷ items_from (number + 1) [] (number + 1) (drop (number + 1) signs) = rw (here, ends) refl in
      append_assoc spans (span ∷ []) (items_from (number + 1) [] (number + 1) (drop (number + 1) signs))
      ∙ (ap (λ (l : List ItemSpan). spans ++ l) (sym goes) ∙ g.joined);
}

-- another token
pub continued : (signs : List Sign) (number first : ℕ) (item next : ItemSoFar) (spans : List ItemSpan) (sign : Sign)
    → (g : ItemProgress signs number first item spans) → drop number signs ≡ sign ∷ drop (number + 1) signs
    → ends_item sign g.before ≡ false → next ≡ so_far (sign ∷ g.before) → ItemProgress signs (number + 1) first next spans
continued signs number first item next spans sign g here other is = record {
  before = sign ∷ g.before;
  known = is;
  count = omega (arith, g.count);
  joined =
      let goes : items_from first g.before number (drop number signs)
      ≡ items_from first (sign ∷ g.before) (number + 1) (drop (number + 1) signs) = rw (here, other) refl in
      ap (λ (l : List ItemSpan). spans ++ l) (sym goes) ∙ g.joined;
}

left_over : (first number : ℕ) (before : List Sign) → first + length before ≡ number → first < number
    → last_item first before number ≡ record { first = first; last = number } ∷ []
left_over first number [] count less = absurd (omega (arith, count))
left_over first number (sign ∷ before) count less = refl

nothing_left : (first number : ℕ) (before : List Sign) → first + length before ≡ number → number ≤ first → last_item first before number ≡ []
nothing_left first number [] count le = refl
nothing_left first number (sign ∷ before) count le = absurd (omega (arith, count))

-- at the end
pub last_one : (signs : List Sign) (number first : ℕ) (item : ItemSoFar) (spans : List ItemSpan)
    → (g : ItemProgress signs number first item spans) → length signs ≤ number → first < number
    → spans ++ record { first = first; last = number } ∷ [] ≡ items_of signs
last_one signs number first item spans g end less =
    let here : items_from first g.before number (drop number signs) ≡ record { first = first; last = number } ∷ [] =
    ap (items_from first g.before number) (drop_all number signs end) ∙ left_over first number g.before g.count less in
    ap (λ (l : List ItemSpan). spans ++ l) (sym here) ∙ g.joined

pub no_last : (signs : List Sign) (number first : ℕ) (item : ItemSoFar) (spans : List ItemSpan)
    → (g : ItemProgress signs number first item spans) → length signs ≤ number → number ≤ first → spans ≡ items_of signs
no_last signs number first item spans g end le =
    let here : items_from first g.before number (drop number signs) ≡ [] =
    ap (items_from first g.before number) (drop_all number signs end) ∙ nothing_left first number g.before g.count le in
    sym (append-nil spans) ∙ (ap (λ (l : List ItemSpan). spans ++ l) (sym here) ∙ g.joined)

-- the sign of the next token
pub next_sign : (pieces : List TextPiece) (shown : List ℕ) (number : ℕ) (p : TextPiece) → number < length shown
    → slice_get pieces (get_or shown number 0) ≡ Some p
    → drop number (map (sign_at pieces) shown) ≡ sign_of p.text ∷ drop (number + 1) (map (sign_at pieces) shown)
next_sign pieces shown number p less is =
    let sign : sign_at pieces (get_or shown number 0) ≡ sign_of p.text = rw is refl in
    rw (drop-map, drop-map, drop_more shown number 0 less, ← sign) refl
