-- The place of a byte, from that of the byte before it.
use Rattle.std.proofs.Common.{◌≡◌, ℕ, ◌+◌, ◌-◌, ◌<◌, ◌≤◌, ◌∙◌, Bool, true, false, not, cond, List, length, take, get_or, ap, refl, arith}
use Rattle.std.proofs.lemmas.List.{length-take-le}
use Rattle.std.proofs.lemmas.List.Sums.{count_by_more_yes, count_by_more_no, count_by-le-length, suffix_len-take_yes, suffix_len-take_no, suffix_len-le-length}
use Rattle.text_places.specs.Places.{is_newline, newlines, bytes_in_last_line, place_of, place_after}

abbrev is_inner : ℕ → Bool
is_inner byte = not (is_newline byte)

-- by whether the byte is a newline
by_byte : (text : List ℕ) (i : ℕ) → i < length text → (b : Bool) → is_newline (get_or text i 0) ≡ b
    → place_of text (i + 1)
    ≡ cond b (record { line = (place_of text i).line + 1; column = 1 }) (record { line = (place_of text i).line; column = (place_of text i).column + 1 })
by_byte text i lt true is =
    let back : i + 1 - 1 ≡ i = omega arith in
    let lines : newlines (take (i + 1) text) ≡ newlines (take i text) + 1 = count_by_more_yes is_newline text i 0 lt is in
    let stop : is_inner (get_or text (i + 1 - 1) 0) ≡ false = ap (λ k. is_inner (get_or text k 0)) back ∙ ap not is in
    let last : bytes_in_last_line (take (i + 1) text) ≡ 0 = suffix_len-take_no is_inner text (i + 1) 0 (omega arith) (omega arith) stop in
    λ j. record { line = lines j + 1; column = last j + 1 }
by_byte text i lt false is =
    let back : i + 1 - 1 ≡ i = omega arith in
    let lines : newlines (take (i + 1) text) ≡ newlines (take i text) = count_by_more_no is_newline text i 0 lt is in
    let goes : is_inner (get_or text (i + 1 - 1) 0) ≡ true = ap (λ k. is_inner (get_or text k 0)) back ∙ ap not is in
    let one_more : bytes_in_last_line (take (i + 1) text) ≡ 1 + bytes_in_last_line (take (i + 1 - 1) text) =
    suffix_len-take_yes is_inner text (i + 1) 0 (omega arith) (omega arith) goes in
    let there : bytes_in_last_line (take (i + 1 - 1) text) ≡ bytes_in_last_line (take i text) = ap (λ k. bytes_in_last_line (take k text)) back in
    let last : bytes_in_last_line (take (i + 1) text) ≡ bytes_in_last_line (take i text) + 1 = omega (arith, one_more, there) in
    λ j. record { line = lines j + 1; column = last j + 1 }

pub place_of-next : (text : List ℕ) (i : ℕ) → i < length text → place_of text (i + 1) ≡ place_after (place_of text i) (get_or text i 0)
place_of-next text i lt = by_byte text i lt (is_newline (get_or text i 0)) refl

-- both numbers are at most one more than the offset
pub line-le : (text : List ℕ) (i : ℕ) → i ≤ length text → (place_of text i).line ≤ i + 1
line-le text i le =
    let most : newlines (take i text) ≤ length (take i text) = count_by-le-length is_newline (take i text) in
    let long : length (take i text) ≡ i = length-take-le i text le in
    omega (arith, most, long)

pub column-le : (text : List ℕ) (i : ℕ) → i ≤ length text → (place_of text i).column ≤ i + 1
column-le text i le =
    let most : bytes_in_last_line (take i text) ≤ length (take i text) = suffix_len-le-length is_inner (take i text) in
    let long : length (take i text) ≡ i = length-take-le i text le in
    omega (arith, most, long)
