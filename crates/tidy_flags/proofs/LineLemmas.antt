-- Which lines are emptied, line by line, and what is left of a text.
use Rattle.std.proofs.Common.{◌≡◌, ◌<◌, ◌≤◌, ◌+◌, ◌-◌, ◌==◌, ℕ, Bool, true, false, refl, sym, ap, ◌∙◌, arith}
use Rattle.std.proofs.Common.{List, [], ◌∷◌, ◌++◌, append_assoc, length, length-drop, get_or, take, drop}
use Rattle.std.specs.Prelude.{if◌then◌else◌}
use Rattle.std.proofs.lemmas.List.{append-nil, drop-drop, drop_all, drop_more, get_or-drop, take_more}
use Rattle.tidy_flags.specs.declared.lines.LineByte.{LineByte}
use Rattle.tidy_flags.specs.Lines.{emptied_from, is_newline, left_of_lines, line_flags}

-- the part of a line before a byte, and that byte
line_with : (bytes : List LineByte) (start at : ℕ) (d : LineByte) → start ≤ at → at < length bytes
    → take (at - start) (drop start bytes) ++ get_or bytes at d ∷ [] ≡ take (at + 1 - start) (drop start bytes)
line_with bytes start at d rise within =
    let place : start + (at - start) ≡ at = omega arith in
    let next : at - start + 1 ≡ at + 1 - start = omega arith in
    let fits : at - start < length (drop start bytes) = omega (arith, length-drop start bytes) in
    ap (λ (x : LineByte). take (at - start) (drop start bytes) ++ x ∷ [])
    (ap (λ (k : ℕ). get_or bytes k d) (sym place) ∙ sym (get_or-drop start bytes (at - start) d))
    ∙ sym (take_more (drop start bytes) (at - start) d fits)
    ∙ ap (λ (k : ℕ). take k (drop start bytes)) next

module _ (bytes : List LineByte) (start at : ℕ) (b : LineByte) (rise : start ≤ at) (within : at < length bytes) (is : b ≡ get_or bytes at b) where
  abbrev line : List LineByte
  line = take (at - start) (drop start bytes)

  here : drop at bytes ≡ b ∷ drop (at + 1) bytes
  here = drop_more bytes at b within ∙ ap (λ (x : LineByte). x ∷ drop (at + 1) bytes) (sym is)

  longer : line ++ b ∷ [] ≡ take (at + 1 - start) (drop start bytes)
  longer = ap (λ (x : LineByte). line ++ x ∷ []) is ∙ line_with bytes start at b rise within

  -- a byte that ends no line
  pub line_goes_on : (b.byte == 10) ≡ false
      → emptied_from (take (at + 1 - start) (drop start bytes)) (drop (at + 1) bytes) ≡ emptied_from line (drop at bytes)
  line_goes_on e =
      ap (λ (l : List LineByte). emptied_from l (drop (at + 1) bytes)) (sym longer)
      ∙ sym (ap (emptied_from line) here
      ∙ ap (λ (x : Bool). if x then line_flags (line ++ b ∷ []) ++ emptied_from [] (drop (at + 1) bytes) else emptied_from (line ++ b ∷ []) (drop (at + 1) bytes)) e)

  -- a byte that ends one
  pub line_ends : (b.byte == 10) ≡ true → (old new : List Bool) → new ≡ old ++ line_flags (take (at + 1 - start) (drop start bytes))
      → new ++ emptied_from (take (at + 1 - (at + 1)) (drop (at + 1) bytes)) (drop (at + 1) bytes) ≡ old ++ emptied_from line (drop at bytes)
  line_ends e old new is_new =
      let none : at + 1 - (at + 1) ≡ 0 = omega arith in
      (λ i. is_new i ++ emptied_from (take (none i) (drop (at + 1) bytes)) (drop (at + 1) bytes))
      ∙ append_assoc old (line_flags (take (at + 1 - start) (drop start bytes))) (emptied_from [] (drop (at + 1) bytes))
      ∙ ap (λ (l : List Bool). old ++ l)
      (ap (λ (l : List LineByte). line_flags l ++ emptied_from [] (drop (at + 1) bytes)) (sym longer)
      ∙ sym (ap (emptied_from line) here
      ∙ ap (λ (x : Bool). if x then line_flags (line ++ b ∷ []) ++ emptied_from [] (drop (at + 1) bytes) else emptied_from (line ++ b ∷ []) (drop (at + 1) bytes)) e))

-- the last line
pub last_line : (bytes : List LineByte) (start at : ℕ) (old new all : List Bool) → length bytes ≤ at → at ≤ length bytes
    → new ≡ old ++ line_flags (take (length bytes - start) (drop start bytes))
    → old ++ emptied_from (take (at - start) (drop start bytes)) (drop at bytes) ≡ all → new ≡ all
last_line bytes start at old new all past within is before =
    let end : length bytes ≡ at = omega arith in
    is
    ∙ ap (λ (k : ℕ). old ++ line_flags (take (k - start) (drop start bytes))) end
    ∙ sym (ap (λ (l : List LineByte). old ++ emptied_from (take (at - start) (drop start bytes)) l) (drop_all at bytes past))
    ∙ before

all_left : (text : List ℕ) → left_of_lines [] text ≡ text
all_left [] = refl
all_left (b ∷ text) = refl

left_step : (flags : List Bool) (b : ℕ) (text : List ℕ)
    → left_of_lines flags (b ∷ text) ≡ (if get_or flags 0 false then [] else b ∷ []) ++ left_of_lines (drop 1 flags) text
left_step [] b text = ap (λ (l : List ℕ). b ∷ l) (sym (all_left text))
left_step (true ∷ flags) b text = refl
left_step (false ∷ flags) b text = refl

none_left : (flags : List Bool) → left_of_lines flags [] ≡ []
none_left [] = refl
none_left (f ∷ flags) = refl

-- one more byte
pub left_more : (flags : List Bool) (text old new all : List ℕ) (at i b : ℕ) → i < length text → b ≡ get_or text i 0
    → new ≡ old ++ (if get_or flags (at + i) false then [] else b ∷ [])
    → old ++ left_of_lines (drop (at + i) flags) (drop i text) ≡ all → new ++ left_of_lines (drop (at + (i + 1)) flags) (drop (i + 1) text) ≡ all
left_more flags text old new all at i b within is added before =
    let own = let l : List ℕ = if get_or flags (at + i) false then [] else b ∷ [] in l in
    let place : at + i + 0 ≡ at + i = omega arith in
    let next : at + i + 1 ≡ at + (i + 1) = omega arith in
    let flag : get_or flags (at + i) false ≡ get_or (drop (at + i) flags) 0 false =
    ap (λ (k : ℕ). get_or flags k false) (sym place) ∙ sym (get_or-drop (at + i) flags 0 false) in
    let here : drop i text ≡ b ∷ drop (i + 1) text =
    drop_more text i 0 within ∙ ap (λ (x : ℕ). x ∷ drop (i + 1) text) (sym is) in
    ap (λ (l : List ℕ). l ++ left_of_lines (drop (at + (i + 1)) flags) (drop (i + 1) text)) added
    ∙ append_assoc old own (left_of_lines (drop (at + (i + 1)) flags) (drop (i + 1) text))
    ∙ ap (λ (l : List ℕ). old ++ l)
    ((λ j. (if flag j then [] else b ∷ []) ++ left_of_lines ((ap (λ (k : ℕ). drop k flags) (sym next) ∙ sym (drop-drop 1 (at + i) flags)) j) (drop (i + 1) text))
    ∙ sym (left_step (drop (at + i) flags) b (drop (i + 1) text))
    ∙ ap (left_of_lines (drop (at + i) flags)) (sym here))
    ∙ before

pub left_end : (flags : List Bool) (text old all : List ℕ) (at i : ℕ) → length text ≤ i → old ++ left_of_lines (drop (at + i) flags) (drop i text) ≡ all → old ≡ all
left_end flags text old all at i past before =
    sym (append-nil old)
    ∙ ap (λ (l : List ℕ). old ++ l) (sym (none_left (drop (at + i) flags)))
    ∙ ap (λ (l : List ℕ). old ++ left_of_lines (drop (at + i) flags) l) (sym (drop_all i text past))
    ∙ before
