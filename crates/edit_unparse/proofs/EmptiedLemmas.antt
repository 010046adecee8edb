-- Which bytes of blanks are left of their lines.
use Rattle.std.proofs.Common.{◌≡◌, ◌+◌, ◌==◌, ◌&&◌, ◌||◌, ◌⊎◌, inl, inr, ℕ, zero, suc, Bool, true, false, not, refl, sym, ap, ◌∙◌, arith}
use Rattle.std.proofs.Common.{List, [], ◌∷◌, ◌++◌, length, length-append, take, drop, subst}
use Rattle.std.specs.Prelude.{replicate, if◌then◌else◌}
use Rattle.std.specs.List.{list_all, list_any}
use Rattle.std.proofs.lemmas.Bool.{false≢true}
use Rattle.std.proofs.lemmas.Bool.Decides.{Decides-eqb}
use Rattle.std.proofs.lemmas.List.{append-nil, drop-drop}
use Rattle.std.proofs.lemmas.List.Folds.{list_all-append, list_any-append}
use Rattle.c_lexer.specs.Blanks.{AreBlanks}
use Rattle.c_lexer.specs.Blanks as blanks
use Rattle.tidy_flags.specs.declared.lines.LineByte.{LineByte}
use Rattle.tidy_flags.specs.Lines.{blank_bytes, emptied_from, is_emptied, is_newline, left_of_lines, line_flags, solid_bytes}

-- what has been read of the line to which the next byte belongs
abbrev pub line_after : List LineByte → List LineByte → List LineByte
line_after line [] = line
line_after line (b ∷ bytes) = if is_newline b then line_after [] bytes else line_after (line ++ b ∷ []) bytes

-- that line up to its end
abbrev pub whole_line : List LineByte → List LineByte → List LineByte
whole_line line [] = line
whole_line line (b ∷ bytes) = if is_newline b then line ++ b ∷ [] else whole_line (line ++ b ∷ []) bytes

-- for each of these bytes whether its line is emptied
abbrev pub flags_at : List LineByte → List LineByte → List Bool
flags_at line bytes = drop (length line) (emptied_from line bytes)

length_flags : (n : ℕ) (x : Bool) → length (replicate n x) ≡ n
length_flags zero x = refl
length_flags (suc n) x = ap suc (length_flags n x)

drop_past : (xs ys : List Bool) (n k : ℕ) → n ≡ length xs + k → drop n (xs ++ ys) ≡ drop k ys
drop_past [] ys n k e = let same : n ≡ k = omega arith in ap (λ (j : ℕ). drop j ys) same
drop_past (x ∷ xs) ys zero k e = absurd (omega arith)
drop_past (x ∷ xs) ys (suc n) k e = drop_past xs ys n k (omega arith)

-- the flags behind some bytes
pub flags_more : (line xs ys : List LineByte) → drop (length xs) (flags_at line (xs ++ ys)) ≡ flags_at (line_after line xs) ys
flags_more line [] ys = refl
flags_more line (b ∷ xs) ys =
    let more = line ++ b ∷ [] in
    let long = length-append line (b ∷ []) in
    let n = length xs in
    elim (is_newline b) as (λ c. drop (suc n) (drop (length line) (if c then line_flags more ++ emptied_from [] (xs ++ ys) else emptied_from more (xs ++ ys)))
    ≡ flags_at (if c then line_after [] xs else line_after more xs) ys) [
      | true ↦
          let all = line_flags more ++ emptied_from [] (xs ++ ys) in
          drop-drop (suc n) (length line) all
          ∙ drop_past (line_flags more) (emptied_from [] (xs ++ ys)) (length line + suc n) n (omega (arith, length_flags (length more) (is_emptied more), long))
          ∙ flags_more [] xs ys
      | false ↦
          let all = emptied_from more (xs ++ ys) in
          let count : length line + suc n ≡ length more + n = omega (arith, long) in
          drop-drop (suc n) (length line) all ∙ ap (λ (k : ℕ). drop k all) count ∙ sym (drop-drop n (length more) all) ∙ flags_more more xs ys
    ]

-- flags of which the first are those of one line
record Headed (line whole : List LineByte) (flags : List Bool) : Type 0 where
  pub rest : List Bool
  pub is : flags ≡ replicate (length line) (is_emptied whole) ++ rest

one_longer : (line : List LineByte) (b : LineByte) (e : Bool) (rest : List Bool)
    → replicate (length (line ++ b ∷ [])) e ++ rest ≡ replicate (length line) e ++ e ∷ rest
one_longer [] b e rest = refl
one_longer (x ∷ line) b e rest = ap (λ (l : List Bool). e ∷ l) (one_longer line b e rest)

headed : (line bytes : List LineByte) → Headed line (whole_line line bytes) (emptied_from line bytes)
headed line [] = record { rest = []; is = sym (append-nil (line_flags line)) }
headed line (b ∷ bytes) =
    let more = line ++ b ∷ [] in
    elim (is_newline b) as (λ c. Headed line (if c then more else whole_line more bytes)
    (if c then line_flags more ++ emptied_from [] bytes else emptied_from more bytes)) [
      | true ↦ record { rest = is_emptied more ∷ emptied_from [] bytes; is = one_longer line b (is_emptied more) (emptied_from [] bytes) }
      | false ↦
          let h = headed more bytes in
          let e = is_emptied (whole_line more bytes) in
          record { rest = e ∷ h.rest; is = h.is ∙ one_longer line b e h.rest }
    ]

record First (e : Bool) (flags : List Bool) : Type 0 where
  pub rest : List Bool
  pub is : flags ≡ e ∷ rest

past_line : (line : List LineByte) (b : LineByte) (e : Bool) (rest : List Bool) → drop (length line) (replicate (length (line ++ b ∷ [])) e ++ rest) ≡ e ∷ rest
past_line [] b e rest = refl
past_line (x ∷ line) b e rest = past_line line b e rest

first_flag : (line : List LineByte) (b : LineByte) (bytes : List LineByte) → First (is_emptied (whole_line line (b ∷ bytes))) (flags_at line (b ∷ bytes))
first_flag line b bytes =
    let more = line ++ b ∷ [] in
    elim (is_newline b) as (λ c. First (is_emptied (if c then more else whole_line more bytes))
    (drop (length line) (if c then line_flags more ++ emptied_from [] bytes else emptied_from more bytes))) [
      | true ↦ record { rest = emptied_from [] bytes; is = past_line line b (is_emptied more) (emptied_from [] bytes) }
      | false ↦
          let h = headed more bytes in
          record { rest = h.rest; is = ap (drop (length line)) h.is ∙ past_line line b (is_emptied (whole_line more bytes)) h.rest }
    ]

-- the flag of a byte, and those behind it
pub flags_step : (line : List LineByte) (b : LineByte) (bytes : List LineByte)
    → flags_at line (b ∷ bytes) ≡ is_emptied (whole_line line (b ∷ bytes)) ∷ flags_at (line_after line (b ∷ [])) bytes
flags_step line b bytes =
    let f = first_flag line b bytes in
    let e = is_emptied (whole_line line (b ∷ bytes)) in
    let rest : f.rest ≡ flags_at (line_after line (b ∷ [])) bytes = sym (ap (drop 1) f.is) ∙ flags_more line (b ∷ []) bytes in
    f.is ∙ ap (λ (l : List Bool). e ∷ l) rest

-- lines with a byte that is not soft

and_false : (b : Bool) → (b && false) ≡ false
and_false true = refl
and_false false = refl

abbrev pub IsHard : List LineByte → Type 0
IsHard line = list_all (λ b. b.is_soft) line ≡ false

hard_more : (line bytes : List LineByte) → IsHard line → IsHard (line ++ bytes)
hard_more line bytes h =
    list_all-append (λ (b : LineByte). b.is_soft) line bytes ∙ ap (λ (c : Bool). c && list_all (λ (b : LineByte). b.is_soft) bytes) h

hard_end : (line : List LineByte) (b : LineByte) → b.is_soft ≡ false → IsHard (line ++ b ∷ [])
hard_end line b h =
    list_all-append (λ (x : LineByte). x.is_soft) line (b ∷ [])
    ∙ ap (λ (c : Bool). list_all (λ (x : LineByte). x.is_soft) line && (c && true)) h ∙ and_false (list_all (λ (x : LineByte). x.is_soft) line)

hard_stays : (line : List LineByte) → IsHard line → is_emptied line ≡ false
hard_stays line h = ap (λ (c : Bool). list_any (λ (b : LineByte). b.goes) line && c) h ∙ and_false (list_any (λ (b : LineByte). b.goes) line)

hard_whole : (line bytes : List LineByte) → IsHard line → is_emptied (whole_line line bytes) ≡ false
hard_whole line [] h = hard_stays line h
hard_whole line (b ∷ bytes) h =
    let more = hard_more line (b ∷ []) h in
    elim (is_newline b) as (λ c. is_emptied (if c then line ++ b ∷ [] else whole_line (line ++ b ∷ []) bytes) ≡ false) [
      | true ↦ hard_stays (line ++ b ∷ []) more
      | false ↦ hard_whole (line ++ b ∷ []) bytes more
    ]

-- no byte of the line stands before, or one that is not soft
abbrev pub Anchored : List LineByte → Type 0
Anchored line = (line ≡ []) ⊎ IsHard line

abbrev solid_byte : ℕ → LineByte
solid_byte c = record { byte = c; goes = false; is_soft = false }

abbrev blank_byte : ℕ → LineByte
blank_byte c = record { byte = c; goes = false; is_soft = not (c == 92) }

still_anchored : (line : List LineByte) (text : List ℕ) → Anchored line → Anchored (line_after line (solid_bytes text))
still_anchored line [] a = a
still_anchored line (c ∷ text) a =
    elim (c == 10) as (λ x. Anchored (if x then line_after [] (solid_bytes text) else line_after (line ++ solid_byte c ∷ []) (solid_bytes text))) [
      | true ↦ still_anchored [] text (inl refl)
      | false ↦ still_anchored (line ++ solid_byte c ∷ []) text (inr (hard_end line (solid_byte c) refl))
    ]

-- behind a piece that stays
pub anchored_after : (line : List LineByte) (c : ℕ) (text : List ℕ) → Anchored (line_after line (solid_bytes (c ∷ text)))
anchored_after line c text =
    elim (c == 10) as (λ x. Anchored (if x then line_after [] (solid_bytes text) else line_after (line ++ solid_byte c ∷ []) (solid_bytes text))) [
      | true ↦ still_anchored [] text (inl refl)
      | false ↦ still_anchored (line ++ solid_byte c ∷ []) text (inr (hard_end line (solid_byte c) refl))
    ]

-- lines without a removed token

abbrev pub NoneGo : List LineByte → Type 0
NoneGo line = list_any (λ b. b.goes) line ≡ false

none_more : (line : List LineByte) (c : ℕ) → NoneGo line → NoneGo (line ++ blank_byte c ∷ [])
none_more line c h = list_any-append (λ (b : LineByte). b.goes) line (blank_byte c ∷ []) ∙ ap (λ (x : Bool). x || false) h

none_stays : (line : List LineByte) → NoneGo line → is_emptied line ≡ false
none_stays line h = ap (λ (x : Bool). x && list_all (λ (b : LineByte). b.is_soft) line) h

-- blanks of a line that is emptied have no newline, if no removed token of the line stands before them; all of them go
all_go : (line : List LineByte) (text : List ℕ) (ys : List LineByte) → NoneGo line → is_emptied (whole_line line (blank_bytes text ++ ys)) ≡ true
    → (left_of_lines (flags_at line (blank_bytes text ++ ys)) text ≡ []) × (take 1 text ≡ 10 ∷ [] → ⊥)
all_go line [] ys h e = (refl, λ f. absurd cc)
all_go line (c ∷ text) ys h e = by (c == 10) refl (all_go (line ++ blank_byte c ∷ []) text ys)
  where
    more : List LineByte
    more = line ++ blank_byte c ∷ []

    bytes : List LineByte
    bytes = blank_bytes text ++ ys

    by : (x : Bool) → (c == 10) ≡ x
        → (NoneGo more → is_emptied (whole_line more bytes) ≡ true
        → (left_of_lines (flags_at more bytes) text ≡ []) × (take 1 text ≡ 10 ∷ [] → ⊥))
        → (left_of_lines (flags_at line (blank_byte c ∷ (blank_bytes text ++ ys))) (c ∷ text) ≡ []) × (take 1 (c ∷ text) ≡ 10 ∷ [] → ⊥)
    by true is again =
        let end : is_emptied more ≡ true = sym (ap (λ (x : Bool). is_emptied (if x then more else whole_line more bytes)) is) ∙ e in
        absurd (false≢true (sym (none_stays more (none_more line c h)) ∙ end))
    by false is again =
        let on : is_emptied (whole_line more bytes) ≡ true = sym (ap (λ (x : Bool). is_emptied (if x then more else whole_line more bytes)) is) ∙ e in
        let next : line_after line (blank_byte c ∷ []) ≡ more = ap (λ (x : Bool). if x then [] else more) is in
        let rest = again (none_more line c h) on in
        let flags : flags_at line (blank_byte c ∷ bytes) ≡ true ∷ flags_at more bytes =
        flags_step line (blank_byte c) bytes ∙ (λ i. e i ∷ flags_at (next i) bytes) in (
          ap (λ (l : List Bool). left_of_lines l (c ∷ text)) flags ∙ rest.0,
          λ f. let same : c ≡ 10 = cc in false≢true (sym is ∙ (Decides-eqb c 10).1 same),
        )

-- What is left of a blank behind a piece that stays begins as the blank does, or is nothing, and then the blank doesn't begin
-- with a newline.
pub blank_first : (line : List LineByte) (c : ℕ) (text : List ℕ) (ys : List LineByte) → Anchored line
    → let left = left_of_lines (flags_at line (blank_bytes (c ∷ text) ++ ys)) (c ∷ text) in
    (take 1 left ≡ c ∷ []) ⊎ ((left ≡ []) × (take 1 (c ∷ text) ≡ 10 ∷ [] → ⊥))
blank_first line c text ys anchored = by (is_emptied (whole_line line bytes)) refl
  where
    bytes : List LineByte
    bytes = blank_byte c ∷ (blank_bytes text ++ ys)

    by : (x : Bool) → is_emptied (whole_line line (blank_byte c ∷ (blank_bytes text ++ ys))) ≡ x
        → (take 1 (left_of_lines (flags_at line (blank_byte c ∷ (blank_bytes text ++ ys))) (c ∷ text)) ≡ c ∷ [])
        ⊎ ((left_of_lines (flags_at line (blank_byte c ∷ (blank_bytes text ++ ys))) (c ∷ text) ≡ []) × (take 1 (c ∷ text) ≡ 10 ∷ [] → ⊥))
    by false e =
        let rest = flags_at (line_after line (blank_byte c ∷ [])) (blank_bytes text ++ ys) in
        inl (ap (λ (l : List Bool). take 1 (left_of_lines l (c ∷ text)))
        (flags_step line (blank_byte c) (blank_bytes text ++ ys) ∙ ap (λ (x : Bool). x ∷ rest) e))
    by true e = elim anchored [
      | inl start ↦ inr (all_go line (c ∷ text) ys (ap (λ (l : List LineByte). list_any (λ b. b.goes) l) start) e)
      | inr hard ↦ absurd (false≢true (sym (hard_whole line bytes hard) ∙ e))
    ]

-- lines that are not emptied, whatever blanks come

abbrev pub Steady : List LineByte → Type 0
Steady line = NoneGo line ⊎ IsHard line

-- no line that begins so is emptied
abbrev pub Calm : List LineByte → Type 0
Calm bytes = (line : List LineByte) → Steady line → is_emptied (whole_line line bytes) ≡ false

steady_stays : (line : List LineByte) → Steady line → is_emptied line ≡ false
steady_stays line s = elim s [ inl none ↦ none_stays line none | inr hard ↦ hard_stays line hard ]

steady_more : (line : List LineByte) (c : ℕ) → Steady line → Steady (line ++ blank_byte c ∷ [])
steady_more line c s = elim s [ inl none ↦ inl (none_more line c none) | inr hard ↦ inr (hard_more line (blank_byte c ∷ []) hard) ]

pub anchored_steady : (line : List LineByte) → Anchored line → Steady line
anchored_steady line a = elim a [ inl start ↦ inl (ap (λ (l : List LineByte). list_any (λ b. b.goes) l) start) | inr hard ↦ inr hard ]

pub calm_nil : Calm []
calm_nil line s = steady_stays line s

pub calm_solid : (c : ℕ) (text : List ℕ) (ys : List LineByte) → Calm (solid_bytes (c ∷ text) ++ ys)
calm_solid c text ys line s =
    let more = line ++ solid_byte c ∷ [] in
    let hard = hard_end line (solid_byte c) refl in
    elim (c == 10) as (λ x. is_emptied (if x then more else whole_line more (solid_bytes text ++ ys)) ≡ false) [
      | true ↦ hard_stays more hard
      | false ↦ hard_whole more (solid_bytes text ++ ys) hard
    ]

pub calm_blank : (text : List ℕ) (ys : List LineByte) → Calm ys → Calm (blank_bytes text ++ ys)
calm_blank [] ys calm line s = calm line s
calm_blank (c ∷ text) ys calm line s =
    let more = line ++ blank_byte c ∷ [] in
    elim (c == 10) as (λ x. is_emptied (if x then more else whole_line more (blank_bytes text ++ ys)) ≡ false) [
      | true ↦ steady_stays more (steady_more line c s)
      | false ↦ calm_blank text ys calm more (steady_more line c s)
    ]

steady_next : (line : List LineByte) (c : ℕ) → Steady line → Steady (line_after line (blank_byte c ∷ []))
steady_next line c s = elim (c == 10) as (λ x. Steady (if x then [] else line ++ blank_byte c ∷ [])) [ true ↦ inl refl | false ↦ steady_more line c s ]

pub steady_after : (line : List LineByte) (text : List ℕ) → Steady line → Steady (line_after line (blank_bytes text))
steady_after line [] s = s
steady_after line (c ∷ text) s =
    elim (c == 10) as (λ x. Steady (if x then line_after [] (blank_bytes text) else line_after (line ++ blank_byte c ∷ []) (blank_bytes text))) [
      | true ↦ steady_after [] text (inl refl)
      | false ↦ steady_after (line ++ blank_byte c ∷ []) text (steady_more line c s)
    ]

-- such blanks stay whole
pub blank_whole : (line : List LineByte) (text : List ℕ) (ys : List LineByte) → Steady line → Calm ys
    → left_of_lines (flags_at line (blank_bytes text ++ ys)) text ≡ text
blank_whole line [] ys s calm = refl
blank_whole line (c ∷ text) ys s calm =
    let next = line_after line (blank_byte c ∷ []) in
    ap (λ (l : List Bool). left_of_lines l (c ∷ text)) (flags_step line (blank_byte c) (blank_bytes text ++ ys))
    ∙ ap (λ (x : Bool). left_of_lines (x ∷ flags_at next (blank_bytes text ++ ys)) (c ∷ text)) (calm_blank (c ∷ text) ys calm line s)
    ∙ ap (λ (l : List ℕ). c ∷ l) (blank_whole next text ys (steady_next line c s) calm)

-- what is left of blanks is blanks

hard_flag : (line : List LineByte) (b : LineByte) (bytes : List LineByte) → IsHard (line ++ b ∷ []) → is_emptied (whole_line line (b ∷ bytes)) ≡ false
hard_flag line b bytes hard =
    elim (is_newline b) as (λ x. is_emptied (if x then line ++ b ∷ [] else whole_line (line ++ b ∷ []) bytes) ≡ false) [
      | true ↦ hard_stays (line ++ b ∷ []) hard
      | false ↦ hard_whole (line ++ b ∷ []) bytes hard
    ]

flag_kept : (line : List LineByte) (c : ℕ) (text : List ℕ) (bytes : List LineByte) → IsHard (line ++ blank_byte c ∷ [])
    → left_of_lines (flags_at line (blank_byte c ∷ bytes)) (c ∷ text)
    ≡ c ∷ left_of_lines (flags_at (line_after line (blank_byte c ∷ [])) bytes) text
flag_kept line c text bytes hard =
    ap (λ (l : List Bool). left_of_lines l (c ∷ text)) (flags_step line (blank_byte c) bytes)
    ∙ ap (λ (x : Bool). left_of_lines (x ∷ flags_at (line_after line (blank_byte c ∷ [])) bytes) (c ∷ text)) (hard_flag line (blank_byte c) bytes hard)

pub blanks_left : (text : List ℕ) → AreBlanks text → (line ys : List LineByte) → AreBlanks (left_of_lines (flags_at line (blank_bytes text ++ ys)) text)
blanks_left _ blanks.none line ys = blanks.none
blanks_left _ (blanks.space b rest is are) line ys =
    let next = line_after line (blank_byte b ∷ []) in
    let flags = flags_at next (blank_bytes rest ++ ys) in
    let left = blanks_left rest are next ys in
    subst AreBlanks (sym (ap (λ (l : List Bool). left_of_lines l (b ∷ rest)) (flags_step line (blank_byte b) (blank_bytes rest ++ ys))))
    (elim (is_emptied (whole_line line (blank_byte b ∷ (blank_bytes rest ++ ys)))) as (λ x. AreBlanks (left_of_lines (x ∷ flags) (b ∷ rest))) [
      | true ↦ left
      | false ↦ blanks.space b (left_of_lines flags rest) is left
    ])
blanks_left _ (blanks.splice rest are) line ys =
    let back = line ++ blank_byte 92 ∷ [] in
    let hard : IsHard back = hard_end line (blank_byte 92) refl in
    let bytes = blank_bytes rest ++ ys in
    let left = blanks_left rest are [] ys in
    subst AreBlanks (sym (flag_kept line 92 (10 ∷ rest) (blank_byte 10 ∷ bytes) hard
    ∙ ap (λ (l : List ℕ). 92 ∷ l) (flag_kept back 10 rest bytes (hard_more back (blank_byte 10 ∷ []) hard))))
    (blanks.splice (left_of_lines (flags_at [] bytes) rest) left)
blanks_left _ (blanks.splice_return rest are) line ys =
    let back = line ++ blank_byte 92 ∷ [] in
    let hard : IsHard back = hard_end line (blank_byte 92) refl in
    let return = back ++ blank_byte 13 ∷ [] in
    let hard_too : IsHard return = hard_more back (blank_byte 13 ∷ []) hard in
    let bytes = blank_bytes rest ++ ys in
    let left = blanks_left rest are [] ys in
    subst AreBlanks (sym (flag_kept line 92 (13 ∷ 10 ∷ rest) (blank_byte 13 ∷ blank_byte 10 ∷ bytes) hard
    ∙ ap (λ (l : List ℕ). 92 ∷ l) (flag_kept back 13 (10 ∷ rest) (blank_byte 10 ∷ bytes) hard_too
    ∙ ap (λ (l : List ℕ). 13 ∷ l) (flag_kept return 10 rest bytes (hard_more return (blank_byte 10 ∷ []) hard_too)))))
    (blanks.splice_return (left_of_lines (flags_at [] bytes) rest) left)
