-- The first line of some bytes.
use Rattle.std.proofs.Common.{◌≡◌, ℕ, suc, ◌+◌, ◌<◌, ◌==◌, inl, inr, Bool, true, false, List, [], ◌∷◌, length, take, drop, refl}
use Rattle.std.proofs.Common.{ap, ◌∙◌, get_or, arith, if◌then◌else◌}
use Rattle.std.proofs.lemmas.Bool.{eq-eqb}
use Rattle.std.proofs.lemmas.Bool.Decides.{eqb_tells}
use Rattle.std.proofs.lemmas.List.{drop_more}
use Rattle.smpl_lexer.specs.Lines.{Line, lines_from, begun, content, line_length}

pub is_other : (b : ℕ) → (b ≡ 10 → ⊥) → (b == 10) ≡ false
is_other b e = elim (eqb_tells b 10) [
  | inl same ↦ absurd (e same.1)
  | inr other ↦ other.0
]

pub length-newline : (bytes : List ℕ) (i : ℕ) → i < length bytes → get_or bytes i 0 ≡ 10
    → line_length (drop i bytes) ≡ 1
length-newline bytes i within is = ap line_length (drop_more bytes i 0 within)
    ∙ ap (λ (t : Bool). if t then 1 else suc (line_length (drop (i + 1) bytes))) (eq-eqb (get_or bytes i 0) 10 is)

pub length-other : (bytes : List ℕ) (i : ℕ) → i < length bytes → (get_or bytes i 0 ≡ 10 → ⊥)
    → line_length (drop i bytes) ≡ suc (line_length (drop (i + 1) bytes))
length-other bytes i within is = ap line_length (drop_more bytes i 0 within)
    ∙ ap (λ (t : Bool). if t then 1 else suc (line_length (drop (i + 1) bytes))) (is_other (get_or bytes i 0) is)

pub content-newline : (bytes : List ℕ) (i : ℕ) → i < length bytes → get_or bytes i 0 ≡ 10 → content (drop i bytes) ≡ []
content-newline bytes i within is = ap content (drop_more bytes i 0 within)
    ∙ ap (λ (t : Bool). if t then [] else get_or bytes i 0 ∷ content (drop (i + 1) bytes)) (eq-eqb (get_or bytes i 0) 10 is)

pub content-other : (bytes : List ℕ) (i : ℕ) → i < length bytes → (get_or bytes i 0 ≡ 10 → ⊥)
    → content (drop i bytes) ≡ get_or bytes i 0 ∷ content (drop (i + 1) bytes)
content-other bytes i within is = ap content (drop_more bytes i 0 within)
    ∙ ap (λ (t : Bool). if t then [] else get_or bytes i 0 ∷ content (drop (i + 1) bytes)) (is_other (get_or bytes i 0) is)

-- ---- the first line, and those after it

-- the first line of some bytes, and the lines after it
abbrev Split : ℕ → List ℕ → Type 0
Split start bytes = lines_from start bytes ≡ record { start = start; bytes = take (line_length bytes) bytes }
    ∷ lines_from (start + line_length bytes) (drop (line_length bytes) bytes)

newline_first : (start b : ℕ) (bs : List ℕ) → (b == 10) ≡ true → Split start (b ∷ bs)
newline_first start b bs is = rw is refl

one_line : (start b : ℕ) → Split start (b ∷ [])
one_line start b = elim (b == 10) as (λ (t : Bool). (b == 10) ≡ t → Split start (b ∷ [])) [
  | true ↦ λ e. newline_first start b [] e
  | false ↦ λ e. rw e refl
] refl

more_line : (start b c : ℕ) (bs : List ℕ) → Split (start + 1) (c ∷ bs) → Split start (b ∷ c ∷ bs)
more_line start b c bs split = elim (b == 10) as (λ (t : Bool). (b == 10) ≡ t → Split start (b ∷ c ∷ bs)) [
  | true ↦ λ e. newline_first start b (c ∷ bs) e
  | false ↦ λ e.
      let n = line_length (c ∷ bs) in
      let place : start + 1 + line_length (c ∷ bs) ≡ start + suc (line_length (c ∷ bs)) = omega arith in
      let rest : lines_from (start + 1 + line_length (c ∷ bs)) (drop (line_length (c ∷ bs)) (c ∷ bs))
      ≡ lines_from (start + suc (line_length (c ∷ bs))) (drop (line_length (c ∷ bs)) (c ∷ bs)) =
      ap (λ (m : ℕ). lines_from m (drop (line_length (c ∷ bs)) (c ∷ bs))) place in
      rw e (ap (begun start b) split ∙ ap (λ (ls : List Line). record { start = start; bytes = b ∷ take (line_length (c ∷ bs)) (c ∷ bs) } ∷ ls) rest)
] refl

pub split_lines : (start b : ℕ) (bs : List ℕ) → Split start (b ∷ bs)
split_lines start b [] = one_line start b
split_lines start b (c ∷ bs) = more_line start b c bs (split_lines (start + 1) c bs)
