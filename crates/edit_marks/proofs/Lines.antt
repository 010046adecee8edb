-- One more token of a line of plus code.
use Rattle.std.proofs.Common.{◌≡◌, ◌<◌, ◌≤◌, ◌+◌, ◌-◌, ◌⊎◌, ℕ, suc, min, refl, sym, ap, ◌∙◌, inl, inr, arith, List, [], ◌∷◌}
use Rattle.std.proofs.Common.{◌++◌, length, get_or, take, drop, drop-cons, subst}
use Rattle.std.specs.Prelude.{Option}
use Rattle.std.proofs.lemmas.List.{take_rest, drop_all}
use Rattle.c_terms.specs.declared.token.Token.{Token}
use Rattle.smpl_patch.specs.declared.pattern.VarDecl.{VarDecl}
use Rattle.smpl_patch.specs.declared.pattern.PlusLine.{PlusLine}
use Rattle.edit_marks.specs.Blocks.{Environment, chunk_of, chunk_text, left_at, left_after, tokens_text, without_lead}
use Rattle.edit_marks.specs.Blocks.{last_token, line_text, more_lines, rest_lines, AreEven}

order : (a b : ℕ) → (a ≤ b) ⊎ (b < a)
order a b = grind arith

drop_min : (xs : List ℕ) (m : ℕ) → drop (min m (length xs)) xs ≡ drop m xs
drop_min xs m = elim (order m (length xs)) [
  | inl le ↦ let same : min m (length xs) ≡ m = omega arith in ap (λ (k : ℕ). drop k xs) same
  | inr more ↦ drop_all (min m (length xs)) xs (omega arith) ∙ sym (drop_all m xs (omega arith))
]

-- what is left of a gap
pub gap_left : (gap : List ℕ) (m k : ℕ) → k ≡ min m (length gap) → take (length gap - k) (drop k gap) ≡ drop m gap
gap_left gap m k is = take_rest gap k ∙ ap (λ (j : ℕ). drop j gap) is ∙ drop_min gap m

no_lead : (gaps : List (List ℕ)) → without_lead 0 gaps ≡ gaps
no_lead [] = refl
no_lead (gap ∷ gaps) = refl

pub next : {X : Type 0} (xs : List X) (i : ℕ) (x : X) → i < length xs → x ≡ get_or xs i x → drop i xs ≡ x ∷ drop (i + 1) xs
next xs i x less is =
    let one : suc i ≡ i + 1 = omega arith in
    drop-cons xs i x less ∙ (λ j. is_there j ∷ drop (one j) xs)
  where
    is_there : get_or xs i x ≡ x
    is_there = sym is

pub token_step : (decls : List VarDecl) (env : Environment) (gaps : List (List ℕ)) (tokens : List Token) (i lead : ℕ)
    (gap cut : List ℕ) (t : Token) (beside : Option (List ℕ))
    → i < length tokens → length gaps ≡ length tokens → t ≡ get_or tokens i t → gap ≡ get_or gaps i gap → cut ≡ drop lead gap
    → tokens_text decls env beside (without_lead lead (drop i gaps)) (drop i tokens)
    ≡ chunk_text beside cut (chunk_of decls env t)
    ++ tokens_text decls env (left_after (left_at beside cut) (chunk_of decls env t).last) (without_lead 0 (drop (i + 1) gaps)) (drop (i + 1) tokens)
token_step decls env gaps tokens i lead gap cut t beside less even is_t is_gap is_cut =
    let in_gaps : i < length gaps = omega (arith, even) in
    (λ j. tokens_text decls env beside (without_lead lead (next gaps i gap in_gaps is_gap j)) (next tokens i t less is_t j))
    ∙ (λ j. chunk_text beside (is_cut_back j) (chunk_of decls env t)
    ++ tokens_text decls env (left_after (left_at beside (is_cut_back j)) (chunk_of decls env t).last)
    (sym (no_lead (drop (i + 1) gaps)) j) (drop (i + 1) tokens))
  where
    is_cut_back : drop lead gap ≡ cut
    is_cut_back = sym is_cut

pub last_step : (decls : List VarDecl) (env : Environment) (tokens : List Token) (i : ℕ) (t : Token) (last : Option (List ℕ))
    → i < length tokens → t ≡ get_or tokens i t
    → last_token decls env last (drop i tokens) ≡ last_token decls env (left_after last (chunk_of decls env t).last) (drop (i + 1) tokens)
last_step decls env tokens i t last less is = ap (last_token decls env last) (next tokens i t less is)

-- lines

pub even_here : (lines : List PlusLine) (i : ℕ) (line : PlusLine) → i < length lines → line ≡ get_or lines i line
    → AreEven (drop i lines) → (length line.gaps ≡ length line.tokens) × AreEven (drop (i + 1) lines)
even_here lines i line less is even = subst AreEven (next lines i line less is) even

pub rest_more : (decls : List VarDecl) (env : Environment) (m : ℕ) (joint : List ℕ) (i : ℕ) (lines : List PlusLine)
    → rest_lines decls env m joint (i + 1) lines ≡ more_lines decls env m joint lines
rest_more decls env m joint i lines = let one : i + 1 ≡ suc i = omega arith in ap (λ (k : ℕ). rest_lines decls env m joint k lines) one

pub line_first : (decls : List VarDecl) (env : Environment) (m : ℕ) (joint : List ℕ) (i : ℕ) (lines : List PlusLine)
    (line : PlusLine) → i ≡ 0 → i < length lines → line ≡ get_or lines i line
    → rest_lines decls env m joint i (drop i lines) ≡ line_text decls env m line ++ rest_lines decls env m joint (i + 1) (drop (i + 1) lines)
line_first decls env m joint i lines line none less is =
    ap (rest_lines decls env m joint i) (next lines i line less is)
    ∙ ap (λ (k : ℕ). rest_lines decls env m joint k (line ∷ drop (i + 1) lines)) none
    ∙ ap (λ (l : List ℕ). line_text decls env m line ++ l) (sym (rest_more decls env m joint i (drop (i + 1) lines)))

pub line_later : (decls : List VarDecl) (env : Environment) (m : ℕ) (joint : List ℕ) (i : ℕ) (lines : List PlusLine)
    (line : PlusLine) → 0 < i → i < length lines → line ≡ get_or lines i line
    → rest_lines decls env m joint i (drop i lines) ≡ joint ++ (line_text decls env m line ++ rest_lines decls env m joint (i + 1) (drop (i + 1) lines))
line_later decls env m joint i lines line some less is =
    let after : i ≡ suc (i - 1) = omega arith in
    ap (rest_lines decls env m joint i) (next lines i line less is)
    ∙ ap (λ (k : ℕ). rest_lines decls env m joint k (line ∷ drop (i + 1) lines)) after
    ∙ ap (λ (l : List ℕ). joint ++ (line_text decls env m line ++ l)) (sym (rest_more decls env m joint i (drop (i + 1) lines)))
