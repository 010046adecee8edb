-- The words of a block, one more of them, and their lines.
use Rattle.std.proofs.Common.{◌≡◌, ◌<◌, ◌≤◌, ◌+◌, ◌-◌, ℕ, suc, refl, sym, ap, ◌∙◌, arith, List, [], ◌∷◌, ◌++◌, length, get_or, take, drop, append_assoc}
use Rattle.std.proofs.Common.{Bool, true, false, ◌&&◌, ◌||◌}
use Rattle.std.specs.Prelude.{Option, None, if◌then◌else◌}
use Rattle.std.proofs.lemmas.List.{drop-drop}
use Rattle.c_terms.specs.declared.token.Token.{Token}
use Rattle.smpl_patch.specs.declared.pattern.VarDecl.{VarDecl}
use Rattle.smpl_patch.specs.declared.pattern.PlusLine.{PlusLine}
use Rattle.edit_marks.specs.declared.tidy.words.BlockWord.{BlockWord}
use Rattle.edit_marks.specs.Blocks.{Environment, chunk_text, left_at, left_after}
use Rattle.edit_marks.specs.Tidy.Words.{word_of, words_of_line, words_from, closed_up, without_lists}
use Rattle.edit_marks.specs.Tidy.WordSteps.{begins_with_list, begins_with_comma, kept_word, closes_after, without_first}
use Rattle.edit_marks.specs.Tidy.Layout.{words_text, without_lead, last_word, tidy_lines, joint_before, line_of, count_at}
use Rattle.edit_marks.proofs.Lines.{next}

pub word_step : (decls : List VarDecl) (env : Environment) (number : ℕ) (gaps : List (List ℕ)) (tokens : List Token) (i : ℕ) (gap : List ℕ) (t : Token)
    → i < length tokens → length gaps ≡ length tokens → t ≡ get_or tokens i t → gap ≡ get_or gaps i gap
    → words_of_line decls env number (drop i gaps) (drop i tokens)
    ≡ word_of decls env number gap t ∷ words_of_line decls env number (drop (i + 1) gaps) (drop (i + 1) tokens)
word_step decls env number gaps tokens i gap t less even is_t is_gap =
    let in_gaps : i < length gaps = omega (arith, even) in
    λ j. words_of_line decls env number (next gaps i gap in_gaps is_gap j) (next tokens i t less is_t j)

-- one more word of a line
pub word_more : (decls : List VarDecl) (env : Environment) (number : ℕ) (gaps : List (List ℕ)) (tokens : List Token) (i : ℕ) (gap : List ℕ) (t : Token)
    (w : BlockWord) (words new whole : List BlockWord)
    → i < length tokens → length gaps ≡ length tokens → t ≡ get_or tokens i t → gap ≡ get_or gaps i gap → w ≡ word_of decls env number gap t → new ≡ words ++ w ∷ []
    → words ++ words_of_line decls env number (drop i gaps) (drop i tokens) ≡ whole
    → new ++ words_of_line decls env number (drop (i + 1) gaps) (drop (i + 1) tokens) ≡ whole
word_more decls env number gaps tokens i gap t w words new whole less even is_t is_gap is_w is_new h =
    let rest = words_of_line decls env number (drop (i + 1) gaps) (drop (i + 1) tokens) in
    ap (λ (l : List BlockWord). l ++ rest) is_new
    ∙ append_assoc words (w ∷ []) rest
    ∙ ap (λ (x : BlockWord). words ++ (x ∷ rest)) is_w
    ∙ ap (λ (l : List BlockWord). words ++ l) (sym (word_step decls env number gaps tokens i gap t less even is_t is_gap))
    ∙ h

pub line_step : (decls : List VarDecl) (env : Environment) (lines : List PlusLine) (i : ℕ) (line : PlusLine) → i < length lines → line ≡ get_or lines i line
    → words_from decls env i (drop i lines) ≡ words_of_line decls env i line.gaps line.tokens ++ words_from decls env (i + 1) (drop (i + 1) lines)
line_step decls env lines i line less is = ap (words_from decls env i) (next lines i line less is)

no_lead : (words : List BlockWord) → without_lead 0 words ≡ words
no_lead [] = refl
no_lead (w ∷ words) = refl

-- one more word of a line
pub text_step : (words : List BlockWord) (i lead : ℕ) (w : BlockWord) (cut : List ℕ) (beside : Option (List ℕ)) → i < length words → w ≡ get_or words i w
    → cut ≡ drop lead w.gap
    → words_text beside (without_lead lead (drop i words))
    ≡ chunk_text beside cut w.chunk ++ words_text (left_after (left_at beside cut) w.chunk.last) (without_lead 0 (drop (i + 1) words))
text_step words i lead w cut beside less is is_cut =
    (λ j. words_text beside (without_lead lead (next words i w less is j)))
    ∙ (λ j. chunk_text beside (is_cut_back j) w.chunk ++ words_text (left_after (left_at beside (is_cut_back j)) w.chunk.last) (sym (no_lead (drop (i + 1) words)) j))
  where
    is_cut_back : drop lead w.gap ≡ cut
    is_cut_back = sym is_cut

-- the text with one more word
pub words_more : (words : List BlockWord) (i lead : ℕ) (w : BlockWord) (cut : List ℕ) (beside next : Option (List ℕ)) (out new whole : List ℕ)
    → i < length words → w ≡ get_or words i w → cut ≡ drop lead w.gap → new ≡ out ++ chunk_text beside cut w.chunk
    → next ≡ left_after (left_at beside cut) w.chunk.last
    → out ++ words_text beside (without_lead lead (drop i words)) ≡ whole → new ++ words_text next (without_lead 0 (drop (i + 1) words)) ≡ whole
words_more words i lead w cut beside next_one out new whole less is is_cut is_new is_next h =
    let rest = words_text (left_after (left_at beside cut) w.chunk.last) (without_lead 0 (drop (i + 1) words)) in
    (λ j. is_new j ++ words_text (is_next j) (without_lead 0 (drop (i + 1) words)))
    ∙ append_assoc out (chunk_text beside cut w.chunk) rest
    ∙ ap (λ (l : List ℕ). out ++ l) (sym (text_step words i lead w cut beside less is is_cut))
    ∙ h

pub last_step : (words : List BlockWord) (i : ℕ) (w : BlockWord) (last : Option (List ℕ)) → i < length words → w ≡ get_or words i w
    → last_word last (drop i words) ≡ last_word (left_after last w.chunk.last) (drop (i + 1) words)
last_step words i w last less is = ap (last_word last) (next words i w less is)

-- one more line
pub lines_step : (m : ℕ) (joint : List ℕ) (number lines : ℕ) (words : List BlockWord) → number < lines
    → tidy_lines m joint number (lines - number) words
    ≡ joint_before number joint ++ (line_of m number words ++ tidy_lines m joint (number + 1) (lines - (number + 1)) (drop (count_at number words) words))
lines_step m joint number lines words less =
    let one : lines - number ≡ suc (lines - (number + 1)) = omega arith in
    ap (λ (n : ℕ). tidy_lines m joint number n words) one

-- the text with one more line
pub lines_more : (m : ℕ) (joint : List ℕ) (number lines : ℕ) (words : List BlockWord) (from count : ℕ) (rest row : List BlockWord) (out mid new whole : List ℕ)
    → number < lines → rest ≡ drop from words → count ≡ count_at number rest → row ≡ take count rest → mid ≡ out ++ joint_before number joint
    → new ≡ mid ++ words_text None (without_lead m row)
    → out ++ tidy_lines m joint number (lines - number) (drop from words) ≡ whole
    → new ++ tidy_lines m joint (number + 1) (lines - (number + 1)) (drop (from + count) words) ≡ whole
lines_more m joint number lines words from count rest row out mid new whole less is_rest is_count is_row is_mid is_new h =
    let ws = drop from words in
    let more = tidy_lines m joint (number + 1) (lines - (number + 1)) in
    let counted : count ≡ count_at number ws = is_count ∙ ap (count_at number) is_rest in
    let own : words_text None (without_lead m row) ≡ line_of m number ws =
    ap (λ (l : List BlockWord). words_text None (without_lead m l)) (is_row ∙ (λ j. take (counted j) (is_rest j))) in
    let left : drop (from + count) words ≡ drop (count_at number ws) ws = sym (drop-drop count from words) ∙ ap (λ (n : ℕ). drop n ws) counted in
    let first = joint_before number joint in
    (λ j. (is_new ∙ (λ k. is_mid k ++ own k)) j ++ more (left j))
    ∙ append_assoc (out ++ first) (line_of m number ws) (more (drop (count_at number ws) ws))
    ∙ append_assoc out first (line_of m number ws ++ more (drop (count_at number ws) ws))
    ∙ ap (λ (l : List ℕ). out ++ l) (sym (lines_step m joint number lines ws less))
    ∙ h

pub joint_none : (number : ℕ) (joint : List ℕ) → number ≡ 0 → joint_before number joint ≡ []
joint_none number joint e = ap (λ (n : ℕ). joint_before n joint) e

pub joint_some : (number : ℕ) (joint : List ℕ) → 0 < number → joint_before number joint ≡ joint
joint_some number joint less = let one : number ≡ suc (number - 1) = omega (arith, less) in ap (λ (n : ℕ). joint_before n joint) one

-- ---- one more word, where lists without a member go

-- without the gap of the first word, if the comma before it went
abbrev pub closed_if : Bool → List BlockWord → List BlockWord
closed_if true words = closed_up words
closed_if false words = words

module _ (closes : Bool) (w : BlockWord) where
  abbrev Left : List BlockWord → Type 0
  Left after =
      let goes = w.is_comma && begins_with_list after in
      let takes = w.is_empty_list && begins_with_comma after in
      closed_if closes (without_lists (w ∷ after))
      ≡ kept_word goes closes w ++ closed_if (closes_after goes closes takes) (without_lists (without_first (goes || takes) after))

  last_left : (comma list : Bool) → closed_if closes (w ∷ [])
      ≡ kept_word (comma && false) closes w ++ closed_if (closes_after (comma && false) closes (list && false)) (without_lists (without_first ((comma && false) || (list && false)) []))
  last_left comma list = by closes comma list
    where
      by : (closes comma list : Bool) → closed_if closes (w ∷ [])
          ≡ kept_word (comma && false) closes w ++ closed_if (closes_after (comma && false) closes (list && false)) (without_lists (without_first ((comma && false) || (list && false)) []))
      by true true true = refl
      by true true false = refl
      by true false true = refl
      by true false false = refl
      by false true true = refl
      by false true false = refl
      by false false true = refl
      by false false false = refl

  pair_left : (v : BlockWord) (words : List BlockWord) (goes takes : Bool)
      → closed_if closes (if goes then without_lists words else if takes then w ∷ closed_up (without_lists words) else w ∷ without_lists (v ∷ words))
      ≡ kept_word goes closes w ++ closed_if (closes_after goes closes takes) (without_lists (without_first (goes || takes) (v ∷ words)))
  pair_left v words goes takes = by closes goes takes
    where
      by : (closes goes takes : Bool)
          → closed_if closes (if goes then without_lists words else if takes then w ∷ closed_up (without_lists words) else w ∷ without_lists (v ∷ words))
          ≡ kept_word goes closes w ++ closed_if (closes_after goes closes takes) (without_lists (without_first (goes || takes) (v ∷ words)))
      by true true true = refl
      by true true false = refl
      by true false true = refl
      by true false false = refl
      by false true true = refl
      by false true false = refl
      by false false true = refl
      by false false false = refl

  pub one_left : (after : List BlockWord) → Left after
  one_left [] = last_left w.is_comma w.is_empty_list
  one_left (v ∷ words) = pair_left v words (w.is_comma && v.is_empty_list) (w.is_empty_list && v.is_comma)

-- the words that stay, with one more of them
pub kept_more : (closes goes takes next : Bool) (w : BlockWord) (rest after behind kept more whole : List BlockWord)
    → rest ≡ w ∷ after → goes ≡ (w.is_comma && begins_with_list after) → takes ≡ (w.is_empty_list && begins_with_comma after)
    → more ≡ kept ++ kept_word goes closes w → next ≡ (closes_after goes closes takes) → behind ≡ without_first (goes || takes) after
    → kept ++ closed_if closes (without_lists rest) ≡ whole → more ++ closed_if next (without_lists behind) ≡ whole
kept_more closes goes takes next w rest after behind kept more whole is_rest is_goes is_takes is_more is_next is_behind h =
    let tail = λ (g t : Bool). closed_if (closes_after g closes t) (without_lists (without_first (g || t) after)) in
    (λ i. is_more i ++ closed_if (is_next i) (without_lists (is_behind i)))
    ∙ append_assoc kept (kept_word goes closes w) (tail goes takes)
    ∙ (λ i. kept ++ (kept_word (is_goes i) closes w ++ tail (is_goes i) (is_takes i)))
    ∙ ap (λ (l : List BlockWord). kept ++ l) (sym (one_left closes w after))
    ∙ ap (λ (l : List BlockWord). kept ++ closed_if closes (without_lists l)) (sym is_rest)
    ∙ h
