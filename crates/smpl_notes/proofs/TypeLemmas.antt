-- Declarations, token by token.
use Rattle.std.proofs.Common.{◌≡◌, ◌≤◌, ◌<◌, ◌+◌, ℕ, zero, suc, Bool, true, false, ◌&&◌, ◌||◌, not, cond, refl, sym, ap, ◌∙◌, arith, append_assoc}
use Rattle.std.proofs.Common.{List, [], ◌∷◌, ◌++◌, codes, length, drop, get_or, Option, Some, None, if◌then◌else◌, flat_map}
use Rattle.std.specs.Prelude.{◌==◌, slice_get}
use Rattle.std.proofs.lemmas.Bool.{ne_eqb}
use Rattle.std.proofs.lemmas.List.{drop_more, drop_all, append-nil}
use Rattle.c_terms.specs.declared.token.TokenKind.{TokenKind}
use Rattle.c_terms.specs.declared.token.TokenKind.TheVariants as token
use Rattle.smpl_lexer.specs.declared.token.PatchToken.{PatchToken}
use Rattle.smpl_lexer.specs.Tokens.{is_name, is_sign}
use Rattle.smpl_meta.specs.Forms.{is_keyword, put, parts}
use Rattle.smpl_meta.specs.Typed.{specs_length}
use Rattle.smpl_notes.specs.declared.note.Note.{Note}
use Rattle.smpl_notes.specs.Types.{type_note, lone_type, type_notes, is_some_keyword, is_lone}

-- ---- specifiers of one name

-- the number of words, by whether a keyword follows a name
words : (keyword name : Bool) (rest : ℕ) → ((suc (if keyword || (name && false) then suc rest else 0)) == 1) ≡ not keyword
words true name rest = ne_eqb (suc (suc rest)) 1 (λ e. absurd (omega (arith, e)))
words false true rest = refl
words false false rest = refl

module _ (text : List ℕ) (id at : ℕ) where
  abbrev of : TokenKind → PatchToken
  of k = record { token = record { kind = k; text = text; id = id }; at = at }

  abbrev Alone : TokenKind → Type 0
  Alone k = (is_name (of k) && (specs_length (of k ∷ []) == 1)) ≡ (is_name (of k) && true)

  alone : (k : TokenKind) → Alone k
  alone token.Name = refl
  alone token.Keyword = refl
  alone token.Number = refl
  alone token.Char = refl
  alone token.Str = refl
  alone token.Punct = refl
  alone token.Stray = refl
  alone token.Dots = refl
  alone token.Pat = refl
  alone (token.Meta m) = refl

  abbrev Before : TokenKind → Type 0
  Before k = (u : PatchToken) (rest : List PatchToken)
      → (is_name (of k) && (specs_length (of k ∷ u ∷ rest) == 1)) ≡ (is_name (of k) && not (is_keyword u))

  before : (k : TokenKind) → Before k
  before token.Name = λ u rest. words (is_keyword u) (is_name u) _
  before token.Keyword = λ u rest. refl
  before token.Number = λ u rest. refl
  before token.Char = λ u rest. refl
  before token.Str = λ u rest. refl
  before token.Punct = λ u rest. refl
  before token.Stray = λ u rest. refl
  before token.Dots = λ u rest. refl
  before token.Pat = λ u rest. refl
  before (token.Meta m) = λ u rest. refl

lone-end : (t : PatchToken) → (is_name t && (specs_length (t ∷ []) == 1)) ≡ is_lone t None
lone-end t = alone t.token.text t.token.id t.at t.token.kind

lone-next : (t u : PatchToken) (rest : List PatchToken) → (is_name t && (specs_length (t ∷ u ∷ rest) == 1)) ≡ is_lone t (Some u)
lone-next t u rest = before t.token.text t.token.id t.at t.token.kind u rest

-- a `;` is no name
name-no-sign : (t : PatchToken) (b : Bool) → is_sign (codes ";") t ≡ true → (is_name t && b) ≡ false
name-no-sign t b = by t.token.text t.token.id t.at t.token.kind
  where
    by : (text : List ℕ) (id at : ℕ) (k : TokenKind) → is_sign (codes ";") (of text id at k) ≡ true → (is_name (of text id at k) && b) ≡ false
    by text id at token.Name = λ e. absurd (cc)
    by text id at token.Keyword = λ e. refl
    by text id at token.Number = λ e. refl
    by text id at token.Char = λ e. refl
    by text id at token.Str = λ e. refl
    by text id at token.Punct = λ e. refl
    by text id at token.Stray = λ e. refl
    by text id at token.Dots = λ e. refl
    by text id at token.Pat = λ e. refl
    by text id at (token.Meta m) = λ e. refl

-- ---- the notes that are left

-- the first declaration begins with the first token
put-first : (t : PatchToken) (ps : List (List PatchToken)) → (p : List PatchToken) × ((qs : List (List PatchToken)) × (put t ps ≡ (t ∷ p) ∷ qs))
put-first t [] = ([], ([], refl))
put-first t (p ∷ ps) = (p, (ps, refl))

by-sign : (b : Bool) (t : PatchToken) (ts : List PatchToken)
    → (p : List PatchToken) × ((qs : List (List PatchToken)) × ((if b then (t ∷ []) ∷ parts ts else put t (parts ts)) ≡ (t ∷ p) ∷ qs))
by-sign true t ts = ([], (parts ts, refl))
by-sign false t ts = put-first t (parts ts)

parts-first : (t : PatchToken) (ts : List PatchToken) → (p : List PatchToken) × ((qs : List (List PatchToken)) × (parts (t ∷ ts) ≡ (t ∷ p) ∷ qs))
parts-first t ts = by-sign (is_sign (codes ";") t) t ts

module _ (bytes : List ℕ) (rule : ℕ) where
  abbrev on : List (List PatchToken) → List Note
  on ps = flat_map (type_note bytes rule) (flat_map lone_type ps)

  -- The notes on these declarations. If the first one has begun before, what is left of it doesn't count.
  abbrev pub left : Bool → List (List PatchToken) → List Note
  left true ps = on ps
  left false [] = []
  left false (p ∷ ps) = on ps

  abbrev note_if : Bool → PatchToken → List Note
  note_if b t = cond b (type_note bytes rule t) []

  one : (b : Bool) (t : PatchToken) (more : List PatchToken)
      → flat_map (type_note bytes rule) (cond b (t ∷ []) [] ++ more) ≡ note_if b t ++ flat_map (type_note bytes rule) more
  one true t more = refl
  one false t more = refl

  -- a declaration of one token and more
  first : (b : Bool) (t : PatchToken) (p : List PatchToken) (ps : List (List PatchToken)) → (is_name t && (specs_length (t ∷ p) == 1)) ≡ b
      → on ((t ∷ p) ∷ ps) ≡ note_if b t ++ on ps
  first b t p ps e = one (is_name t && (specs_length (t ∷ p) == 1)) t (flat_map lone_type ps) ∙ ap (λ x. note_if x t ++ on ps) e

  whole-step : (t : PatchToken) (ts : List PatchToken) → left true (put t (parts ts)) ≡ note_if (is_lone t (slice_get ts 0)) t ++ left false (parts ts)
  whole-step t [] = first (is_lone t None) t [] [] (lone-end t)
  whole-step t (u ∷ us) =
      let found = parts-first u us in
      rw found.1.1 (first (is_lone t (Some u)) t (u ∷ found.0) found.1.0 (lone-next t u found.0))

  rest-step : (t : PatchToken) (ps : List (List PatchToken)) → left false (put t ps) ≡ left false ps
  rest-step t [] = refl
  rest-step t (p ∷ ps) = refl

  step-by : (begins sign : Bool) (t : PatchToken) (ts : List PatchToken) → is_sign (codes ";") t ≡ sign
      → left begins (if sign then (t ∷ []) ∷ parts ts else put t (parts ts))
      ≡ note_if (begins && is_lone t (slice_get ts 0)) t ++ left sign (parts ts)
  step-by true true t ts e =
      first false t [] (parts ts) (name-no-sign t (specs_length (t ∷ []) == 1) e)
      ∙ ap (λ b. note_if b t ++ on (parts ts)) (sym (name-no-sign t (not (is_some_keyword (slice_get ts 0))) e))
  step-by true false t ts e = whole-step t ts
  step-by false true t ts e = refl
  step-by false false t ts e = rest-step t (parts ts)

  step : (begins : Bool) (t : PatchToken) (ts : List PatchToken)
      → left begins (parts (t ∷ ts)) ≡ note_if (begins && is_lone t (slice_get ts 0)) t ++ left (is_sign (codes ";") t) (parts ts)
  step begins t ts = step-by begins (is_sign (codes ";") t) t ts refl

  slice_get-drop : {A : Type 0} (xs : List A) (i : ℕ) → slice_get (drop i xs) 0 ≡ slice_get xs i
  slice_get-drop [] zero = refl
  slice_get-drop [] (suc i) = refl
  slice_get-drop (x ∷ xs) zero = refl
  slice_get-drop (x ∷ xs) (suc i) = slice_get-drop xs i

  -- one more token
  pub types-step : (decls : List PatchToken) (i : ℕ) (t : PatchToken) (begins lone next : Bool) (found more whole : List Note) → i < length decls
      → t ≡ get_or decls i t → lone ≡ (begins && is_lone t (slice_get decls (i + 1))) → more ≡ found ++ note_if lone t
      → next ≡ is_sign (codes ";") t → found ++ left begins (parts (drop i decls)) ≡ whole
      → more ++ left next (parts (drop (i + 1) decls)) ≡ whole
  types-step decls i t begins lone next found more whole lt is l m n h =
      let ts : List PatchToken = drop (i + 1) decls in
      ap (λ b. more ++ left b (parts ts)) n
      ∙ ap (λ z. z ++ left (is_sign (codes ";") t) (parts ts)) m
      ∙ append_assoc found (note_if lone t) (left (is_sign (codes ";") t) (parts ts))
      ∙ ap (λ b. found ++ (note_if b t ++ left (is_sign (codes ";") t) (parts ts))) (l ∙ ap (λ o. begins && is_lone t o) (sym (slice_get-drop decls (i + 1))))
      ∙ ap (λ z. found ++ z) (sym (step begins t ts))
      ∙ ap (λ z. found ++ left begins (parts z)) (sym (drop_more decls i t lt ∙ ap (λ z. z ∷ ts) (sym is))) ∙ h

  no-more : (begins : Bool) → left begins [] ≡ []
  no-more true = refl
  no-more false = refl

  -- no more tokens
  pub types-end : (decls : List PatchToken) (i : ℕ) (begins : Bool) (found whole : List Note) → length decls ≤ i
      → found ++ left begins (parts (drop i decls)) ≡ whole → found ≡ whole
  types-end decls i begins found whole le h =
      sym (append-nil found) ∙ ap (λ z. found ++ z) (sym (ap (λ z. left begins (parts z)) (drop_all i decls le) ∙ no-more begins)) ∙ h
