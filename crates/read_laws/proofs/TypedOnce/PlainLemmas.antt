-- Specifiers of words alone define nothing.
use Rattle.std.proofs.Common.{◌≡◌, List, [], ◌∷◌, refl, ap, ◌∙◌}
use Rattle.std.specs.Prelude.{Bool, true, false, not, ◌&&◌, ◌||◌, IsTrue, Option, Some, None}
use Rattle.std.specs.Option.{option_map_or}
use Rattle.std.specs.List.{list_all}
use Rattle.std.proofs.lemmas.Bool.{false≢true}
use Rattle.c_terms.specs.declared.token.Token.{Token}
use Rattle.c_terms.specs.declared.label.Label.TheVariants as label
use Rattle.c_terms.specs.declared.tree.Tree.{Tree, out-Tree}
use Rattle.c_terms.specs.declared.tree.Tree.TheVariants as tree
use Rattle.c_terms.proofs.SameLemmas.{out-Leaf, out-Branch}
use Rattle.c_rows.specs.declared.class.Class.TheVariants as class
use Rattle.c_rows.specs.declared.word.Word.{Word}
use Rattle.c_rows.specs.declared.word.Word.TheVariants as words
use Rattle.c_rows.specs.declared.kind.Kind.{Kind}
use Rattle.c_rows.specs.declared.kind.Kind.TheVariants as kind
use Rattle.c_rows.specs.declared.rule.Rule.{Rule}
use Rattle.c_rows.specs.declared.rule.Rule.TheVariants as rule
use Rattle.c_rows.specs.declared.symbol.Fork.{Fork}
use Rattle.c_rows.specs.declared.symbol.Fork.TheVariants as forks
use Rattle.c_rows.specs.declared.symbol.Symbol.TheVariants as symbol
use Rattle.c_rows.specs.Words.{fits}
use Rattle.c_rows.specs.Kinds.{within}
use Rattle.c_rows.specs.Rows.{Row, ways, row, kind_of, build}
use Rattle.c_rows.specs.Branches.{plain_part, plain_at, is_plain}
use Rattle.c_rows.specs.Look.{Names, look}
use Rattle.c_rows.specs.Derives.{Derives, leaf, branch, DerivesRow, done, word, child, argument, type_argument, fork}
use Rattle.c_rows.proofs.FirstChecks.{and_left, and_right, both}
use Rattle.smpl_lexer.specs.Tokens.{is_name_kind}
use Rattle.smpl_meta.specs.Forms.{is_keyword_kind}
use Rattle.smpl_meta.specs.Typed.{is_refused}
use Rattle.read_laws.proofs.TypedOnce.KindLemmas.{wrap, no-brace}
use Rattle.read_laws.proofs.TypedOnce.WordLemmas.{no-storage}
use Rattle.read_laws.proofs.TypedOnce.RowLemmas.{word_next, is_tag_kind, in_state, ways-state, all-at, not-true}

-- the token isn't refused, and is a keyword or a name
abbrev pub is_spec_word : Token → Bool
is_spec_word t = not (is_refused (wrap t)) && (is_keyword_kind t.kind || is_name_kind t.kind)

abbrev pub are_spec_words : List Token → Bool
are_spec_words xs = list_all is_spec_word xs

-- ---- rows with a brace

abbrev is_brace : Word → Bool
is_brace (words.One class.LeftBrace) = true
is_brace _ = false

abbrev fork_brace : Fork → Bool
fork_brace forks.StructName = true
fork_brace forks.EnumName = true
fork_brace _ = false

-- a `{` comes after tokens alone
abbrev has_brace : Row → Bool
has_brace [] = false
has_brace (symbol.Word w ∷ ps) = is_brace w || has_brace ps
has_brace (symbol.Child k ∷ ps) = false
has_brace (symbol.Argument ∷ ps) = false
has_brace (symbol.Fork f ∷ ps) = fork_brace f

ways-brace : (f : Fork) → fork_brace f ≡ true → list_all has_brace (ways f) ≡ true
ways-brace forks.StructName e = refl
ways-brace forks.EnumName e = refl
ways-brace _ e = absurd (false≢true e)

never-both : (b : Bool) → IsTrue (not b) → IsTrue b → ⊥
never-both true n h = false≢true n
never-both false n h = false≢true h

module _ (names : Names) (may : List Token → List Token → Type 0) where
  opens-none : (w : Word) (t : Token) (xs : List Token) → is_brace w ≡ true → IsTrue (fits w (look names (t ∷ xs))) → is_spec_word t ≡ true → ⊥
  opens-none (words.One class.LeftBrace) t xs e h f =
      never-both (is_keyword_kind t.kind || is_name_kind t.kind) (no-brace names t xs h)
      (and_right (not (is_refused (wrap t))) (is_keyword_kind t.kind || is_name_kind t.kind) f)
  opens-none _ t xs e h f = false≢true e

  no-brace-row : {ps : Row} {xs ys : List Token} {cs : List Tree} → DerivesRow names may ps xs cs ys → has_brace ps ≡ true → are_spec_words xs ≡ true → ⊥
  no-brace-row done b f = false≢true b
  no-brace-row (word {w = w} {ps = ps} {t = t} {xs = xs} h rest) b f =
      by (is_brace w) refl b (λ e. no-brace-row rest e (and_right (is_spec_word t) (are_spec_words xs) f))
    where
      by : (c : Bool) → is_brace w ≡ c → (c || has_brace ps) ≡ true → (has_brace ps ≡ true → ⊥) → ⊥
      by true e g more = opens-none w t xs e h (and_left (is_spec_word t) (are_spec_words xs) f)
      by false e g more = more g
  no-brace-row (child d rest) b f = false≢true b
  no-brace-row (argument d rest) b f = false≢true b
  no-brace-row (type_argument a d rest) b f = false≢true b
  no-brace-row (fork {f = g} {ps = ps} i w v way) b f = no-brace-row way (all-at has_brace (ways g) i ps (ways-brace g b) w) f

  -- ---- parts that define nothing

  abbrev part_plain : Tree → Bool
  part_plain part = plain_part (out-Tree part)

  -- what is derived of words defines nothing, and what follows is words
  abbrev Plain : Tree → List Token → Type 0
  Plain u ys = (part_plain u ≡ true) × (are_spec_words ys ≡ true)

  tag-row : (r : Rule) → IsTrue (within (kind_of r) kind.Tag) → {xs ys : List Token} {cs : List Tree} → DerivesRow names may (row r) xs cs ys
      → are_spec_words xs ≡ true → Plain (build r cs) ys
  tag-row rule.StructUse w {cs = cs} (word {t = t} {xs = us} h (word {t = u} {xs = ys} k done)) f =
      (ap plain_part (out-Branch label.StructUse cs), and_right (is_spec_word u) (are_spec_words ys) (and_right (is_spec_word t) (are_spec_words us) f))
  tag-row rule.EnumUse w {cs = cs} (word {t = t} {xs = us} h (word {t = u} {xs = ys} k done)) f =
      (ap plain_part (out-Branch label.EnumUse cs), and_right (is_spec_word u) (are_spec_words ys) (and_right (is_spec_word t) (are_spec_words us) f))
  tag-row rule.StructDef w row f = absurd (no-brace-row row refl f)
  tag-row rule.EnumDef w row f = absurd (no-brace-row row refl f)
  tag-row _ w row f = absurd (false≢true w)

  tag-plain : (k : Kind) → is_tag_kind k ≡ true → {xs ys : List Token} {u : Tree} → Derives names may k xs u ys → are_spec_words xs ≡ true → Plain u ys
  tag-plain kind.Tag e (leaf h) f = absurd (false≢true h)
  tag-plain kind.Tag e (branch r w b a row) f = tag-row r w row f
  tag-plain _ e d f = absurd (false≢true e)

  leaf-plain : (t : Token) (xs : List Token) → is_spec_word t ≡ true → part_plain (tree.Leaf t) ≡ true
  leaf-plain t xs f =
      ap plain_part (out-Leaf t)
      ∙ ap not (no-storage names t xs (not-true (is_refused (wrap t)) (and_left (not (is_refused (wrap t))) (is_keyword_kind t.kind || is_name_kind t.kind) f)))

  row-plain : {ps : Row} {xs ys : List Token} {cs : List Tree} → DerivesRow names may ps xs cs ys → (n : Bool) → in_state ps n ≡ true
      → are_spec_words xs ≡ true → list_all part_plain cs ≡ true
  row-plain done n s f = refl
  row-plain (word {w = w} {ps = ps} {t = t} {xs = xs} {cs = cs} h rest) n s f =
      by (word_next n w) s (λ m e. row-plain rest m e (and_right (is_spec_word t) (are_spec_words xs) f))
    where
      by : (o : Option Bool) → option_map_or (in_state ps) o false ≡ true → ((m : Bool) → in_state ps m ≡ true → list_all part_plain cs ≡ true)
          → list_all part_plain (tree.Leaf t ∷ cs) ≡ true
      by None q more = absurd (false≢true q)
      by (Some m) q more =
          both (part_plain (tree.Leaf t)) (list_all part_plain cs) (leaf-plain t xs (and_left (is_spec_word t) (are_spec_words xs) f)) (more m q)
  row-plain (child {k = k} {ps = ps} {t = u} {cs = cs} d rest) n s f =
      let tag : is_tag_kind k ≡ true = and_left (is_tag_kind k) (not n && in_state ps true) s in
      let state = and_right (not n) (in_state ps true) (and_right (is_tag_kind k) (not n && in_state ps true) s) in
      let first = tag-plain k tag d f in
      both (part_plain u) (list_all part_plain cs) first.0 (row-plain rest true state first.1)
  row-plain (argument d rest) n s f = absurd (false≢true s)
  row-plain (type_argument a d rest) n s f = absurd (false≢true s)
  row-plain (fork {f = g} {ps = ps} i w v way) n s f = row-plain way n (all-at (λ qs. in_state qs n) (ways g) i ps (ways-state g n s) w) f

  specs-row : (r : Rule) → IsTrue (within (kind_of r) kind.Specs) → {xs ys : List Token} {cs : List Tree} → DerivesRow names may (row r) xs cs ys
      → are_spec_words xs ≡ true → is_plain (build r cs) ≡ true
  specs-row rule.Specs w {cs = cs} row f = ap plain_at (out-Branch label.Specs cs) ∙ row-plain row false refl f
  specs-row _ w row f = absurd (false≢true w)

  -- specifiers of words define nothing
  pub specs-plain : {xs ys : List Token} {u : Tree} → Derives names may kind.Specs xs u ys → are_spec_words xs ≡ true → is_plain u ≡ true
  specs-plain (leaf {t = t} h) f = ap plain_at (out-Leaf t)
  specs-plain (branch r w b a row) f = specs-row r w row f
