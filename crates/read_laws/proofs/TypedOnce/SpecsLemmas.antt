-- How far specifiers reach: as far as they are derived.
use Rattle.std.proofs.Common.{◌≡◌, List, ◌∷◌, refl, sym, ap, subst, ◌∙◌}
use Rattle.std.specs.Prelude.{Bool, true, false, not, ◌&&◌, ◌||◌, IsTrue, Option, Some, None}
use Rattle.std.specs.Option.{option_map_or}
use Rattle.std.specs.List.{list_all}
use Rattle.std.proofs.lemmas.Bool.{false≢true}
use Rattle.c_terms.specs.declared.token.Token.{Token}
use Rattle.c_terms.specs.declared.label.Label.TheVariants as label
use Rattle.c_terms.specs.declared.tree.Tree.{Tree, out-Tree}
use Rattle.c_terms.specs.declared.tree.Tree.TheVariants as tree
use Rattle.c_terms.proofs.SameLemmas.{out-Branch}
use Rattle.c_rows.specs.declared.class.Class.TheVariants as class
use Rattle.c_rows.specs.declared.kind.Kind.{Kind}
use Rattle.c_rows.specs.declared.kind.Kind.TheVariants as kind
use Rattle.c_rows.specs.declared.rule.Rule.{Rule}
use Rattle.c_rows.specs.declared.rule.Rule.TheVariants as rule
use Rattle.c_rows.specs.Words.{same_class}
use Rattle.c_rows.specs.Kinds.{within}
use Rattle.c_rows.specs.Rows.{Row, ways, row, kind_of, build}
use Rattle.c_rows.specs.Branches.{plain_part, plain_at, is_plain}
use Rattle.c_rows.specs.Look.{Names, look}
use Rattle.c_rows.specs.Derives.{Derives, leaf, branch, DerivesRow, done, word, child, argument, type_argument, fork}
use Rattle.c_rows.proofs.FirstChecks.{and_left, and_right}
use Rattle.smpl_meta.specs.Typed.{is_refused}
use Rattle.read_laws.specs.TypedOnce.{is_metavariable}
use Rattle.read_laws.proofs.TypedOnce.KindLemmas.{wrap, is-type}
use Rattle.read_laws.proofs.TypedOnce.RowLemmas.{word_next, is_tag_kind, in_state, ways-state, all-at, not-true}
use Rattle.read_laws.proofs.TypedOnce.StepLemmas.{fine, Goes, stay, then-goes, name-goes, tag-word-goes, word-goes}

module _ (names : Names) (may : List Token → List Token → Type 0) where
  abbrev part_plain : Tree → Bool
  part_plain part = plain_part (out-Tree part)

  -- ---- a structure, a union or an enumeration by its tag

  tag-row : (r : Rule) → IsTrue (within (kind_of r) kind.Tag) → {xs ys : List Token} {cs : List Tree} → DerivesRow names may (row r) xs cs ys
      → part_plain (build r cs) ≡ true → list_all fine xs ≡ true → Goes false false xs true false ys
  tag-row rule.StructUse w (word {t = t} {xs = us} h (word {t = u} {xs = ys} k done)) p f =
      let g = and_right (fine t) (list_all fine (u ∷ ys)) f in
      then-goes false false true true true false (t ∷ u ∷ ys) (u ∷ ys) ys
      (tag-word-goes names t (u ∷ ys) (and_left (fine t) (list_all fine (u ∷ ys)) f) (ap (λ b. b || same_class class.Enum (look names (t ∷ u ∷ ys))) h))
      (name-goes names u ys (and_left (fine u) (list_all fine ys) g) true true refl k)
  tag-row rule.EnumUse w (word {t = t} {xs = us} h (word {t = u} {xs = ys} k done)) p f =
      let g = and_right (fine t) (list_all fine (u ∷ ys)) f in
      then-goes false false true true true false (t ∷ u ∷ ys) (u ∷ ys) ys
      (tag-word-goes names t (u ∷ ys) (and_left (fine t) (list_all fine (u ∷ ys)) f) (second (same_class class.Struct (look names (t ∷ u ∷ ys))) h))
      (name-goes names u ys (and_left (fine u) (list_all fine ys) g) true true refl k)
    where
      second : (a : Bool) {b : Bool} → b ≡ true → (a || b) ≡ true
      second true h = refl
      second false h = h
  tag-row rule.StructDef w {cs = cs} row p f = absurd (false≢true (sym (ap plain_part (out-Branch label.StructDef cs)) ∙ p))
  tag-row rule.EnumDef w {cs = cs} row p f = absurd (false≢true (sym (ap plain_part (out-Branch label.EnumDef cs)) ∙ p))
  tag-row _ w row p f = absurd (false≢true w)

  tag-goes : (k : Kind) → is_tag_kind k ≡ true → {xs ys : List Token} {u : Tree} → Derives names may k xs u ys
      → part_plain u ≡ true → list_all fine xs ≡ true → Goes false false xs true false ys
  tag-goes kind.Tag e (leaf h) p f = absurd (false≢true h)
  tag-goes kind.Tag e (branch r w b a row) p f = tag-row r w row p f
  tag-goes _ e d p f = absurd (false≢true e)

  -- ---- rows

  row-goes : {ps : Row} {xs ys : List Token} {cs : List Tree} → DerivesRow names may ps xs cs ys → (n : Bool) → in_state ps n ≡ true
      → list_all part_plain cs ≡ true → list_all fine xs ≡ true → Goes n false xs true false ys
  row-goes (done {xs = xs}) n s p f = subst (λ k. Goes n false xs k false xs) s (stay n false xs)
  row-goes (word {w = w} {ps = ps} {t = t} {xs = xs} {ys = ys} {cs = cs} h rest) n s p f =
      by (word_next n w) refl s
      (λ m e. row-goes rest m e (and_right (part_plain (tree.Leaf t)) (list_all part_plain cs) p) (and_right (fine t) (list_all fine xs) f))
    where
      by : (o : Option Bool) → word_next n w ≡ o → option_map_or (in_state ps) o false ≡ true
          → ((m : Bool) → in_state ps m ≡ true → Goes m false xs true false ys) → Goes n false (t ∷ xs) true false ys
      by None e q more = absurd (false≢true q)
      by (Some m) e q more =
          then-goes n false m false true false (t ∷ xs) xs ys (word-goes names t xs (and_left (fine t) (list_all fine xs) f) n m w e h) (more m q)
  row-goes (child {k = k} {ps = ps} {xs = xs} {ys = ys} {zs = zs} {t = u} {cs = cs} d rest) n s p f =
      let tag : is_tag_kind k ≡ true = and_left (is_tag_kind k) (not n && in_state ps true) s in
      let state = and_right (is_tag_kind k) (not n && in_state ps true) s in
      let none : n ≡ false = not-true n (and_left (not n) (in_state ps true) state) in
      let first : Goes false false xs true false ys = tag-goes k tag d (and_left (part_plain u) (list_all part_plain cs) p) f in
      let more : Goes true false ys true false zs =
      row-goes rest true (and_right (not n) (in_state ps true) state) (and_right (part_plain u) (list_all part_plain cs) p) (first.still f) in
      subst (λ m. Goes m false xs true false zs) (sym none) (then-goes false false true false true false xs ys zs first more)
  row-goes (argument d rest) n s p f = absurd (false≢true s)
  row-goes (type_argument a d rest) n s p f = absurd (false≢true s)
  row-goes (fork {f = g} {ps = ps} i w v way) n s p f =
      row-goes way n (all-at (λ qs. in_state qs n) (ways g) i ps (ways-state g n s) w) p f

  -- ---- specifiers

  specs-row : (r : Rule) → IsTrue (within (kind_of r) kind.Specs) → {xs ys : List Token} {cs : List Tree} → DerivesRow names may (row r) xs cs ys
      → is_plain (build r cs) ≡ true → list_all fine xs ≡ true → Goes false false xs true false ys
  specs-row rule.Specs w {cs = cs} row p f = row-goes row false refl (sym (ap plain_at (out-Branch label.Specs cs)) ∙ p) f
  specs-row _ w row p f = absurd (false≢true w)

  pub specs-go : {xs ys : List Token} {u : Tree} → Derives names may kind.Specs xs u ys → is_plain u ≡ true → list_all fine xs ≡ true
      → Goes false false xs true false ys
  specs-go (leaf {t = t} {ys = ys} h) p f =
      let l : is_metavariable t.kind ≡ false = not-true (is_metavariable t.kind)
      (and_right (not (is_refused (wrap t))) (not (is_metavariable t.kind)) (and_left (fine t) (list_all fine ys) f)) in
      absurd (false≢true (sym l ∙ is-type names t ys h))
  specs-go (branch r w b a row) p f = specs-row r w row p f
