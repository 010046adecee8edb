-- What the class of a token says of the words of specifiers.
use Rattle.std.proofs.Common.{◌≡◌, ℕ, List, [], ◌∷◌, refl, sym, ap, ◌∙◌}
use Rattle.std.specs.Prelude.{Bool, true, false, ◌&&◌, ◌||◌, if◌then◌else◌, IsTrue, codes}
use Rattle.std.proofs.lemmas.Bool.{false≢true}
use Rattle.std.specs.Str.{bytes_eq}
use Rattle.std.proofs.lemmas.Slice.Eq.{bytes_eq-Decides}
use Rattle.c_terms.specs.declared.token.Token.{Token}
use Rattle.c_terms.specs.declared.token.TokenKind.{TokenKind}
use Rattle.c_terms.specs.declared.token.TokenKind.TheVariants as token
use Rattle.c_rows.specs.declared.class.Class.{Class}
use Rattle.c_rows.specs.declared.class.Class.TheVariants as class
use Rattle.c_rows.specs.declared.word.Word.TheVariants as word
use Rattle.c_rows.specs.Texts.{keywords, class_in}
use Rattle.c_rows.specs.Tokens.{is_sign, is_storage, is_storage_class, storage_kind}
use Rattle.c_rows.specs.Words.{same_class, fits}
use Rattle.c_rows.specs.Look.{Names, look, class_of, keyword, keyword_before, storage, has_members, begins_type, closes_before_brace}
use Rattle.c_rows.specs.Look.{is_name_before_brace, sizeof, sizeof_bracket, alignof}
use Rattle.c_rows.specs.Choice.{implies}
use Rattle.c_rows.proofs.FirstChecks.{modus}
use Rattle.smpl_lexer.specs.declared.token.PatchToken.{PatchToken}
use Rattle.smpl_meta.specs.Forms.{is_keyword_kind, is_keyword}
use Rattle.smpl_meta.specs.Typed.{is_tag_word, is_qualifier, is_refused}
use Rattle.read_laws.proofs.TypedOnce.KindLemmas.{wrap}

-- ---- what a keyword's class comes from

pick : (p : Class → Bool) (b : Bool) (x y : Class) → p x ≡ false → p y ≡ false → p (if b then x else y) ≡ false
pick p true x y h g = h
pick p false x y h g = g

-- a test that classes by context pass only if those without it do
record Plain (p : Class → Bool) : Type 0 where
  macro : IsTrue (implies (p class.StorageOfMacro) (p class.Storage))
  members : IsTrue (implies (p class.StructBody) (p class.Struct))
  values : IsTrue (implies (p class.EnumBody) (p class.Enum))
  expression : p class.SizeofExpr ≡ false
  type : p class.SizeofType ≡ false
  other : p class.Other ≡ false

module _ (p : Class → Bool) (plain : Plain p) (names : Names) (ts : List Token) where
  sizeof_fails : (us : List Token) → p (sizeof names us) ≡ false
  sizeof_fails [] = plain.expression
  sizeof_fails (u ∷ us) =
      pick p (is_sign u (codes "(")) (sizeof_bracket names us) class.SizeofExpr
      (pick p (begins_type names us) (if closes_before_brace us then class.SizeofExpr else class.SizeofType)
      (if is_name_before_brace us then class.Other else class.SizeofExpr)
      (pick p (closes_before_brace us) class.SizeofExpr class.SizeofType plain.expression plain.type)
      (pick p (is_name_before_brace us) class.Other class.SizeofExpr plain.other plain.expression))
      plain.expression

  alignof_fails : (us : List Token) → p (alignof names us) ≡ false
  alignof_fails [] = plain.other
  alignof_fails (u ∷ us) = pick p (is_sign u (codes "(") && begins_type names us) class.SizeofType class.Other plain.type plain.other

  storage_from : (next : Class) → IsTrue (p (storage next)) → IsTrue (p class.Storage)
  storage_from class.StorageOfMacro h = modus (p class.StorageOfMacro) (p class.Storage) plain.macro h
  storage_from class.NameOfCall h = modus (p class.StorageOfMacro) (p class.Storage) plain.macro h
  storage_from class.NameOfIterator h = modus (p class.StorageOfMacro) (p class.Storage) plain.macro h
  storage_from _ h = h

  tag_from : (b : Bool) (x y : Class) → IsTrue (implies (p x) (p y)) → IsTrue (p (if b then x else y)) → IsTrue (p y)
  tag_from true x y i h = modus (p x) (p y) i h
  tag_from false x y i h = h

  raw : (next c : Class) → IsTrue (p (keyword_before names ts next c)) → IsTrue (p c)
  raw next class.Storage h = storage_from next h
  raw next class.Struct h = tag_from (has_members ts) class.StructBody class.Struct plain.members h
  raw next class.Enum h = tag_from (has_members ts) class.EnumBody class.Enum plain.values h
  raw next class.SizeofExpr h = absurd (false≢true (sym (sizeof_fails ts) ∙ h))
  raw next class.SizeofType h = absurd (false≢true (sym (alignof_fails ts) ∙ h))
  raw next _ h = h

-- the text is one of those whose class in the list passes the test
abbrev spelled : (Class → Bool) → List (List ℕ × Class) → List ℕ → Bool
spelled p [] s = false
spelled p (w ∷ ws) s = (p w.1 && bytes_eq s w.0) || spelled p ws s

in-spelled : (p : Class → Bool) → p class.Other ≡ false → (ws : List (List ℕ × Class)) (s : List ℕ) → IsTrue (p (class_in ws s)) → IsTrue (spelled p ws s)
in-spelled p o [] s h = absurd (false≢true (sym o ∙ h))
in-spelled p o (w ∷ ws) s h = by (bytes_eq s w.0) (in-spelled p o ws s) h
  where
    here : (a r : Bool) → IsTrue a → IsTrue ((a && true) || r)
    here true r h = refl
    here false r h = absurd (false≢true h)

    later : (a r : Bool) → IsTrue r → IsTrue ((a && false) || r)
    later true r h = h
    later false r h = h

    by : (b : Bool) → (IsTrue (p (class_in ws s)) → IsTrue (spelled p ws s)) → IsTrue (p (if b then w.1 else class_in ws s))
        → IsTrue ((p w.1 && b) || spelled p ws s)
    by true f h = here (p w.1) (spelled p ws s) h
    by false f h = later (p w.1) (spelled p ws s) (f h)

-- ---- modifiers and tags

modifier-plain : Plain (fits word.Modifier)
modifier-plain = record { macro = refl; members = refl; values = refl; expression = refl; type = refl; other = refl }

abbrev is_tag : Class → Bool
is_tag c = same_class class.Struct c || same_class class.Enum c

tag-plain : Plain is_tag
tag-plain = record { macro = refl; members = refl; values = refl; expression = refl; type = refl; other = refl }

-- of the modifiers, those that are not refused
three : (ty ex st au re th il nr c v r : Bool) → (ty || (ex || (st || (au || (re || (th || (il || nr))))))) ≡ false
    → IsTrue (c || (v || (r || (st || (ex || (ty || (re || (au || (th || (il || (nr || false))))))))))) → (c || (v || r)) ≡ true
three true ex st au re th il nr c v r e h = absurd (false≢true (sym e))
three false true st au re th il nr c v r e h = absurd (false≢true (sym e))
three false false true au re th il nr c v r e h = absurd (false≢true (sym e))
three false false false true re th il nr c v r e h = absurd (false≢true (sym e))
three false false false false true th il nr c v r e h = absurd (false≢true (sym e))
three false false false false false true il nr c v r e h = absurd (false≢true (sym e))
three false false false false false false true nr c v r e h = absurd (false≢true (sym e))
three false false false false false false false true c v r e h = absurd (false≢true (sym e))
three false false false false false false false false true v r e h = refl
three false false false false false false false false false true r e h = refl
three false false false false false false false false false false true e h = refl
three false false false false false false false false false false false e h = absurd (false≢true h)

-- storage words are refused
six : (ty ex st au re th rest : Bool) → (ty || (ex || (st || (au || (re || (th || rest)))))) ≡ false
    → IsTrue (st || (ex || (ty || (re || (au || (th || false)))))) → ⊥
six true ex st au re th rest e h = false≢true (sym e)
six false true st au re th rest e h = false≢true (sym e)
six false false true au re th rest e h = false≢true (sym e)
six false false false true re th rest e h = false≢true (sym e)
six false false false false true th rest e h = false≢true (sym e)
six false false false false false true rest e h = false≢true (sym e)
six false false false false false false rest e h = false≢true h

tags : (s u e : Bool) → IsTrue (s || (u || (e || false))) → (s || (u || e)) ≡ true
tags true u e h = refl
tags false true e h = refl
tags false false true h = refl
tags false false false h = absurd (false≢true h)

module _ (names : Names) (s : List ℕ) (at : ℕ) (ts : List Token) (next : Class) where
  abbrev word_of : TokenKind → PatchToken
  word_of k = wrap (record { kind = k; text = s; id = at })

  modifier-by : (k : TokenKind) → is_keyword_kind k ≡ true → IsTrue (fits word.Modifier (class_of names k s ts next)) → is_refused (word_of k) ≡ false
      → is_qualifier (word_of k) ≡ true
  modifier-by token.Keyword e h r =
      three (bytes_eq s (codes "typedef")) (bytes_eq s (codes "extern")) (bytes_eq s (codes "static")) (bytes_eq s (codes "auto"))
      (bytes_eq s (codes "register")) (bytes_eq s (codes "_Thread_local")) (bytes_eq s (codes "inline")) (bytes_eq s (codes "_Noreturn"))
      (bytes_eq s (codes "const")) (bytes_eq s (codes "volatile")) (bytes_eq s (codes "restrict")) r
      (in-spelled (fits word.Modifier) refl keywords s (raw (fits word.Modifier) modifier-plain names ts next (class_in keywords s) h))
  modifier-by _ e h r = absurd (false≢true e)

  tag-by : (k : TokenKind) → is_keyword_kind k ≡ true → IsTrue (is_tag (class_of names k s ts next)) → is_tag_word (word_of k) ≡ true
  tag-by token.Keyword e h =
      tags (bytes_eq s (codes "struct")) (bytes_eq s (codes "union")) (bytes_eq s (codes "enum"))
      (in-spelled is_tag refl keywords s (raw is_tag tag-plain names ts next (class_in keywords s) h))
  tag-by _ e h = absurd (false≢true e)

  unstored-by : (k : TokenKind) → is_refused (word_of k) ≡ false → storage_kind k s ≡ false
  unstored-by token.Keyword r = by (is_storage_class (class_in keywords s)) refl
    where
      by : (b : Bool) → is_storage_class (class_in keywords s) ≡ b → b ≡ false
      by true e =
          absurd (six (bytes_eq s (codes "typedef")) (bytes_eq s (codes "extern")) (bytes_eq s (codes "static")) (bytes_eq s (codes "auto"))
          (bytes_eq s (codes "register")) (bytes_eq s (codes "_Thread_local")) (bytes_eq s (codes "inline") || bytes_eq s (codes "_Noreturn")) r
          (in-spelled is_storage_class refl keywords s e))
      by false e = refl
  unstored-by _ r = refl

  -- a word whose class fails a test that the token's class passes
  other-word : (p : Class → Bool) (w : List ℕ) → p (keyword names w ts next) ≡ false → (k : TokenKind) → IsTrue (p (class_of names k s ts next))
      → (is_keyword_kind k && bytes_eq s w) ≡ false
  other-word p w f token.Keyword h = by (bytes_eq s w) refl
    where
      by : (b : Bool) → bytes_eq s w ≡ b → b ≡ false
      by true e =
          let same : s ≡ w = (bytes_eq-Decides s w).0 e in
          absurd (false≢true (sym f ∙ ap (λ u. p (keyword names u ts next)) (sym same) ∙ h))
      by false e = refl
  other-word p w f _ h = refl

  none-of : (a b c : Bool) → a ≡ false → b ≡ false → c ≡ false → (a || (b || c)) ≡ false
  none-of a b c e f g = λ i. e i || (f i || g i)

  plain-by : (p : Class → Bool) → p class.Qualifier ≡ false → (k : TokenKind) → IsTrue (p (class_of names k s ts next)) → is_qualifier (word_of k) ≡ false
  plain-by p q k h =
      none-of (is_keyword_kind k && bytes_eq s (codes "const")) (is_keyword_kind k && bytes_eq s (codes "volatile"))
      (is_keyword_kind k && bytes_eq s (codes "restrict"))
      (other-word p (codes "const") q k h) (other-word p (codes "volatile") q k h) (other-word p (codes "restrict") q k h)

  untagged-by : (p : Class → Bool) → p class.Struct ≡ false → p class.StructBody ≡ false → p class.Enum ≡ false → p class.EnumBody ≡ false
      → (k : TokenKind) → IsTrue (p (class_of names k s ts next)) → is_tag_word (word_of k) ≡ false
  untagged-by p a b c d k h =
      none-of (is_keyword_kind k && bytes_eq s (codes "struct")) (is_keyword_kind k && bytes_eq s (codes "union"))
      (is_keyword_kind k && bytes_eq s (codes "enum"))
      (other-word p (codes "struct") (pick p (has_members ts) class.StructBody class.Struct b a) k h)
      (other-word p (codes "union") (pick p (has_members ts) class.StructBody class.Struct b a) k h)
      (other-word p (codes "enum") (pick p (has_members ts) class.EnumBody class.Enum d c) k h)

-- ---- tokens

module _ (names : Names) (t : Token) (ts : List Token) where
  pub no-storage : is_refused (wrap t) ≡ false → is_storage t ≡ false
  no-storage r = unstored-by names t.text t.id ts (look names ts) t.kind r

  pub is-qualifier : is_keyword (wrap t) ≡ true → IsTrue (fits word.Modifier (look names (t ∷ ts))) → is_refused (wrap t) ≡ false
      → is_qualifier (wrap t) ≡ true
  unfolding look
  is-qualifier e h r = modifier-by names t.text t.id ts (look names ts) t.kind e h r

  pub is-tag : is_keyword (wrap t) ≡ true → IsTrue (is_tag (look names (t ∷ ts))) → is_tag_word (wrap t) ≡ true
  unfolding look
  is-tag e h = tag-by names t.text t.id ts (look names ts) t.kind e h

  pub no-qualifier : (p : Class → Bool) → p class.Qualifier ≡ false → IsTrue (p (look names (t ∷ ts))) → is_qualifier (wrap t) ≡ false
  unfolding look
  no-qualifier p q h = plain-by names t.text t.id ts (look names ts) p q t.kind h

  pub no-tag : (p : Class → Bool) → p class.Struct ≡ false → p class.StructBody ≡ false → p class.Enum ≡ false → p class.EnumBody ≡ false
      → IsTrue (p (look names (t ∷ ts))) → is_tag_word (wrap t) ≡ false
  unfolding look
  no-tag p a b c d h = untagged-by names t.text t.id ts (look names ts) p a b c d t.kind h
