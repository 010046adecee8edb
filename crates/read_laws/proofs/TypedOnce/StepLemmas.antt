-- Specifiers go on over a token.
use Rattle.std.proofs.Common.{◌≡◌, ℕ, suc, ◌+◌, List, ◌∷◌, ◌++◌, map, length, refl, ap, subst, arith}
use Rattle.std.specs.Prelude.{Bool, true, false, not, ◌&&◌, ◌||◌, if◌then◌else◌, IsTrue, Some}
use Rattle.std.specs.List.{list_all}
use Rattle.std.proofs.lemmas.Bool.{false≢true}
use Rattle.std.proofs.lemmas.Option.{none-some, same_Some}
use Rattle.c_terms.specs.declared.token.Token.{Token}
use Rattle.c_rows.specs.declared.class.Class.{Class}
use Rattle.c_rows.specs.declared.class.Class.TheVariants as class
use Rattle.c_rows.specs.declared.word.Word.{Word}
use Rattle.c_rows.specs.declared.word.Word.TheVariants as words
use Rattle.c_rows.specs.Words.{same_class, fits, begins_tag}
use Rattle.c_rows.specs.Look.{Names, look}
use Rattle.c_rows.proofs.FirstChecks.{and_left, and_right}
use Rattle.smpl_lexer.specs.declared.token.PatchToken.{PatchToken}
use Rattle.smpl_meta.specs.Typed.{is_tag_word, is_qualifier, can_follow, named_after, specs_from, is_refused}
use Rattle.smpl_meta.specs.Forms.{is_keyword}
use Rattle.smpl_lexer.specs.Tokens.{is_name}
use Rattle.read_laws.specs.TypedOnce.{is_metavariable}
use Rattle.read_laws.proofs.TypedOnce.KindLemmas.{wrap, is-keyword, is-name}
use Rattle.read_laws.proofs.TypedOnce.WordLemmas.{is-qualifier, is-tag, no-qualifier, no-tag}
use Rattle.read_laws.proofs.TypedOnce.RowLemmas.{word_next, not-true}

-- ---- from some tokens to others

-- the token isn't refused, and is no metavariable
abbrev pub fine : Token → Bool
fine t = not (is_refused (wrap t)) && not (is_metavariable t.kind)

abbrev pub in_patch : List Token → List PatchToken → List PatchToken
in_patch xs b = map wrap xs ++ b

pub record Goes (named tag : Bool) (xs : List Token) (after last : Bool) (ys : List Token) : Type 0 where
  pub count : ℕ
  pub many : length xs ≡ count + length ys
  pub reaches : (b : List PatchToken) → specs_from named tag (in_patch xs b) ≡ count + specs_from after last (in_patch ys b)
  pub still : list_all fine xs ≡ true → list_all fine ys ≡ true

pub stay : (n g : Bool) (xs : List Token) → Goes n g xs n g xs
stay n g xs = record { count = 0; many = omega arith; reaches = λ b. omega arith; still = λ f. f }

pub then-goes : (n g m u k w : Bool) (xs ys zs : List Token) → Goes n g xs m u ys → Goes m u ys k w zs → Goes n g xs k w zs
then-goes n g m u k w xs ys zs a b = record {
  count = a.count + b.count;
  many = let p = a.many in let q = b.many in omega (arith, p, q);
  reaches = λ c. let p = a.reaches c in let q = b.reaches c in omega (arith, p, q);
  still = λ f. b.still (a.still f);
}

-- one token
one : (n g m u : Bool) (t : Token) (xs : List Token) → can_follow n g (wrap t) ≡ true → named_after n (wrap t) ≡ m → is_tag_word (wrap t) ≡ u
    → Goes n g (t ∷ xs) m u xs
one n g m u t xs c e f = record {
  count = 1;
  many = omega arith;
  reaches = λ b.
      let next : specs_from (named_after n (wrap t)) (is_tag_word (wrap t)) (in_patch xs b) ≡ specs_from m u (in_patch xs b) =
      λ i. specs_from (e i) (f i) (in_patch xs b) in
      let here : specs_from n g (in_patch (t ∷ xs) b) ≡ suc (specs_from (named_after n (wrap t)) (is_tag_word (wrap t)) (in_patch xs b)) =
      ap (λ d. if d then suc (specs_from (named_after n (wrap t)) (is_tag_word (wrap t)) (in_patch xs b)) else 0) c in
      omega (arith, next, here);
  still = λ h. and_right (fine t) (list_all fine xs) h;
}

-- ---- words of specifiers

module _ (names : Names) (t : Token) (xs : List Token) (f : fine t ≡ true) where
  known : is_refused (wrap t) ≡ false
  known = not-true (is_refused (wrap t)) (and_left (not (is_refused (wrap t))) (not (is_metavariable t.kind)) f)

  literal : is_metavariable t.kind ≡ false
  literal = not-true (is_metavariable t.kind) (and_right (not (is_refused (wrap t))) (not (is_metavariable t.kind)) f)

  keyword-follows : (n g : Bool) → is_keyword (wrap t) ≡ true → can_follow n g (wrap t) ≡ true
  keyword-follows n g e = ap (λ b. b || (is_name (wrap t) && (g || not n))) e

  name-follows : (n g : Bool) → (g || not n) ≡ true → is_name (wrap t) ≡ true → can_follow n g (wrap t) ≡ true
  name-follows n g o e = by (is_keyword (wrap t)) (λ i. e i && o i)
    where
      by : (b : Bool) {c : Bool} → c ≡ true → (b || c) ≡ true
      by true h = refl
      by false h = h

  names-type : (n : Bool) → is_qualifier (wrap t) ≡ false → named_after n (wrap t) ≡ true
  names-type n e = by n (ap not e)
    where
      by : (b : Bool) {c : Bool} → c ≡ true → (b || c) ≡ true
      by true h = refl
      by false h = h

  same-named : (n : Bool) → is_qualifier (wrap t) ≡ true → named_after n (wrap t) ≡ n
  same-named true e = refl
  same-named false e = ap not e

  pub name-goes : (g n : Bool) → (g || not n) ≡ true → IsTrue (fits words.Name (look names (t ∷ xs))) → Goes n g (t ∷ xs) true false xs
  name-goes g n o h =
      one n g true false t xs (name-follows n g o (is-name names t xs literal h))
      (names-type n (no-qualifier names t xs (fits words.Name) refl h)) (no-tag names t xs (fits words.Name) refl refl refl refl h)

  abbrev is_tag : Class → Bool
  is_tag c = same_class class.Struct c || same_class class.Enum c

  is-begin : (c : Class) → IsTrue (is_tag c) → IsTrue (fits words.BasicOrModifier c || begins_tag c)
  is-begin class.Struct h = refl
  is-begin class.Enum h = refl
  is-begin _ h = absurd (false≢true h)

  pub tag-word-goes : IsTrue (is_tag (look names (t ∷ xs))) → Goes false false (t ∷ xs) true true xs
  tag-word-goes h =
      let key = is-keyword names t xs (is-begin (look names (t ∷ xs)) h) in
      one false false true true t xs (keyword-follows false false key)
      (names-type false (no-qualifier names t xs is_tag refl h)) (is-tag names t xs key h)

  or-left : (a b : Bool) → a ≡ true → (a || b) ≡ true
  or-left a b e = ap (λ c. c || b) e

  modifier-key : (c : Class) → IsTrue (fits words.Modifier c) → IsTrue (fits words.BasicOrModifier c || begins_tag c)
  modifier-key class.Storage h = refl
  modifier-key class.StorageOfMacro h = refl
  modifier-key class.Qualifier h = refl
  modifier-key class.Function h = refl
  modifier-key _ h = absurd (false≢true h)

  basic-key : (c : Class) → IsTrue (same_class class.Basic c) → IsTrue (fits words.BasicOrModifier c || begins_tag c)
  basic-key class.Basic h = refl
  basic-key _ h = absurd (false≢true h)

  modifier-goes : (n : Bool) → IsTrue (fits words.Modifier (look names (t ∷ xs))) → Goes n false (t ∷ xs) n false xs
  modifier-goes n h =
      let key = is-keyword names t xs (modifier-key (look names (t ∷ xs)) h) in
      one n false n false t xs (keyword-follows n false key)
      (same-named n (is-qualifier names t xs key h known)) (no-tag names t xs (fits words.Modifier) refl refl refl refl h)

  basic-goes : (n : Bool) → IsTrue (same_class class.Basic (look names (t ∷ xs))) → Goes n false (t ∷ xs) true false xs
  basic-goes n h =
      let key = is-keyword names t xs (basic-key (look names (t ∷ xs)) h) in
      one n false true false t xs (keyword-follows n false key)
      (names-type n (no-qualifier names t xs (same_class class.Basic) refl h)) (no-tag names t xs (same_class class.Basic) refl refl refl refl h)

  more-goes : IsTrue (fits words.BasicOrModifier (look names (t ∷ xs))) → Goes true false (t ∷ xs) true false xs
  more-goes h =
      let key = is-keyword names t xs (or-left (fits words.BasicOrModifier (look names (t ∷ xs))) (begins_tag (look names (t ∷ xs))) h) in
      one true false true false t xs (keyword-follows true false key) refl (no-tag names t xs (fits words.BasicOrModifier) refl refl refl refl h)

  pub word-goes : (n m : Bool) (w : Word) → word_next n w ≡ Some m → IsTrue (fits w (look names (t ∷ xs))) → Goes n false (t ∷ xs) m false xs
  word-goes n m words.Modifier e h = subst (λ k. Goes n false (t ∷ xs) k false xs) (same_Some n m e) (modifier-goes n h)
  word-goes true m words.BasicOrModifier e h = subst (λ k. Goes true false (t ∷ xs) k false xs) (same_Some true m e) (more-goes h)
  word-goes false m words.Name e h = subst (λ k. Goes false false (t ∷ xs) k false xs) (same_Some true m e) (name-goes false false refl h)
  word-goes n m (words.One class.Basic) e h = subst (λ k. Goes n false (t ∷ xs) k false xs) (same_Some true m e) (basic-goes n h)
  word-goes _ m _ e h = absurd (none-some m e)
