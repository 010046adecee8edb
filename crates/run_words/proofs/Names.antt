-- Names of C, and names between commas.
use Rattle.std.proofs.Common.{◌≡◌, ◌∙◌, refl, sym, ap, subst, eq-eqb, ne_eqb, nat_eq, ℕ, suc, one-add, add-one, ◌+◌, ◌-◌, ◌<◌, ◌≤◌, ◌==◌, Bool, true, false}
use Rattle.std.proofs.Common.{cond, not, List, [], ◌∷◌, ◌++◌, length, take, drop, take_all, take-append-drop, length-drop, append_assoc, Option, Some, None}
use Rattle.std.proofs.Common.{option_map, inl, inr, arith, true≢false}
use Rattle.std.specs.List.{list_all, prefix_len}
use Rattle.std.proofs.lemmas.Bool.{and_parts, and_from, cases_Bool, cases_lt, not-true, not_from_false, false_from_ne_true}
use Rattle.std.proofs.lemmas.List.{drop-drop}
use Rattle.std.proofs.lemmas.Option.{none-some, same_Some}
use Rattle.c_lexer.specs.declared.state.Kind.{Kind}
use Rattle.c_lexer.specs.declared.state.Kind.TheVariants as kind
use Rattle.c_lexer.specs.First.{IsFirst}
use Rattle.c_lexer.specs.Kinds.{kind_of}
use Rattle.c_lexer.specs.Names.{AreWordBytes, IsName}
use Rattle.c_lexer.specs.Words.{is_keyword, is_word_byte, keywords}
use Rattle.c_lexer.proofs.Agree.{name_agrees}
use Rattle.c_lexer.proofs.Each.{contained, is_contained}
use Rattle.run_words.specs.Values.{between_commas, in_first, is_c_name, names_in}

-- ---- names of C

bytes_from : (bytes : List ℕ) → AreWordBytes bytes → list_all is_word_byte bytes ≡ true
bytes_from [] h = refl
bytes_from (b ∷ bytes) h = and_from _ _ h.0 (bytes_from bytes h.1)

bytes_to : (bytes : List ℕ) → list_all is_word_byte bytes ≡ true → AreWordBytes bytes
bytes_to [] h = tt
bytes_to (b ∷ bytes) h = let p = and_parts _ _ h in (p.0, bytes_to bytes p.1)

pub c_name_from : (text : List ℕ) → IsName text → is_c_name text ≡ true
c_name_from [] h = absurd h.0
c_name_from (b ∷ bytes) h =
    let no : is_keyword (b ∷ bytes) ≡ false = false_from_ne_true _ (λ e. h.1 (contained keywords (b ∷ bytes) e)) in
    and_from _ _ (and_from _ _ h.0.0 (bytes_from bytes h.0.1)) (not_from_false _ no)

pub c_name_to : (text : List ℕ) → is_c_name text ≡ true → IsName text
c_name_to [] h = absurd (true≢false (sym h))
c_name_to (b ∷ bytes) h =
    let p = and_parts _ _ h in
    let q = and_parts _ _ p.0 in
    let no : is_keyword (b ∷ bytes) ≡ false = not-true _ p.1 in
    ((q.0, bytes_to bytes q.1), λ is. true≢false (sym (is_contained keywords (b ∷ bytes) is) ∙ no))

-- the first piece is the whole text, and a name
pub first_is_name : (text : List ℕ) (len : ℕ) → IsFirst kind.Name (take len text) (drop len text) → len ≡ length text → is_c_name text ≡ true
first_is_name text len first all =
    let whole : take len text ≡ text = ap (λ n. take n text) all ∙ take_all (length text) text (omega arith) in
    c_name_from text ((name_agrees text).0 (ap kind_of (sym whole) ∙ first.of_kind))

-- a name is its own first piece
pub name_is_first : (text : List ℕ) (k : Kind) (len : ℕ) → len ≤ length text → IsFirst k (take len text) (drop len text) → is_c_name text ≡ true
    → (k ≡ kind.Name) × (len ≡ length text)
name_is_first text k len within first name =
    let is : kind_of text ≡ Some kind.Name = (name_agrees text).1 (c_name_to text name) in
    let all : len ≡ length text = elim (cases_lt len (length text)) [
      | inl less ↦
          let n = length text - len - 1 in
          let low : n < length (drop len text) = omega (arith, length-drop len text) in
          let rest : take (n + 1) (drop len text) ≡ drop len text = take_all (n + 1) (drop len text) (omega (arith, length-drop len text)) in
          let none = first.longest n low in
          absurd (none-some kind.Name (sym none ∙ (ap (λ r. kind_of (take len text ++ r)) rest ∙ (ap kind_of (take-append-drop len text) ∙ is))))
      | inr more ↦ omega arith
    ] in
    let whole : take len text ≡ text = ap (λ n. take n text) all ∙ take_all (length text) text (omega arith) in
    (same_Some k kind.Name (sym first.of_kind ∙ (ap kind_of whole ∙ is)), all)

pub name_told : (text : List ℕ) (k : Kind) (len : ℕ) → len ≤ length text → IsFirst k (take len text) (drop len text) → k ≡ kind.Name
    → nat_eq len (length text) ≡ is_c_name text
name_told text k len within first is = elim (cases_Bool (is_c_name text)) [
  | inl y ↦ eq-eqb len (length text) (name_is_first text k len within first y).1 ∙ sym y
  | inr n ↦ ne_eqb len (length text) (λ all. true≢false (sym (first_is_name text len (subst (λ j. IsFirst j (take len text)
      (drop len text)) is first) all) ∙ n)) ∙ sym n
]

pub other_told : (text : List ℕ) (k : Kind) (len : ℕ) → len ≤ length text → IsFirst k (take len text) (drop len text) → (k ≡ kind.Name → ⊥)
    → false ≡ is_c_name text
other_told text k len within first is = elim (cases_Bool (is_c_name text)) [
  | inl y ↦ absurd (is (name_is_first text k len within first y).0)
  | inr n ↦ sym n
]

-- ---- between commas

abbrev pub is_no_comma : ℕ → Bool
is_no_comma b = not (b == 44)

pub no_comma : (text : List ℕ) → prefix_len is_no_comma text ≡ length text → between_commas text ≡ text ∷ []
no_comma [] h = refl
no_comma (b ∷ bytes) h = elim (cases_Bool (b == 44)) [
  | inl e ↦ let zero : 0 ≡ length (b ∷ bytes) = rw e at h in absurd (omega arith)
  | inr e ↦
      let more : 1 + prefix_len is_no_comma bytes ≡ length (b ∷ bytes) = rw e at h in
      rw (e, no_comma bytes (omega arith)) refl
]

later : (b : ℕ) (bytes : List ℕ) (n : ℕ) → in_first b (take n bytes ∷ between_commas (drop (n + 1) bytes)) ≡ take (1 + n) (b ∷ bytes) ∷ between_commas
    (drop (1 + n + 1) (b ∷ bytes))
later b bytes n = rw (one-add n) (rw (add-one (suc n), add-one n) refl)

pub one_comma : (text : List ℕ) → prefix_len is_no_comma text < length text
    → between_commas text ≡ take (prefix_len is_no_comma text) text ∷ between_commas (drop (prefix_len is_no_comma text + 1) text)
one_comma [] h = absurd (omega arith)
one_comma (b ∷ bytes) h = elim (cases_Bool (b == 44)) [
  | inl e ↦ rw e refl
  | inr e ↦
      let more : 1 + prefix_len is_no_comma bytes < length (b ∷ bytes) = rw e at h in
      let rest = one_comma bytes (omega arith) in
      rw (e, rest) (later b bytes (prefix_len is_no_comma bytes))
]

-- the names of a text are those so far, followed by those from this position on
pub record SoFar (text : List ℕ) (names : List (List ℕ)) (start : ℕ) : Type 0 where
  pub within : start ≤ length text
  pub same : names_in text ≡ option_map (λ more. names ++ more) (names_in (drop start text))

from_none : (o : Option (List (List ℕ))) → o ≡ option_map (λ more. [] ++ more) o
from_none None = refl
from_none (Some names) = refl

pub so_far_begin : (text : List ℕ) → SoFar text [] 0
so_far_begin text = record { within = omega arith; same = from_none (names_in text) }

joined : (names : List (List ℕ)) (name : List ℕ) (are : Bool) (more : List (List ℕ))
    → option_map (λ m. names ++ m) (cond are (Some (name ∷ more)) None) ≡ option_map (λ m. names ++ name ∷ [] ++ m) (cond are (Some more) None)
joined names name true more = ap Some (sym (append_assoc names (name ∷ []) more))
joined names name false more = refl

-- if what precedes a comma or the end isn't a name, there are no names
none_in : (rest : List ℕ) (n : ℕ) → n ≡ prefix_len is_no_comma rest → n ≤ length rest → is_c_name (take n rest) ≡ false → names_in rest ≡ None
none_in rest n is within other = elim (cases_lt n (length rest)) [
  | inl less ↦
      let low : prefix_len is_no_comma rest < length rest = rw (← is) less in
      let texts : between_commas rest ≡ take n rest ∷ between_commas (drop (n + 1) rest) = rw (← is) at (one_comma rest low) in
      rw (texts, other) refl
  | inr more ↦
      let all : n ≡ length rest = omega arith in
      let texts : between_commas rest ≡ rest ∷ [] = no_comma rest (sym is ∙ all) in
      let name : is_c_name rest ≡ false = ap is_c_name (sym (take_all n rest more)) ∙ other in
      rw (texts, name) refl
]

pub so_far_none : (text : List ℕ) (names : List (List ℕ)) (start n : ℕ) → SoFar text names start → n ≡ prefix_len is_no_comma (drop start text)
    → n ≤ length (drop start text)
    → is_c_name (take n (drop start text)) ≡ false → None ≡ names_in text
so_far_none text names start n so is within other = sym (so.same ∙ ap (option_map (λ more. names ++ more)) (none_in (drop start text) n is within other))

last_in : (rest : List ℕ) (n : ℕ) → n ≡ prefix_len is_no_comma rest → n ≡ length rest → is_c_name (take n rest) ≡ true → names_in rest ≡ Some (take n rest ∷ [])
last_in rest n is all named =
    let whole : take n rest ≡ rest = take_all n rest (omega arith) in
    let texts : between_commas rest ≡ rest ∷ [] = no_comma rest (sym is ∙ all) in
    let name : is_c_name rest ≡ true = ap is_c_name (sym whole) ∙ named in
    let told : names_in rest ≡ Some (rest ∷ []) = rw (texts, name) refl in
    told ∙ ap (λ r. Some (r ∷ [])) (sym whole)

pub so_far_last : (text : List ℕ) (names : List (List ℕ)) (start n : ℕ) → SoFar text names start → n ≡ prefix_len is_no_comma (drop start text)
    → n ≡ length (drop start text)
    → is_c_name (take n (drop start text)) ≡ true → Some (names ++ take n (drop start text) ∷ []) ≡ names_in text
so_far_last text names start n so is all named = sym (so.same ∙ ap (option_map (λ more. names ++ more)) (last_in (drop start text) n is all named))

more_in : (names : List (List ℕ)) (rest : List ℕ) (n : ℕ) → n ≡ prefix_len is_no_comma rest → n < length rest → is_c_name (take n rest) ≡ true
    → option_map (λ more. names ++ more) (names_in rest) ≡ option_map (λ more. names ++ take n rest ∷ [] ++ more) (names_in (drop (n + 1) rest))
more_in names rest n is less named =
    let low : prefix_len is_no_comma rest < length rest = rw (← is) less in
    let texts : between_commas rest ≡ take n rest ∷ between_commas (drop (n + 1) rest) = rw (← is) at (one_comma rest low) in
    rw (texts, named) (joined names (take n rest) (list_all is_c_name (between_commas (drop (n + 1) rest))) (between_commas (drop (n + 1) rest)))

pub so_far_more : (text : List ℕ) (names : List (List ℕ)) (start n : ℕ) → SoFar text names start → n ≡ prefix_len is_no_comma (drop start text)
    → n < length (drop start text)
    → is_c_name (take n (drop start text)) ≡ true → SoFar text (names ++ take n (drop start text) ∷ []) (start + (n + 1))
so_far_more text names start n so is less named = record {
  within = omega (arith, less, so.within, length-drop start text);
  same = so.same ∙ (more_in names (drop start text) n is less named
      ∙ ap (λ rest. option_map (λ more. names ++ take n (drop start text) ∷ [] ++ more) (names_in rest)) (drop-drop (n + 1) start text));
}
