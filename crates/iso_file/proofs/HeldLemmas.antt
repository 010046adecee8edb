-- Names that a side contains, and variables among them.
use Rattle.std.proofs.Common.{◌≡◌, ℕ, ◌+◌, ◌<◌, Bool, true, false, ◌&&◌, ◌||◌, not, if◌then◌else◌, true≢false, List, [], ◌∷◌}
use Rattle.std.proofs.Common.{◌++◌, length, get_or, drop, Some, refl, sym, ap, ◌∙◌}
use Rattle.std.specs.Str.{bytes_eq}
use Rattle.std.proofs.lemmas.Slice.Eq.{bytes_eq-Decides}
use Rattle.std.proofs.lemmas.List.{drop_more}
use Rattle.std.proofs.lemmas.List.Folds.{list_any-append}
use Rattle.c_terms.specs.Same.{same_bytes}
use Rattle.c_terms.specs.Names.{has_name, with_name}
use Rattle.c_terms.proofs.SameLaws.{bytes-refl}
use Rattle.c_terms.proofs.BareLaws.{same_bytes-equal}
use Rattle.smpl_patch.specs.declared.pattern.VarDecl.{VarDecl}
use Rattle.smpl_lexer.specs.declared.token.PatchToken.{PatchToken}
use Rattle.smpl_lexer.specs.Tokens.{is_name}
use Rattle.iso_file.specs.Lost.{stands_in, is_variable, lost_between}

same_eq : (a b : List ℕ) → same_bytes a b ≡ bytes_eq b a
same_eq a b = by (same_bytes a b) (bytes_eq b a) refl refl
  where
    by : (p q : Bool) → same_bytes a b ≡ p → bytes_eq b a ≡ q → p ≡ q
    by true true h k = refl
    by false false h k = refl
    by true false h k = absurd (true≢false (sym ((bytes_eq-Decides b a).1 (sym (same_bytes-equal a b h))) ∙ k))
    by false true h k = absurd (true≢false (sym (ap (same_bytes a) ((bytes_eq-Decides b a).0 k) ∙ bytes-refl a) ∙ h))

or_false : (b : Bool) → b || false ≡ b
or_false true = refl
or_false false = refl

or_true : (b : Bool) → b ≡ true → b ≡ b || true
or_true true h = refl
or_true false h = h

any_append : (text : List ℕ) (names : List (List ℕ)) (name : List ℕ) → has_name (names ++ name ∷ []) text ≡ has_name names text || bytes_eq name text
any_append text names name =
    list_any-append (same_bytes text) names (name ∷ []) ∙ ap (λ (b : Bool). has_name names text || b) (or_false (same_bytes text name) ∙ same_eq text name)

pub with_more : (names : List (List ℕ)) (name text : List ℕ) → has_name (with_name names name) text ≡ has_name names text || bytes_eq name text
with_more names name text = by (has_name names name) refl
  where
    known : has_name names name ≡ true → (q : Bool) → bytes_eq name text ≡ q → has_name names text ≡ has_name names text || q
    known h false k = sym (or_false (has_name names text))
    known h true k = or_true (has_name names text) (ap (has_name names) (sym ((bytes_eq-Decides name text).0 k)) ∙ h)

    by : (b : Bool) → has_name names name ≡ b → has_name (if b then names else names ++ name ∷ []) text ≡ has_name names text || bytes_eq name text
    by true h = known h (bytes_eq name text) refl
    by false h = any_append text names name

more_by : (x n q r : Bool) → n ≡ true → (x || q) || r ≡ x || (if n && q then true else r)
more_by true n q r h = refl
more_by false true true r h = refl
more_by false true false r h = refl
more_by false false q r h = absurd (true≢false (sym h))

on_by : (x n q r : Bool) → n ≡ false → x || r ≡ x || (if n && q then true else r)
on_by x false q r h = refl
on_by x true q r h = absurd (true≢false h)

-- one more token, a name or not
pub held_more : (held more : List (List ℕ)) (t : PatchToken) (rest : List PatchToken) (text : List ℕ) → is_name t ≡ true → more ≡ with_name held t.token.text
    → has_name more text || stands_in rest text ≡ has_name held text || stands_in (t ∷ rest) text
held_more held more t rest text h e =
    ap (λ (b : Bool). b || stands_in rest text) (ap (λ (ns : List (List ℕ)). has_name ns text) e ∙ with_more held t.token.text text)
    ∙ more_by (has_name held text) (is_name t) (bytes_eq t.token.text text) (stands_in rest text) h

pub held_on : (held : List (List ℕ)) (t : PatchToken) (rest : List PatchToken) (text : List ℕ) → is_name t ≡ false
    → has_name held text || stands_in rest text ≡ has_name held text || stands_in (t ∷ rest) text
held_on held t rest text h = on_by (has_name held text) (is_name t) (bytes_eq t.token.text text) (stands_in rest text) h

-- a step over tokens
pub held_step : (tokens : List PatchToken) (i : ℕ) (t : PatchToken) (held more : List (List ℕ)) (text : List ℕ) → i < length tokens → t ≡ get_or tokens i t
    → is_name t ≡ true → more ≡ with_name held t.token.text → has_name held text || stands_in (drop i tokens) text ≡ stands_in tokens text
    → has_name more text || stands_in (drop (i + 1) tokens) text ≡ stands_in tokens text
held_step tokens i t held more text within is name e so_far =
    held_more held more t (drop (i + 1) tokens) text name e
    ∙ ap (λ (x : PatchToken). has_name held text || stands_in (x ∷ drop (i + 1) tokens) text) is
    ∙ ap (λ (ts : List PatchToken). has_name held text || stands_in ts text) (sym (drop_more tokens i t within)) ∙ so_far

pub held_skip : (tokens : List PatchToken) (i : ℕ) (t : PatchToken) (held more : List (List ℕ)) (text : List ℕ) → i < length tokens → t ≡ get_or tokens i t
    → is_name t ≡ false → more ≡ held → has_name held text || stands_in (drop i tokens) text ≡ stands_in tokens text
    → has_name more text || stands_in (drop (i + 1) tokens) text ≡ stands_in tokens text
held_skip tokens i t held more text within is name e so_far =
    ap (λ (ns : List (List ℕ)). has_name ns text || stands_in (drop (i + 1) tokens) text) e
    ∙ held_on held t (drop (i + 1) tokens) text name
    ∙ ap (λ (x : PatchToken). has_name held text || stands_in (x ∷ drop (i + 1) tokens) text) is
    ∙ ap (λ (ts : List PatchToken). has_name held text || stands_in ts text) (sym (drop_more tokens i t within)) ∙ so_far

-- ---- what is lost

abbrev Holds : List (List ℕ) → List PatchToken → Type 0
Holds names side = (text : List ℕ) → has_name names text ≡ stands_in side text

test_at : (vars : List VarDecl) (names : List (List ℕ)) (side : List PatchToken) (t : PatchToken) (b : Bool) → Holds names side
    → is_variable vars t && not (has_name names t.token.text) ≡ b → is_variable vars t && not (stands_in side t.token.text) ≡ b
test_at vars names side t b holds e = ap (λ (x : Bool). is_variable vars t && not x) (sym (holds t.token.text)) ∙ e

pub lost_more : (vars : List VarDecl) (names : List (List ℕ)) (side : List PatchToken) (t : PatchToken) (rest : List PatchToken)
    → ((text : List ℕ) → has_name names text ≡ stands_in side text) → is_variable vars t && not (has_name names t.token.text) ≡ false
    → lost_between vars side (t ∷ rest) ≡ lost_between vars side rest
lost_more vars names side t rest holds e =
    ap (λ (b : Bool). if b then Some t.at else lost_between vars side rest) (test_at vars names side t false holds e)

pub lost_here : (vars : List VarDecl) (names : List (List ℕ)) (side : List PatchToken) (t : PatchToken) (rest : List PatchToken)
    → ((text : List ℕ) → has_name names text ≡ stands_in side text) → is_variable vars t && not (has_name names t.token.text) ≡ true
    → lost_between vars side (t ∷ rest) ≡ Some t.at
lost_here vars names side t rest holds e =
    ap (λ (b : Bool). if b then Some t.at else lost_between vars side rest) (test_at vars names side t true holds e)
