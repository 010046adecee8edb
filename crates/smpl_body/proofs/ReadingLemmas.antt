-- Tokens that are read as a tree of one form, and of the first of several.
use Rattle.std.proofs.Common.{◌≡◌, ◌≤◌, ◌<◌, ◌+◌, ◌-◌, ℕ, zero, suc, false, true, Bool, refl, sym, ap, ◌∙◌, arith, subst, List}
use Rattle.std.proofs.Common.{[], ◌∷◌, slice_range, length, take, drop, get_or, drop-cons, Result, Ok, Err, Option, Some, None}
use Rattle.std.proofs.Common.{inl, inr}
use Rattle.std.specs.Prelude.{MatchOption}
use Rattle.std.proofs.Math.Nat.{lt_of_not-le}
use Rattle.std.proofs.Math.Seq.{take-length}
use Rattle.std.proofs.lemmas.Bool.{false≢true}
use Rattle.c_terms.specs.declared.token.Token.{Token}
use Rattle.c_terms.specs.declared.tree.Tree.{Tree}
use Rattle.c_terms.specs.Names.{listed_names}
use Rattle.c_rows.specs.declared.kind.Kind.{Kind}
use Rattle.c_rows.specs.Look.{Names}
use Rattle.c_rows.specs.Depth.{opens_of}
use Rattle.c_rows.specs.Trees.{stands_alone}
use Rattle.c_expr.specs.declared.fault.ParseFault.{ParseFault}
use Rattle.c_expr.specs.declared.fault.ParseFault.TheVariants.{NoTree as NoTreeFault, TooDeep, NoMemory}
use Rattle.c_expr.specs.Answer.{Reads}
use Rattle.smpl_body.specs.declared.reading.Form.{Form}
use Rattle.smpl_body.specs.declared.reading.Form.TheVariants as form
use Rattle.smpl_body.specs.Spelled.{kind_of, IsOfForm, IsTree, NoTree, IsFirst}

all-left : (n : ℕ) → n - 0 ≡ n
all-left n = omega arith

-- all tokens are a range of them
whole-range : (tokens : List Token) → slice_range tokens 0 (length tokens) ≡ tokens
whole-range tokens = ap (λ n. take n tokens) (all-left (length tokens)) ∙ take-length tokens

pub reads-whole : (k : Kind) (names : Names) (tokens : List Token) (r : Result Tree ParseFault)
    → Reads k names (slice_range tokens 0 (length tokens)) r → Reads k names tokens r
reads-whole k names tokens r h = subst (λ (ts : List Token). Reads k names ts r) (whole-range tokens) h

-- the range that is read, by the form and the listed names
pub reads-form : (form : Form) (k : Kind) (names : Names) (tokens : List Token) (r : Result Tree ParseFault) → k ≡ kind_of form → names ≡ listed_names
    → Reads k names (slice_range tokens 0 (length tokens)) r → Reads (kind_of form) listed_names tokens r
reads-form form k names tokens r e n h =
    subst (λ (m : Kind). Reads m listed_names tokens r) e
    (subst (λ (ns : Names). Reads k ns tokens r) n (reads-whole k names tokens r h))

at-most : (n : ℕ) → (200 < n → ⊥) → n ≤ 200
at-most n refuted = let r : n < 201 = lt_of_not-le (λ (h : 201 ≤ n). refuted (omega (arith, h))) in omega (arith, r)

abbrev is_deep : Result Tree ParseFault → Bool
is_deep (Ok t) = false
is_deep (Err NoTreeFault) = false
is_deep (Err TooDeep) = true
is_deep (Err NoMemory) = false

-- a tree is read, and it is of the form or it isn't
pub form-found : (form : Form) (tokens : List Token) (t : Tree) (o : Option Tree) → Reads (kind_of form) listed_names tokens (Ok t)
    → MatchOption o (IsOfForm form t → ⊥) (λ u. (u ≡ t) × IsOfForm form t) → MatchOption o (NoTree form tokens) (λ u. IsTree form tokens u)
form-found form tokens t None h refuted = λ u is. refuted (subst (IsOfForm form) (sym (h.only u is.spells is.shallow)) is.is_form)
form-found form tokens t (Some u) h kept =
    subst (IsTree form tokens) (sym kept.0)
    (record { shallow = at-most (opens_of tokens) (λ big. false≢true (ap is_deep (h.too_deep.1 big))); spells = h.found; is_form = kept.1 })

pub form-none : (form : Form) (tokens : List Token) (r : Result Tree ParseFault) → Reads (kind_of form) listed_names tokens r
    → r ≡ Err NoTreeFault → NoTree form tokens
form-none form tokens r h e = λ u is. h.no_tree e u is.spells

pub form-deep : (form : Form) (tokens : List Token) (r : Result Tree ParseFault) → Reads (kind_of form) listed_names tokens r
    → r ≡ Err TooDeep → NoTree form tokens
form-deep form tokens r h e = λ u is. let big = h.too_deep.0 e in absurd (omega (arith, big, is.shallow))

-- ---- the first of several forms

abbrev Into : List Form → List Form → List Token → Type 0
Into some all tokens = (t : Tree) → IsFirst some tokens t → IsFirst all tokens t

one-more : (forms : List Form) (i : ℕ) (f : Form) → i < length forms → f ≡ get_or forms i f → drop i forms ≡ f ∷ drop (i + 1) forms
one-more forms i f lt at =
    let one : i + 1 ≡ suc i = omega arith in
    rw one (drop-cons forms i f lt ∙ ap (λ x. x ∷ drop (suc i) forms) (sym at))

pub first-here : (forms : List Form) (i : ℕ) (f : Form) (tokens : List Token) (t : Tree) → i < length forms → f ≡ get_or forms i f
    → Into (drop i forms) forms tokens → IsTree f tokens t → IsFirst forms tokens t
first-here forms i f tokens t lt at into is =
    into t (subst (λ (fs : List Form). IsFirst fs tokens t) (sym (one-more forms i f lt at)) (inl is))

pub first-into : (forms : List Form) (i : ℕ) (f : Form) (tokens : List Token) → i < length forms → f ≡ get_or forms i f → NoTree f tokens
    → Into (drop i forms) forms tokens → Into (drop (i + 1) forms) forms tokens
first-into forms i f tokens lt at refuted into = λ t is.
    into t (subst (λ (fs : List Form). IsFirst fs tokens t) (sym (one-more forms i f lt at)) (inr (refuted, is)))

later : (f : Form) (fs : List Form) (tokens : List Token) (t : Tree) → NoTree f tokens → IsFirst (f ∷ fs) tokens t → IsFirst fs tokens t
later f fs tokens t refuted is = elim is [ inl here ↦ absurd (refuted t here) | inr there ↦ there.1 ]

pub first-from : (forms : List Form) (i : ℕ) (f : Form) (tokens : List Token) → i < length forms → f ≡ get_or forms i f → NoTree f tokens
    → Into forms (drop i forms) tokens → Into forms (drop (i + 1) forms) tokens
first-from forms i f tokens lt at refuted from = λ t is.
    later f (drop (i + 1) forms) tokens t refuted (subst (λ (fs : List Form). IsFirst fs tokens t) (one-more forms i f lt at) (from t is))

drop-all : (n : ℕ) (xs : List Form) → length xs ≤ n → drop n xs ≡ []
drop-all zero [] h = refl
drop-all zero (x ∷ xs) h = absurd (omega (arith, h))
drop-all (suc n) [] h = refl
drop-all (suc n) (x ∷ xs) h = drop-all n xs (omega (arith, h))

pub first-end : (forms : List Form) (i : ℕ) (tokens : List Token) → length forms ≤ i → Into forms (drop i forms) tokens
    → (t : Tree) → IsFirst forms tokens t → ⊥
first-end forms i tokens h from = λ t is. subst (λ (fs : List Form). IsFirst fs tokens t) (drop-all i forms h) (from t is)

-- trees of each form are read by themselves
pub kind-alone : (f : Form) → stands_alone (kind_of f) ≡ true
kind-alone form.Expression = refl
kind-alone form.Statements = refl
kind-alone form.Function = refl
