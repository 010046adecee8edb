-- The classes after which a member of an argument list may begin are those of `(` and of a comma; and only names have
-- the classes of names.
use Rattle.std.proofs.Common.{◌≡◌, ℕ, List, [], ◌∷◌, refl, sym, ◌∙◌}
use Rattle.std.proofs.lemmas.Bool.{false≢true}
use Rattle.std.specs.Prelude.{Bool, true, false, ◌&&◌, ◌||◌, if◌then◌else◌, IsTrue, codes}
use Rattle.std.specs.Str.{bytes_eq}
use Rattle.c_terms.specs.declared.token.Token.{Token}
use Rattle.c_terms.specs.declared.token.TokenKind.{TokenKind}
use Rattle.c_terms.specs.declared.token.TokenKind.TheVariants as token
use Rattle.c_terms.specs.declared.token.MetaKind.TheVariants as meta
use Rattle.c_rows.specs.declared.class.Class.{Class}
use Rattle.c_rows.specs.declared.class.Class.TheVariants as class
use Rattle.c_rows.specs.declared.word.Word.TheVariants as word
use Rattle.c_rows.specs.Texts.{signs, class_in}
use Rattle.c_rows.specs.Tokens.{named_kind, is_named, is_punct_kind}
use Rattle.c_rows.specs.Words.{fits}
use Rattle.c_rows.specs.Look.{Names, look, at_sign, class_of, sign, sign_before}
use Rattle.c_rows.specs.Range.{leads_member}
use Rattle.c_rows.specs.Choice.{implies}
use Rattle.c_rows.proofs.FirstChecks.{modus, Passes}
use Rattle.c_rows.proofs.OriginLemmas.{kind_test, kind_tells, token_tells}

abbrev pub leads_class : Class → Bool
leads_class class.Comma = true
leads_class c = fits word.AnyOpen c

-- ---- where a member may begin

-- whether the text is one of those whose class in the list passes the test
abbrev spelled : (Class → Bool) → List (List ℕ × Class) → List ℕ → Bool
spelled p [] s = false
spelled p (w ∷ ws) s = p w.1 && bytes_eq s w.0 || spelled p ws s

class_in_spelled : (p : Class → Bool) → p class.Other ≡ false → (ws : List (List ℕ × Class)) (s : List ℕ)
    → IsTrue (p (class_in ws s)) → IsTrue (spelled p ws s)
class_in_spelled p o [] s h = absurd (false≢true (sym o ∙ h))
class_in_spelled p o (w ∷ ws) s h =
    pick (bytes_eq s w.0) w.1 (class_in ws s) (spelled p ws s) (class_in_spelled p o ws s) h
  where
    here : (a r : Bool) → IsTrue a → IsTrue (a && true || r)
    here true r h = refl
    here false r h = absurd (false≢true h)

    later : (a r : Bool) → IsTrue r → IsTrue (a && false || r)
    later true r h = h
    later false r h = h

    pick : (b : Bool) (x y : Class) (r : Bool) → (IsTrue (p y) → IsTrue r) → IsTrue (p (if b then x else y))
        → IsTrue (p x && b || r)
    pick true x y r f h = here (p x) r h
    pick false x y r f h = later (p x) r (f h)

question_leads : {A : Type 0} (b : Bool) → IsTrue (leads_class (if b then class.ShortQuestion else class.Question)) → A
question_leads true h = absurd (false≢true h)
question_leads false h = absurd (false≢true h)

before_leads : (names : Names) (ts : List Token) (c : Class) → IsTrue (leads_class (sign_before names ts c))
    → IsTrue (leads_class c)
before_leads names ts class.ParenNest h = refl
before_leads names ts class.Question h = question_leads (at_sign ts (codes ":")) h
before_leads names ts _ h = h

sign_leads : (names : Names) (s : List ℕ) (ts : List Token) → IsTrue (leads_class (sign names s ts))
    → IsTrue (bytes_eq s (codes "(") || bytes_eq s (codes ","))
sign_leads names s ts h =
    two (bytes_eq s (codes "(")) (bytes_eq s (codes ","))
    (class_in_spelled leads_class refl signs s (before_leads names ts (class_in signs s) h))
  where
    two : (a b : Bool) → IsTrue (a || (b || false)) → IsTrue (a || b)
    two true b h = refl
    two false true h = refl
    two false false h = h

abbrev leads_at : TokenKind → Class → Bool
leads_at k c = implies (leads_class c) (is_punct_kind k)

leads_test : (k : TokenKind) → Passes (kind_test leads_at k)
leads_test (token.Meta meta.Expr) = refl
leads_test (token.Meta _) = refl
leads_test _ = refl

kind_leads : (names : Names) (k : TokenKind) (s : List ℕ) (ts : List Token) (next : Class)
    → IsTrue (leads_class (class_of names k s ts next))
    → IsTrue (is_punct_kind k && bytes_eq s (codes "(") || is_punct_kind k && bytes_eq s (codes ","))
kind_leads names token.Punct s ts next h = sign_leads names s ts h
kind_leads names k s ts next h =
    absurd (false≢true (modus (leads_class (class_of names k s ts next)) (is_punct_kind k)
    (kind_tells leads_at leads_test names k s ts next) h))

pub token_leads : (names : Names) (t : Token) (ts : List Token) → IsTrue (leads_class (look names (t ∷ ts)))
    → IsTrue (leads_member t)
unfolding look
token_leads names t ts h = kind_leads names t.kind t.text ts (look names ts) h

-- ---- names

abbrev named_at : TokenKind → Class → Bool
named_at k c = implies (fits word.Name c) (named_kind k)

named_test : (k : TokenKind) → Passes (kind_test named_at k)
named_test (token.Meta meta.Expr) = refl
named_test (token.Meta _) = refl
named_test _ = refl

-- A token of the class of a name is a name.
pub token_named : (names : Names) (t : Token) (ts : List Token) → IsTrue (fits word.Name (look names (t ∷ ts)))
    → IsTrue (is_named t)
token_named names t ts h =
    modus (fits word.Name (look names (t ∷ ts))) (named_kind t.kind) (token_tells named_at named_test names t ts) h
