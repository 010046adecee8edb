-- A token that fits a word for a sign of patterns is a sign.
-- Proof: by the class of the token. A token of another kind can't have the class of a sign.
use Rattle.std.proofs.Common.{◌≡◌, refl, ap, ◌∙◌, subst, List, ◌∷◌}
use Rattle.std.proofs.lemmas.Bool.{false≢true}
use Rattle.std.specs.Prelude.{Bool, true, false, IsTrue}
use Rattle.c_terms.specs.declared.token.Token.{Token}
use Rattle.c_terms.specs.declared.token.TokenKind.{TokenKind}
use Rattle.c_terms.specs.declared.token.TokenKind.TheVariants as token
use Rattle.c_terms.specs.declared.token.MetaKind.TheVariants as meta
use Rattle.c_terms.specs.declared.tree.Tree.TheVariants.{Leaf}
use Rattle.c_terms.proofs.SameLemmas.{out-Leaf}
use Rattle.c_rows.specs.declared.class.Class.{Class}
use Rattle.c_rows.specs.declared.class.Class.TheVariants as class
use Rattle.c_rows.specs.declared.word.Word.{Word}
use Rattle.c_rows.specs.declared.word.Word.TheVariants as word
use Rattle.c_rows.specs.Words.{fits}
use Rattle.c_rows.specs.Look.{Names, look}
use Rattle.c_rows.specs.Choice.{implies}
use Rattle.c_rows.proofs.FirstChecks.{one_is, modus, Passes}
use Rattle.c_rows.proofs.OriginLemmas.{kind_test, token_tells}
use Rattle.sound_laws.specs.SmplLeaves.Shapes.{is_sign_kind, is_sign_in, is_sign}

-- the classes of signs of patterns
abbrev pub is_sign_class : Class → Bool
is_sign_class class.PatOpen = true
is_sign_class class.PatOpenOfStatements = true
is_sign_class class.PatBar = true
is_sign_class class.PatAmp = true
is_sign_class class.PatClose = true
is_sign_class class.PatNestOfExpression = true
is_sign_class class.PatNestOfStatements = true
is_sign_class class.PatNestClose = true
is_sign_class _ = false

-- the words for signs of patterns
abbrev pub is_sign_word : Word → Bool
is_sign_word (word.One c) = is_sign_class c
is_sign_word _ = false

sign_class : (w : Word) (c : Class) → IsTrue (is_sign_word w) → IsTrue (fits w c) → IsTrue (is_sign_class c)
sign_class (word.One c) d h f = subst (λ (e : Class). IsTrue (is_sign_class e)) (one_is c d f) h
sign_class _ d h f = absurd (false≢true h)

-- ---- tokens

abbrev signed_at : TokenKind → Class → Bool
signed_at k c = implies (is_sign_class c) (is_sign_kind k)

signed_test : (k : TokenKind) → Passes (kind_test signed_at k)
signed_test (token.Meta meta.Expr) = refl
signed_test (token.Meta _) = refl
signed_test _ = refl

token_signed : (names : Names) (t : Token) (ts : List Token) → IsTrue (is_sign_class (look names (t ∷ ts))) → is_sign_kind t.kind ≡ true
token_signed names t ts h = modus (is_sign_class (look names (t ∷ ts))) (is_sign_kind t.kind) (token_tells signed_at signed_test names t ts) h

pub word_signed : (names : Names) (w : Word) (t : Token) (ts : List Token) → IsTrue (is_sign_word w)
    → IsTrue (fits w (look names (t ∷ ts))) → is_sign (Leaf t) ≡ true
word_signed names w t ts h f = ap is_sign_in (out-Leaf t) ∙ token_signed names t ts (sign_class w (look names (t ∷ ts)) h f)
