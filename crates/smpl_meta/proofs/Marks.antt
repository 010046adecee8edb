-- What the tokens of a header are.
use Rattle.std.proofs.Common.{◌≡◌, ℕ, ◌&&◌, ◌||◌, not, Bool, true, false, List, refl, ap, if◌then◌else◌, codes}
use Rattle.std.specs.Str.{bytes_eq}
use Rattle.std.proofs.lemmas.Slice.Eq.{bytes_eq-Decides}
use Rattle.c_terms.specs.declared.token.TokenKind.{TokenKind}
use Rattle.c_terms.specs.declared.token.TokenKind.TheVariants.{Name, Keyword, Number, Char, Str, Punct, Stray, Meta, Dots, Pat}
use Rattle.smpl_lexer.specs.declared.token.PatchToken.{PatchToken}
use Rattle.smpl_lexer.specs.Tokens.{is_name_kind, is_mark_kind, is_stray_kind, is_name, is_word, is_sign, is_at}
use Rattle.smpl_lexer.specs.Headers.{is_rule_name, is_mode}
use Rattle.smpl_meta.specs.declared.depends.Mark.{Mark}
use Rattle.smpl_meta.specs.declared.depends.Mark.TheVariants as mark
use Rattle.smpl_meta.specs.Heads.{mark_of}

pub and_both : (a b : Bool) → (a && b) ≡ true → (a ≡ true) × (b ≡ true)
and_both true true e = (refl, refl)
and_both true false e = absurd (cc)
and_both false b e = absurd (cc)

or_none : (a b : Bool) → (a || b) ≡ false → (a ≡ false) × (b ≡ false)
or_none false false e = (refl, refl)
or_none false true e = absurd (cc)
or_none true b e = absurd (cc)

not_true : (a : Bool) → not a ≡ true → a ≡ false
not_true false e = refl
not_true true e = absurd (cc)

punct_kind : (k : TokenKind) → is_mark_kind k ≡ true → k ≡ Punct
punct_kind Punct e = refl
punct_kind Name e = absurd (cc)
punct_kind Keyword e = absurd (cc)
punct_kind Number e = absurd (cc)
punct_kind Char e = absurd (cc)
punct_kind Str e = absurd (cc)
punct_kind Stray e = absurd (cc)
punct_kind (Meta m) e = absurd (cc)
punct_kind Dots e = absurd (cc)
punct_kind Pat e = absurd (cc)

name_kind : (k : TokenKind) → is_name_kind k ≡ true → k ≡ Name
name_kind Name e = refl
name_kind Punct e = absurd (cc)
name_kind Keyword e = absurd (cc)
name_kind Number e = absurd (cc)
name_kind Char e = absurd (cc)
name_kind Str e = absurd (cc)
name_kind Stray e = absurd (cc)
name_kind (Meta m) e = absurd (cc)
name_kind Dots e = absurd (cc)
name_kind Pat e = absurd (cc)

pub stray_kind : (k : TokenKind) → is_stray_kind k ≡ true → k ≡ Stray
stray_kind Stray e = refl
stray_kind Punct e = absurd (cc)
stray_kind Name e = absurd (cc)
stray_kind Keyword e = absurd (cc)
stray_kind Number e = absurd (cc)
stray_kind Char e = absurd (cc)
stray_kind Str e = absurd (cc)
stray_kind (Meta m) e = absurd (cc)
stray_kind Dots e = absurd (cc)
stray_kind Pat e = absurd (cc)

-- what a token is, and that a condition continues past it
pub record Goes (t : PatchToken) (m : Mark) : Type 0 where
  pub mark : mark_of t ≡ m
  pub goes : (is_mode t || is_at t) ≡ false

text_of : (text : List ℕ) (t : PatchToken) → bytes_eq t.token.text text ≡ true → t.token.text ≡ text
text_of text t e = (bytes_eq-Decides t.token.text text).0 e

pub sign : (text : List ℕ) (t : PatchToken) → is_sign text t ≡ true → (t.token.kind ≡ Punct) × (t.token.text ≡ text)
sign text t e = let b = and_both (is_mark_kind t.token.kind) (bytes_eq t.token.text text) e in
    (punct_kind t.token.kind b.0, text_of text t b.1)

pub word : (text : List ℕ) (t : PatchToken) → is_word text t ≡ true → (t.token.kind ≡ Name) × (t.token.text ≡ text)
word text t e = let b = and_both (is_name_kind t.token.kind) (bytes_eq t.token.text text) e in
    (name_kind t.token.kind b.0, text_of text t b.1)

pub is_not : (t : PatchToken) → is_sign (codes "!") t ≡ true → Goes t mark.Not
is_not t e = let s = sign (codes "!") t e in record { mark = rw (s.0, s.1) refl; goes = rw s.0 refl }

pub is_open : (t : PatchToken) → is_sign (codes "(") t ≡ true → Goes t mark.Open
is_open t e = let s = sign (codes "(") t e in record { mark = rw (s.0, s.1) refl; goes = rw s.0 refl }

pub is_close : (t : PatchToken) → is_sign (codes ")") t ≡ true → Goes t mark.Close
is_close t e = let s = sign (codes ")") t e in record { mark = rw (s.0, s.1) refl; goes = rw s.0 refl }

pub is_or : (t : PatchToken) → is_sign (codes "||") t ≡ true → Goes t mark.Or
is_or t e = let s = sign (codes "||") t e in record { mark = rw (s.0, s.1) refl; goes = rw s.0 refl }

pub is_and : (t : PatchToken) → is_sign (codes "&&") t ≡ true → Goes t mark.And
is_and t e = let s = sign (codes "&&") t e in record { mark = rw (s.0, s.1) refl; goes = rw s.0 refl }

pub is_ever : (t : PatchToken) → is_word (codes "ever") t ≡ true → Goes t mark.Ever
is_ever t e = let s = word (codes "ever") t e in record { mark = rw (s.0, s.1) refl; goes = rw (s.0, s.1) refl }

pub is_never : (t : PatchToken) → is_word (codes "never") t ≡ true → Goes t mark.Never
is_never t e = let s = word (codes "never") t e in record { mark = rw (s.0, s.1) refl; goes = rw (s.0, s.1) refl }

-- a rule's name isn't one of the header's words
pub record Plain (t : PatchToken) : Type 0 where
  pub kind : t.token.kind ≡ Name
  pub depends : is_word (codes "depends") t ≡ false
  pub on : is_word (codes "on") t ≡ false
  pub exists : is_word (codes "exists") t ≡ false
  pub forall : is_word (codes "forall") t ≡ false
  pub ever : is_word (codes "ever") t ≡ false
  pub never : is_word (codes "never") t ≡ false

pub plain : (t : PatchToken) → is_rule_name t ≡ true → Plain t
plain t e =
    let both = and_both (is_name t) _ e in
    let none = not_true _ both.1 in
    let a = or_none _ (is_word (codes "never") t) none in
    let b = or_none _ (is_word (codes "ever") t) a.0 in
    let c = or_none _ (is_word (codes "forall") t) b.0 in
    let d = or_none _ (is_word (codes "exists") t) c.0 in
    let f = or_none (is_word (codes "depends") t) (is_word (codes "on") t) d.0 in
    record { kind = name_kind t.token.kind both.0; depends = f.0; on = f.1; exists = d.1; forall = c.1; ever = b.1; never = a.1 }

mark_by : (a b c d e f g n : Bool) → a ≡ false → b ≡ false → c ≡ false → d ≡ false → e ≡ false → f ≡ false → g ≡ false
    → n ≡ true
    → (if a then mark.Not else (if b then mark.Open else
    (if c then mark.Close else (if d then mark.Or else
    (if e then mark.And else (if f then mark.Ever else (if g then mark.Never else (if n then mark.Name else mark.Other)))))))) ≡ mark.Name
mark_by a b c d e f g n ea eb ec ed ee ef eg en = rw (ea, eb, ec, ed, ee, ef, eg, en) refl

none_by : (a b c : Bool) → a ≡ false → b ≡ false → c ≡ false → ((a || b) || c) ≡ false
none_by a b c ea eb ec = rw (ea, eb, ec) refl

pub no_sign : (text : List ℕ) (t : PatchToken) → t.token.kind ≡ Name → is_sign text t ≡ false
no_sign text t e = ap (λ (k : TokenKind). is_mark_kind k && bytes_eq t.token.text text) e

pub no_at : (t : PatchToken) → t.token.kind ≡ Name → is_at t ≡ false
no_at t e = ap (λ (k : TokenKind). is_stray_kind k && bytes_eq t.token.text (codes "@")) e

-- a rule's name is a name in a condition
pub name_goes : (t : PatchToken) → Plain t → is_rule_name t ≡ true → Goes t mark.Name
name_goes t p e = record {
  mark = mark_by (is_sign (codes "!") t) (is_sign (codes "(") t) (is_sign (codes ")") t) (is_sign (codes "||") t)
      (is_sign (codes "&&") t) (is_word (codes "ever") t) (is_word (codes "never") t) (is_rule_name t)
      (no_sign (codes "!") t p.kind) (no_sign (codes "(") t p.kind) (no_sign (codes ")") t p.kind)
      (no_sign (codes "||") t p.kind) (no_sign (codes "&&") t p.kind) p.ever p.never e;
  goes = none_by (is_word (codes "exists") t) (is_word (codes "forall") t) (is_at t) p.exists p.forall (no_at t p.kind);
}

-- ---- what is not the word `on`

abbrev NotOn : PatchToken → Type 0
NotOn t = is_word (codes "on") t ≡ false

pub at_not_on : (t : PatchToken) → is_at t ≡ true → is_word (codes "on") t ≡ false
at_not_on t e = let k = stray_kind t.token.kind (and_both (is_stray_kind t.token.kind) (bytes_eq t.token.text (codes "@")) e).0 in
    ap (λ (k : TokenKind). is_name_kind k && bytes_eq t.token.text (codes "on")) k

pub word_not_on : (text : List ℕ) (t : PatchToken) → is_word text t ≡ true → bytes_eq text (codes "on") ≡ false
    → is_word (codes "on") t ≡ false
word_not_on text t e other = let w = word text t e in rw (w.0, w.1) other

-- ---- what ends a condition

mode_no_side : (t : PatchToken) (a b : Bool) → is_word (codes "exists") t ≡ a → is_word (codes "forall") t ≡ b
    → (a || b) ≡ true → (is_sign (codes "||") t ≡ false) × (is_sign (codes "&&") t ≡ false)
mode_no_side t true b is also e = let w = word (codes "exists") t is in (no_sign (codes "||") t w.0, no_sign (codes "&&") t w.0)
mode_no_side t false true is also e = let w = word (codes "forall") t also in (no_sign (codes "||") t w.0, no_sign (codes "&&") t w.0)
mode_no_side t false false is also e = absurd (cc)

at_no_side : (t : PatchToken) → is_at t ≡ true → (is_sign (codes "||") t ≡ false) × (is_sign (codes "&&") t ≡ false)
at_no_side t e =
    let k = stray_kind t.token.kind (and_both (is_stray_kind t.token.kind) (bytes_eq t.token.text (codes "@")) e).0 in (
      ap (λ (k : TokenKind). is_mark_kind k && bytes_eq t.token.text (codes "||")) k,
      ap (λ (k : TokenKind). is_mark_kind k && bytes_eq t.token.text (codes "&&")) k,
    )

side_by : (t : PatchToken) (a b : Bool) → is_mode t ≡ a → is_at t ≡ b → (a || b) ≡ true
    → (is_sign (codes "||") t ≡ false) × (is_sign (codes "&&") t ≡ false)
side_by t true b is also e = mode_no_side t (is_word (codes "exists") t) (is_word (codes "forall") t) refl refl is
side_by t false true is also e = at_no_side t also
side_by t false false is also e = absurd (cc)

-- `exists`, `forall` and `@` are neither `||` nor `&&`
pub no_side : (t : PatchToken) → (is_mode t || is_at t) ≡ true → (is_sign (codes "||") t ≡ false) × (is_sign (codes "&&") t ≡ false)
no_side t e = side_by t (is_mode t) (is_at t) refl refl e
