-- The table of the lines before the first rule is their grammar.
use Rattle.std.proofs.Common.{◌≡◌, ℕ, ◌&&◌, Bool, true, false, List, [], ◌∷◌, Some, None, refl, sym, ◌∙◌, subst, codes, if◌then◌else◌}
use Rattle.std.specs.Str.{bytes_eq}
use Rattle.std.proofs.lemmas.Slice.Eq.{bytes_eq-Decides}
use Rattle.c_terms.specs.declared.token.TokenKind.TheVariants as token
use Rattle.smpl_lexer.specs.declared.token.PatchToken.{PatchToken}
use Rattle.smpl_lexer.specs.declared.places.VirtualPlace.{VirtualPlace}
use Rattle.smpl_lexer.specs.declared.places.VirtualPlace.TheVariants as v
use Rattle.smpl_lexer.specs.Tokens.{made, is_name, is_mark_kind, is_word, is_sign}
use Rattle.smpl_lexer.specs.Headers.{virtual_step, virtual_ends, virtual_stop}
use Rattle.smpl_lexer.specs.Virtuals.{Names, IsVirtual, CanStand, StopsAt}
use Rattle.smpl_lexer.specs.Virtuals.Names.{last, closed, more}
use Rattle.smpl_lexer.specs.Virtuals.IsVirtual.{blank, names}
use Rattle.smpl_lexer.proofs.Derived.{Derived, whole, goes, told, stops}

-- what may come after a name
data Behind : List PatchToken → Type 0 where
  nothing : Behind []
  semicolon : (s : PatchToken) → is_sign (codes ";") s ≡ true → Behind (s ∷ [])
  comma : {ts : List PatchToken} (c : PatchToken) → is_sign (codes ",") c ≡ true → Names ts → Behind (c ∷ ts)

abbrev May : VirtualPlace → List PatchToken → Type 0
May v.Start ts = IsVirtual ts
May v.Open ts = Names ts
May v.Named ts = Behind ts
May v.Closed ts = ts ≡ []

names_of : (n : PatchToken) (ts : List PatchToken) → is_name n ≡ true → Behind ts → Names (n ∷ ts)
names_of n _ is nothing = last n is
names_of n _ is (semicolon s e) = closed n s is e
names_of n _ is (comma c e rest) = more n c is e rest

record Named (n : PatchToken) (ts : List PatchToken) : Type 0 where
  name : is_name n ≡ true
  behind : Behind ts

named_of : (n : PatchToken) (ts : List PatchToken) → Names (n ∷ ts) → Named n ts
named_of n _ (last m is) = record { name = is; behind = nothing }
named_of n _ (closed m s is e) = record { name = is; behind = semicolon s e }
named_of n _ (more m c is e rest) = record { name = is; behind = comma c e rest }

-- a comma is not a semicolon
and_right : (a b : Bool) → (a && b) ≡ true → b ≡ true
and_right true b e = e
and_right false b e = absurd (cc)

text_is : (text : List ℕ) (t : PatchToken) → is_sign text t ≡ true → t.token.text ≡ text
text_is text t e = (bytes_eq-Decides t.token.text text).0 (and_right (is_mark_kind t.token.kind) (bytes_eq t.token.text text) e)

not_both : (t : PatchToken) → is_sign (codes ",") t ≡ true → is_sign (codes ";") t ≡ true → ⊥
not_both t comma_is semicolon_is =
    let same : codes "," ≡ codes ";" = sym (text_is (codes ",") t comma_is) ∙ text_is (codes ";") t semicolon_is in
    absurd (cc)

-- ---- the four places

start_into : (t : PatchToken) (ts : List PatchToken) (q : VirtualPlace) (b : Bool) → is_word (codes "virtual") t ≡ b
    → (if b then Some v.Open else None) ≡ Some q → May q ts → IsVirtual (t ∷ ts)
start_into t ts q true is e may =
    let same : q ≡ v.Open = cc in
    names t is (subst (λ (p : VirtualPlace). May p ts) same may)
start_into t ts q false is e may = absurd (cc)

start_out : (t : PatchToken) (ts : List PatchToken) (q : VirtualPlace) (b : Bool)
    → (if b then Some v.Open else None) ≡ Some q → IsVirtual (t ∷ ts) → May q ts
start_out t ts q true e (names w is rest) =
    let same : v.Open ≡ q = cc in
    subst (λ (p : VirtualPlace). May p ts) same rest
start_out t ts q false e may = absurd (cc)

open_into : (t : PatchToken) (ts : List PatchToken) (q : VirtualPlace) (b : Bool) → is_name t ≡ b
    → (if b then Some v.Named else None) ≡ Some q → May q ts → Names (t ∷ ts)
open_into t ts q true is e may =
    let same : q ≡ v.Named = cc in
    names_of t ts is (subst (λ (p : VirtualPlace). May p ts) same may)
open_into t ts q false is e may = absurd (cc)

open_out : (t : PatchToken) (ts : List PatchToken) (q : VirtualPlace) (b : Bool)
    → (if b then Some v.Named else None) ≡ Some q → Names (t ∷ ts) → May q ts
open_out t ts q true e may =
    let same : v.Named ≡ q = cc in
    subst (λ (p : VirtualPlace). May p ts) same (named_of t ts may).behind
open_out t ts q false e may = absurd (cc)

semicolon_only : (s : PatchToken) (ts : List PatchToken) → is_sign (codes ";") s ≡ true → ts ≡ [] → Behind (s ∷ ts)
semicolon_only s ts is none = subst (λ (l : List PatchToken). Behind (s ∷ l)) (sym none) (semicolon s is)

named_into : (t : PatchToken) (ts : List PatchToken) (q : VirtualPlace) (a b : Bool) → is_sign (codes ",") t ≡ a → is_sign (codes ";") t ≡ b
    → (if a then Some v.Open else (if b then Some v.Closed else None)) ≡ Some q → May q ts → Behind (t ∷ ts)
named_into t ts q true b is also e may =
    let same : q ≡ v.Open = cc in
    comma t is (subst (λ (p : VirtualPlace). May p ts) same may)
named_into t ts q false true is also e may =
    let same : q ≡ v.Closed = cc in
    semicolon_only t ts also (subst (λ (p : VirtualPlace). May p ts) same may)
named_into t ts q false false is also e may = absurd (cc)

named_out : (t : PatchToken) (ts : List PatchToken) (q : VirtualPlace) (a b : Bool) → is_sign (codes ",") t ≡ a → is_sign (codes ";") t ≡ b
    → (if a then Some v.Open else (if b then Some v.Closed else None)) ≡ Some q → Behind (t ∷ ts) → May q ts
named_out t _ q true b is also e (semicolon s semicolon_is) = absurd (not_both t is semicolon_is)
named_out t ts q true b is also e (comma c comma_is rest) =
    let same : v.Open ≡ q = cc in
    subst (λ (p : VirtualPlace). May p ts) same rest
named_out t ts q false true is also e (comma c comma_is rest) = absurd (not_both t comma_is also)
named_out t _ q false true is also e (semicolon s semicolon_is) =
    let same : v.Closed ≡ q = cc in
    subst (λ (p : VirtualPlace). May p []) same refl
named_out t ts q false false is also e may = absurd (cc)

into : (p q : VirtualPlace) (t : PatchToken) (ts : List PatchToken) → virtual_step p t ≡ Some q → May q ts → May p (t ∷ ts)
into v.Start q t ts e may = start_into t ts q (is_word (codes "virtual") t) refl e may
into v.Open q t ts e may = open_into t ts q (is_name t) refl e may
into v.Named q t ts e may = named_into t ts q (is_sign (codes ",") t) (is_sign (codes ";") t) refl refl e may
into v.Closed q t ts e may = absurd (cc)

out : (p q : VirtualPlace) (t : PatchToken) (ts : List PatchToken) → virtual_step p t ≡ Some q → May p (t ∷ ts) → May q ts
out v.Start q t ts e may = start_out t ts q (is_word (codes "virtual") t) e may
out v.Open q t ts e may = open_out t ts q (is_name t) e may
out v.Named q t ts e may = named_out t ts q (is_sign (codes ",") t) (is_sign (codes ";") t) refl refl e may
out v.Closed q t ts e may = absurd (cc)

start_none : (t : PatchToken) (ts : List PatchToken) → (if is_word (codes "virtual") t then Some v.Open else None) ≡ None → IsVirtual (t ∷ ts) → ⊥
start_none t ts e (names w is rest) =
    let some : Some v.Open ≡ None = subst (λ (b : Bool). (if b then Some v.Open else None) ≡ None) is e in
    absurd (cc)

open_none : (t : PatchToken) (ts : List PatchToken) → (if is_name t then Some v.Named else None) ≡ None → Names (t ∷ ts) → ⊥
open_none t ts e may =
    let some : Some v.Named ≡ None = subst (λ (b : Bool). (if b then Some v.Named else None) ≡ None) (named_of t ts may).name e in
    absurd (cc)

named_none : (t : PatchToken) (ts : List PatchToken) (a b : Bool) → is_sign (codes ",") t ≡ a → is_sign (codes ";") t ≡ b
    → (if a then Some v.Open else (if b then Some v.Closed else None)) ≡ None → Behind (t ∷ ts) → ⊥
named_none t ts true b is also e may = absurd (cc)
named_none t ts false true is also e may = absurd (cc)
named_none t ts false false is also e (comma c comma_is rest) = absurd (cc)
named_none t _ false false is also e (semicolon s semicolon_is) = absurd (cc)

none : (p : VirtualPlace) (t : PatchToken) (ts : List PatchToken) → virtual_step p t ≡ None → May p (t ∷ ts) → ⊥
none v.Start t ts e may = start_none t ts e may
none v.Open t ts e may = open_none t ts e may
none v.Named t ts e may = named_none t ts (is_sign (codes ",") t) (is_sign (codes ";") t) refl refl e may
none v.Closed t ts e may = absurd (cc)

ended : (p : VirtualPlace) → virtual_ends p ≡ true → May p []
ended v.Start e = blank
ended v.Open e = absurd (cc)
ended v.Named e = nothing
ended v.Closed e = refl

no_names : (ts : List PatchToken) → Names ts → ts ≡ [] → ⊥
no_names _ (last n is) e = absurd (cc)
no_names _ (closed n s is also) e = absurd (cc)
no_names _ (more n c is also rest) e = absurd (cc)

unended : (p : VirtualPlace) → virtual_ends p ≡ false → May p [] → ⊥
unended v.Start e may = absurd (cc)
unended v.Open e may = no_names [] may refl
unended v.Named e may = absurd (cc)
unended v.Closed e may = absurd (cc)

live : (p : VirtualPlace) → CanStand (May p) []
live v.Start = ([], blank)
live v.Open = (made token.Name (codes "v") 0 ∷ [], last (made token.Name (codes "v") 0) refl)
live v.Named = ([], nothing)
live v.Closed = ([], refl)

derived : Derived virtual_step virtual_ends May
derived = record { into = into; out = out; none = none; ended = ended; unended = unended; live = live }

pub line_is_told : (ts : List PatchToken) (end : ℕ) → (virtual_stop ts end ≡ None → IsVirtual ts) × (IsVirtual ts → virtual_stop ts end ≡ None)
line_is_told ts end = (whole virtual_step virtual_ends May derived end ts v.Start, goes virtual_step virtual_ends May derived end ts v.Start)

pub stop_is_told : (ts : List PatchToken) (end at : ℕ)
    → (virtual_stop ts end ≡ Some at → StopsAt IsVirtual ts end at) × (StopsAt IsVirtual ts end at → virtual_stop ts end ≡ Some at)
stop_is_told ts end at = (told virtual_step virtual_ends May derived end ts v.Start at, stops virtual_step virtual_ends May derived end ts v.Start at)
