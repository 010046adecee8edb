-- Whether a side has all variables of another.
use Rattle.std.proofs.Common.{◌≡◌, ℕ, Bool, true, false, ◌&&◌, not, if◌then◌else◌, true≢false, List, [], ◌∷◌, Option, Some, None, is_some, refl, sym, ap, ◌∙◌}
use Rattle.std.specs.Str.{bytes_eq}
use Rattle.std.proofs.lemmas.Slice.Eq.{bytes_eq-Decides}
use Rattle.smpl_patch.specs.declared.pattern.VarDecl.{VarDecl}
use Rattle.smpl_lexer.specs.declared.token.PatchToken.{PatchToken}
use Rattle.smpl_lexer.specs.Tokens.{is_name}
use Rattle.smpl_meta.specs.Known.{var_named}
use Rattle.iso_file.specs.Lost.{stands_in, is_variable, lost_between}

-- each variable of the second side occurs in the first
pub record Keeps (vars : List VarDecl) (from to : List PatchToken) : Type 0 where
  pub has : (x : List ℕ) → is_some (var_named x vars) ≡ true → stands_in to x ≡ true → stands_in from x ≡ true

pub keeps_itself : (vars : List VarDecl) (side : List PatchToken) → Keeps vars side side
keeps_itself vars side = record { has = λ x d h. h }

pub keeps_through : (vars : List VarDecl) (a b c : List PatchToken) → Keeps vars a b → Keeps vars b c → Keeps vars a c
keeps_through vars a b c ab bc = record { has = λ x d h. ab.has x d (bc.has x d h) }

and_left : (a b : Bool) → a && b ≡ true → a ≡ true
and_left true b h = refl
and_left false b h = h

and_right : (a b : Bool) → a && b ≡ true → b ≡ true
and_right true b h = h
and_right false b h = absurd (true≢false (sym h))

and_both : (a b : Bool) → a ≡ true → b ≡ true → a && b ≡ true
and_both true b h k = k
and_both false b h k = h

pub none_not_some : {A : Type 0} (o : Option A) (a : A) → o ≡ None → o ≡ Some a → ⊥
none_not_some o a n s = true≢false (ap is_some (sym s ∙ n))

head_none : (v s : Bool) (at : ℕ) (o : Option ℕ) → (if v && not s then Some at else o) ≡ None → (v ≡ true → s ≡ true) × (o ≡ None)
head_none true true at o e = (λ h. refl, e)
head_none true false at o e = absurd (none_not_some (Some at) at e refl)
head_none false s at o e = (λ h. absurd (true≢false (sym h)), e)

pub none_keeps : (vars : List VarDecl) (from to : List PatchToken) → lost_between vars from to ≡ None → Keeps vars from to
none_keeps vars from [] e = record { has = λ x d h. absurd (true≢false (sym h)) }
none_keeps vars from (t ∷ ts) e =
    let here = head_none (is_variable vars t) (stands_in from t.token.text) t.at (lost_between vars from ts) e in
    let rest = none_keeps vars from ts here.1 in
    record { has = λ x d h. by x d here.0 (rest.has x d) (is_name t) (bytes_eq t.token.text x) refl refl h }
  where
    by : (x : List ℕ) → is_some (var_named x vars) ≡ true → (is_variable vars t ≡ true → stands_in from t.token.text ≡ true)
        → (stands_in ts x ≡ true → stands_in from x ≡ true) → (n q : Bool) → is_name t ≡ n → bytes_eq t.token.text x ≡ q
        → (if n && q then true else stands_in ts x) ≡ true → stands_in from x ≡ true
    by x d here rest true true n q h =
        let same : t.token.text ≡ x = (bytes_eq-Decides t.token.text x).0 q in
        let declared : is_some (var_named t.token.text vars) ≡ true = ap (λ y. is_some (var_named y vars)) same ∙ d in
        ap (stands_in from) (sym same) ∙ here (and_both (is_name t) (is_some (var_named t.token.text vars)) n declared)
    by x d here rest true false n q h = rest h
    by x d here rest false b n q h = rest h

stands_by : (n q r : Bool) → n ≡ true → q ≡ true → (if n && q then true else r) ≡ true
stands_by true true r h k = refl
stands_by true false r h k = absurd (true≢false (sym k))
stands_by false q r h k = absurd (true≢false (sym h))

stands_first : (t : PatchToken) (ts : List PatchToken) → is_name t ≡ true → stands_in (t ∷ ts) t.token.text ≡ true
stands_first t ts h = stands_by (is_name t) (bytes_eq t.token.text t.token.text) (stands_in ts t.token.text) h
    ((bytes_eq-Decides t.token.text t.token.text).1 refl)

stands_later_by : (b r : Bool) → r ≡ true → (if b then true else r) ≡ true
stands_later_by true r h = refl
stands_later_by false r h = h

stands_later : (t : PatchToken) (ts : List PatchToken) (x : List ℕ) → stands_in ts x ≡ true → stands_in (t ∷ ts) x ≡ true
stands_later t ts x h = stands_later_by (is_name t && bytes_eq t.token.text x) (stands_in ts x) h

none_by : (v s : Bool) (at : ℕ) (o : Option ℕ) → (v ≡ true → s ≡ true) → o ≡ None → (if v && not s then Some at else o) ≡ None
none_by true true at o h e = e
none_by true false at o h e = absurd (true≢false (sym (h refl)))
none_by false s at o h e = e

pub keeps_none : (vars : List VarDecl) (from to : List PatchToken) → Keeps vars from to → lost_between vars from to ≡ None
keeps_none vars from [] k = refl
keeps_none vars from (t ∷ ts) k =
    let rest : Keeps vars from ts = record { has = λ x d h. k.has x d (stands_later t ts x h) } in
    none_by (is_variable vars t) (stands_in from t.token.text) t.at (lost_between vars from ts)
    (λ v. k.has t.token.text (and_right (is_name t) (is_some (var_named t.token.text vars)) v)
    (stands_first t ts (and_left (is_name t) (is_some (var_named t.token.text vars)) v)))
    (keeps_none vars from ts rest)
