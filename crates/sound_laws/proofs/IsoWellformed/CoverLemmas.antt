-- A side covers another if none of the other's variables is lost.
use Rattle.std.proofs.Common.{◌≡◌, ℕ, ◌≤◌, Bool, true, false, true≢false, not, ◌&&◌, ◌||◌, if◌then◌else◌, refl, sym}
use Rattle.std.proofs.Common.{ap, ap₂, ◌∙◌, arith, eq-eqb, is_some, Option, None, Some, List, [], ◌∷◌, map}
use Rattle.std.specs.List.{list_all}
use Rattle.std.specs.Str.{bytes_eq}
use Rattle.std.proofs.lemmas.Slice.Eq.{bytes_eq-Decides}
use Rattle.c_terms.specs.declared.token.Token.{Token}
use Rattle.c_terms.specs.declared.token.MetaKind.{MetaKind}
use Rattle.c_terms.specs.declared.tree.Tree.{Tree}
use Rattle.c_terms.specs.Same.{same_bytes}
use Rattle.c_terms.specs.Trees.{leaves}
use Rattle.smpl_patch.specs.declared.pattern.VarDecl.{VarDecl}
use Rattle.smpl_lexer.specs.declared.token.PatchToken.{PatchToken}
use Rattle.smpl_lexer.specs.Tokens.{is_name}
use Rattle.smpl_meta.specs.Known.{var_named}
use Rattle.smpl_meta.specs.Patterns.{meta_of, declared_meta, kind_by, made}
use Rattle.iso_file.specs.Lost.{stands_in, lost_between}
use Rattle.iso_file.specs.Lost as lost
use Rattle.sound_laws.specs.IsoLaws.Fine.{is_variable, holds, covers}
use Rattle.sound_laws.proofs.IsoWellformed.WeightLemmas.{weigh, first-plain}

same-itself : (xs : List ℕ) → same_bytes xs xs ≡ true
same-itself [] = refl
same-itself (x ∷ xs) = ap₂ (λ (a b : Bool). a && b) (eq-eqb x x refl) (same-itself xs)

both_true : (a b : Bool) → a ≡ true → b ≡ true → (a && b) ≡ true
both_true true b h k = k
both_true false b h k = h

or_left : (a b : Bool) → a ≡ true → (a || b) ≡ true
or_left true b h = refl
or_left false b h = absurd (true≢false (sym h))

or_right : (a b : Bool) → b ≡ true → (a || b) ≡ true
or_right true b h = refl
or_right false b h = h

-- a token that is a metavariable is a name that is declared
record IsDeclared (name : Bool) (found : Option VarDecl) (m : MetaKind) : Type 0 where
  variable : (name && is_some found) ≡ true
  meta : meta_of found ≡ Some m

is-declared : (name : Bool) (found : Option VarDecl) (m : MetaKind) → (if name then meta_of found else None) ≡ Some m → IsDeclared name found m
is-declared true (Some d) m e = record { variable = refl; meta = e }
is-declared true None m e = absurd cc
is-declared false o m e = absurd cc

module _ (vars : List VarDecl) where
  -- a declared name that stands in a side is a metavariable of its tree
  held : (x : List ℕ) (m : MetaKind) → meta_of (var_named x vars) ≡ Some m → (us : List PatchToken) → stands_in us x ≡ true
      → holds (map (made vars 0) us) x ≡ true
  held x m e [] h = h
  held x m e (u ∷ us) h = by (held x m e us) (is_name u) (bytes_eq u.token.text x) refl refl h
    where
      by : (stands_in us x ≡ true → holds (map (made vars 0) us) x ≡ true) → (n q : Bool) → is_name u ≡ n → bytes_eq u.token.text x ≡ q
          → (if n && q then true else stands_in us x) ≡ true → holds (map (made vars 0) (u ∷ us)) x ≡ true
      by rest true true n q s =
          let same : u.token.text ≡ x = (bytes_eq-Decides u.token.text x).0 q in
          let known : declared_meta vars u ≡ Some m =
          ap (λ (b : Bool). if b then meta_of (var_named u.token.text vars) else None) n
          ∙ ap (λ (y : List ℕ). meta_of (var_named y vars)) same ∙ e in
          or_left (is_variable (made vars 0 u).kind && same_bytes u.token.text x) (holds (map (made vars 0) us) x)
          (both_true (is_variable (made vars 0 u).kind) (same_bytes u.token.text x)
          (ap (λ (o : Option MetaKind). is_variable (kind_by o u.token.kind)) known)
          (ap (λ (y : List ℕ). same_bytes y x) same ∙ same-itself x))
      by rest true false n q s =
          or_right (is_variable (made vars 0 u).kind && same_bytes u.token.text x) (holds (map (made vars 0) us) x) (rest s)
      by rest false b n q s =
          or_right (is_variable (made vars 0 u).kind && same_bytes u.token.text x) (holds (map (made vars 0) us) x) (rest s)

  module _ (from : List PatchToken) where
    abbrev passes : Token → Bool
    passes a = not (is_variable a.kind) || holds (map (made vars 0) from) a.text

    one-passes : (t : PatchToken) → is_variable t.token.kind ≡ false → (lost.is_variable vars t ≡ true → stands_in from t.token.text ≡ true)
        → passes (made vars 0 t) ≡ true
    one-passes t plain kept = by (declared_meta vars t) refl
      where
        by : (o : Option MetaKind) → declared_meta vars t ≡ o → passes (made vars 0 t) ≡ true
        by None e =
            or_left (not (is_variable (made vars 0 t).kind)) (holds (map (made vars 0) from) t.token.text)
            (ap (λ (o : Option MetaKind). not (is_variable (kind_by o t.token.kind))) e ∙ ap not plain)
        by (Some m) e =
            let is = is-declared (is_name t) (var_named t.token.text vars) m e in
            or_right (not (is_variable (made vars 0 t).kind)) (holds (map (made vars 0) from) t.token.text)
            (held t.token.text m is.meta from (kept is.variable))

    none-lost : (v s : Bool) (at : ℕ) (o : Option ℕ) → (if v && not s then Some at else o) ≡ None → (v ≡ true → s ≡ true) × (o ≡ None)
    none-lost true true at o e = (λ h. refl, e)
    none-lost true false at o e = absurd cc
    none-lost false s at o e = (λ h. absurd (true≢false (sym h)), e)

    all-pass : (ts : List PatchToken) → weigh ts ≤ 1048576 → lost_between vars from ts ≡ None → list_all passes (map (made vars 0) ts) ≡ true
    all-pass [] w e = refl
    all-pass (t ∷ ts) w e =
        let here = none-lost (lost.is_variable vars t) (stands_in from t.token.text) t.at (lost_between vars from ts) e in
        both_true (passes (made vars 0 t)) (list_all passes (map (made vars 0) ts)) (one-passes t (first-plain t ts w) here.0)
        (all-pass ts (omega (arith, w)) here.1)

  pub side-covers : (from to : List PatchToken) (s t : Tree) → leaves s ≡ map (made vars 0) from → leaves t ≡ map (made vars 0) to
      → weigh to ≤ 1048576 → lost_between vars from to ≡ None → covers s t ≡ true
  side-covers from to s t a b w e =
      ap₂ (λ (xs ys : List Token). list_all (λ c. not (is_variable c.kind) || holds xs c.text) ys) a b ∙ all-pass from to w e
