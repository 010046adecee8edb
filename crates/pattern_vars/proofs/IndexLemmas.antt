-- Numbers of declarations by the names of their variables.
use Rattle.std.proofs.Common.{◌≡◌, ℕ, ◌+◌, ◌<◌, Bool, true, false, true≢false, ◌&&◌, not, cond, nat_eq, List, [], ◌∷◌, map}
use Rattle.std.proofs.Common.{length, get_or, drop, refl, sym, ap, ◌∙◌, Option, Some, slice_get}
use Rattle.std.specs.Map.{lookup}
use Rattle.std.specs.Cmp.Lexicographic.{pointwise}
use Rattle.std.proofs.lemmas.List.{drop_more}
use Rattle.std.proofs.lemmas.Option.{slice_get-get_or}
use Rattle.indexmap.specs.IndexMap.{insert_entry}
use Rattle.c_terms.specs.Same.{same_bytes}
use Rattle.c_terms.proofs.SameLaws.{bytes-refl, bytes-sym}
use Rattle.c_terms.proofs.BareLaws.{same_bytes-equal}
use Rattle.c_terms.proofs.NamesLemmas.{pointwise-same}
use Rattle.smpl_patch.specs.declared.pattern.VarDecl.{VarDecl}
use Rattle.smpl_patch.specs.Patterns.{is_position_kind, declared_as}
use Rattle.pattern_vars.specs.Index.{number_in, at, Finds}

module _ {K : Type 0} (f : K → List ℕ) where
  abbrev pub pairs : List (K × ℕ) → List (List ℕ × ℕ)
  pairs = map (λ e. (f e.0, e.1))

  -- what a map finds by a name
  pub found : (name : List ℕ) (entries : List (K × ℕ)) → lookup (λ k. pointwise nat_eq name (f k)) entries ≡ number_in (pairs entries) name
  found name [] = refl
  found name (e ∷ es) =
      ap (λ (b : Bool). cond b (Some e.1) (lookup (λ k. pointwise nat_eq name (f k)) es)) (pointwise-same name (f e.0) ∙ bytes-sym name (f e.0))
      ∙ ap (λ o. cond (same_bytes (f e.0) name) (Some e.1) o) (found name es)

  -- an inserted name has this number, and others keep theirs
  pub inserted : (k : K) (n : ℕ) (other : List ℕ) (entries : List (K × ℕ))
      → number_in (pairs (insert_entry (λ a b. pointwise nat_eq (f a) (f b)) entries k n)) other
      ≡ cond (same_bytes (f k) other) (Some n) (number_in (pairs entries) other)
  inserted k n other [] = refl
  inserted k n other (e ∷ es) = by (pointwise nat_eq (f k) (f e.0)) (sym (pointwise-same (f k) (f e.0))) (inserted k n other es)
    where
      same : f k ≡ f e.0 → cond (same_bytes (f e.0) other) (Some n) (number_in (pairs es) other)
          ≡ cond (same_bytes (f k) other) (Some n) (number_in (pairs (e ∷ es)) other)
      same q = one (same_bytes (f e.0) other) (ap (λ z. same_bytes z other) q)
        where
          one : (b : Bool) → same_bytes (f k) other ≡ b → cond b (Some n) (number_in (pairs es) other)
              ≡ cond (same_bytes (f k) other) (Some n) (cond b (Some e.1) (number_in (pairs es) other))
          one true h = ap (λ (c : Bool). cond c (Some n) (Some e.1)) (sym h)
          one false h = ap (λ (c : Bool). cond c (Some n) (number_in (pairs es) other)) (sym h)

      apart : same_bytes (f k) (f e.0) ≡ false → (here there : Bool) → same_bytes (f e.0) other ≡ here → same_bytes (f k) other ≡ there
          → cond here (Some e.1) (cond there (Some n) (number_in (pairs es) other)) ≡ cond there (Some n) (cond here (Some e.1) (number_in (pairs es) other))
      apart q true true h t =
          let s : f k ≡ f e.0 = same_bytes-equal (f k) other t ∙ sym (same_bytes-equal (f e.0) other h) in
          absurd (true≢false (sym (ap (λ z. same_bytes z (f e.0)) s ∙ bytes-refl (f e.0)) ∙ q))
      apart q true false h t = refl
      apart q false true h t = refl
      apart q false false h t = refl

      by : (b : Bool) → same_bytes (f k) (f e.0) ≡ b
          → number_in (pairs (insert_entry (λ a b. pointwise nat_eq (f a) (f b)) es k n)) other
          ≡ cond (same_bytes (f k) other) (Some n) (number_in (pairs es) other)
          → number_in (pairs (cond b ((e.0, n) ∷ es) (e ∷ insert_entry (λ a b. pointwise nat_eq (f a) (f b)) es k n))) other
          ≡ cond (same_bytes (f k) other) (Some n) (number_in (pairs (e ∷ es)) other)
      by true q h = same (same_bytes-equal (f k) (f e.0) q)
      by false q h =
          ap (λ o. cond (same_bytes (f e.0) other) (Some e.1) o) h
          ∙ apart q (same_bytes (f e.0) other) (same_bytes (f k) other) refl refl

at-cond : (decls : List VarDecl) (b : Bool) (i : ℕ) (o : Option ℕ) (d : VarDecl) → slice_get decls i ≡ Some d
    → at decls (cond b (Some i) o) ≡ cond b (Some d) (at decls o)
at-cond decls true i o d h = h
at-cond decls false i o d h = refl

get-at : (decls : List VarDecl) (i : ℕ) (d : VarDecl) → i < length decls → d ≡ get_or decls i d → slice_get decls i ≡ Some d
get-at decls i d l q = slice_get-get_or decls i d l ∙ ap (λ (e : VarDecl). Some e) (sym q)

-- one more declaration, before those that have numbers
pub finds-more : (old new : List (List ℕ × ℕ)) (decls : List VarDecl) (i : ℕ) (d : VarDecl) → i < length decls → d ≡ get_or decls i d
    → ((name : List ℕ) → number_in new name ≡ cond (not (is_position_kind d.kind) && same_bytes d.var.name name) (Some i) (number_in old name))
    → Finds old decls (drop (i + 1) decls) → Finds new decls (drop i decls)
finds-more old new decls i d l q put h name =
    let b = not (is_position_kind d.kind) && same_bytes d.var.name name in
    ap (at decls) (put name) ∙ at-cond decls b i (number_in old name) d (get-at decls i d l q)
    ∙ ap (λ o. cond b (Some d) o) (h name)
    ∙ ap (λ (e : VarDecl). declared_as (e ∷ drop (i + 1) decls) name) q
    ∙ ap (λ ds. declared_as ds name) (sym (drop_more decls i d l))
