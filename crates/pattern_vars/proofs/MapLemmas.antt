-- Maps whose keys are variables.
use Rattle.std.proofs.Common.{◌≡◌, Bool, true, false, true≢false, cond, List, [], ◌∷◌, refl, sym, ap, ◌∙◌, Option, Some}
use Rattle.std.specs.Map.{lookup}
use Rattle.indexmap.specs.IndexMap.{insert_entry}
use Rattle.smpl_terms.specs.declared.var.Var.{Var}
use Rattle.smpl_terms.specs.Vars.{same_var}
use Rattle.smpl_terms.proofs.VarLaws.{same_var-equal, same_var-refl}
use Rattle.pattern_vars.specs.declared.set.Key.{Key}
use Rattle.pattern_vars.specs.Keys.{same_key, value_of}
use Rattle.pattern_vars.proofs.SetLemmas.{key-same}

module _ {V : Type 0} where
  -- what a map finds
  pub looked : (k : Key) (entries : List (Key × V)) → lookup (same_key k) entries ≡ value_of entries k.var
  looked k [] = refl
  looked k (e ∷ es) =
      ap (λ (b : Bool). cond b (Some e.1) (lookup (same_key k) es)) (key-same k e.0)
      ∙ ap (λ (o : Option V). cond (same_var e.0.var k.var) (Some e.1) o) (looked k es)

  -- an inserted variable has this value, and others keep theirs
  pub inserted : (k : Key) (v : V) (other : Var) (entries : List (Key × V))
      → value_of (insert_entry same_key entries k v) other ≡ cond (same_var k.var other) (Some v) (value_of entries other)
  inserted k v other [] = refl
  inserted k v other (e ∷ es) = by (same_key k e.0) (sym (key-same k e.0)) (inserted k v other es)
    where
      same : e.0.var ≡ k.var → cond (same_var e.0.var other) (Some v) (value_of es other) ≡ cond (same_var k.var other) (Some v) (value_of (e ∷ es) other)
      same q = one (same_var e.0.var other) (ap (λ (z : Var). same_var z other) (sym q))
        where
          one : (b : Bool) → same_var k.var other ≡ b → cond b (Some v) (value_of es other)
              ≡ cond (same_var k.var other) (Some v) (cond b (Some e.1) (value_of es other))
          one true h = ap (λ (c : Bool). cond c (Some v) (Some e.1)) (sym h)
          one false h = ap (λ (c : Bool). cond c (Some v) (value_of es other)) (sym h)

      apart : same_var e.0.var k.var ≡ false → (here there : Bool) → same_var e.0.var other ≡ here → same_var k.var other ≡ there
          → cond here (Some e.1) (cond there (Some v) (value_of es other)) ≡ cond there (Some v) (cond here (Some e.1) (value_of es other))
      apart q true true h t =
          let s : e.0.var ≡ k.var = same_var-equal e.0.var other h ∙ sym (same_var-equal k.var other t) in
          absurd (true≢false (sym (ap (λ (z : Var). same_var z k.var) s ∙ same_var-refl k.var) ∙ q))
      apart q true false h t = refl
      apart q false true h t = refl
      apart q false false h t = refl

      by : (b : Bool) → same_var e.0.var k.var ≡ b → value_of (insert_entry same_key es k v) other ≡ cond (same_var k.var other) (Some v) (value_of es other)
          → value_of (cond b ((e.0, v) ∷ es) (e ∷ insert_entry same_key es k v)) other ≡ cond (same_var k.var other) (Some v) (value_of (e ∷ es) other)
      by true q h = same (same_var-equal e.0.var k.var q)
      by false q h =
          ap (λ (o : Option V). cond (same_var e.0.var other) (Some e.1) o) h
          ∙ apart q (same_var e.0.var other) (same_var k.var other) refl refl
