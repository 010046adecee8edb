-- A metavariable of another name is another variable.
use Rattle.std.proofs.Common.{◌≡◌, ℕ, Bool, true, false, not, ◌&&◌, cond, refl, sym, ap, ◌∙◌, List, [], ◌∷◌, Some}
use Rattle.c_terms.specs.Same.{same_bytes}
use Rattle.c_terms.proofs.SameLaws.{bytes-refl}
use Rattle.c_terms.proofs.BareLaws.{same_bytes-equal}
use Rattle.smpl_terms.specs.declared.var.Var.{Var}
use Rattle.smpl_terms.proofs.VarLaws.{same_var-equal}
use Rattle.smpl_patch.specs.declared.pattern.VarDecl.{VarDecl}
use Rattle.smpl_patch.specs.Patterns.{is_position_kind, declared_as, is_var_of}

right : (a b : Bool) → (a && b) ≡ true → b ≡ true
right true b h = h
right false b h = absurd cc

named : (ds : List VarDecl) (name : List ℕ) (x : Var) → is_var_of (declared_as ds name) x ≡ true → same_bytes name x.name ≡ true
named [] name x h = absurd cc
named (d ∷ ds) name x h =
    elim (not (is_position_kind d.kind) && same_bytes d.var.name name) as
    (λ b. (not (is_position_kind d.kind) && same_bytes d.var.name name) ≡ b
    → is_var_of (cond b (Some d) (declared_as ds name)) x ≡ true → same_bytes name x.name ≡ true) [
      | true ↦ λ q p.
          let e = same_bytes-equal d.var.name name (right (not (is_position_kind d.kind)) (same_bytes d.var.name name) q) in
          let s = same_var-equal d.var x p in
          ap (λ z. same_bytes z x.name) (sym e) ∙ (ap (λ (z : Var). same_bytes d.var.name z.name) (sym s) ∙ bytes-refl d.var.name)
      | false ↦ λ q p. named ds name x p
    ] refl h

pub unnamed : (ds : List VarDecl) (name : List ℕ) (x : Var) → same_bytes name x.name ≡ false → is_var_of (declared_as ds name) x ≡ false
unnamed ds name x h =
    elim (is_var_of (declared_as ds name) x) as (λ b. is_var_of (declared_as ds name) x ≡ b → b ≡ false) [
      | true ↦ λ q. sym (named ds name x q) ∙ h
      | false ↦ λ q. refl
    ] refl
