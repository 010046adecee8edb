-- Exported variables are bound.
use Rattle.std.proofs.Common.{◌≡◌, ◌⊎◌, Bool, true, false, ◌&&◌, ◌||◌, not, if◌then◌else◌, Option, Some, None, refl, sym, ap, ◌∙◌, inl, inr, List, [], ◌∷◌}
use Rattle.std.specs.List.{list_any, list_all}
use Rattle.smpl_terms.specs.declared.var.Var.{Var}
use Rattle.smpl_terms.specs.Vars.{same_var}
use Rattle.smpl_terms.proofs.VarLaws.{same_var-equal, same_var-refl}
use Rattle.smpl_patch.specs.declared.pattern.VarDecl.{VarDecl}
use Rattle.smpl_patch.specs.declared.rule.Rule.{Rule}
use Rattle.smpl_patch.specs.Patterns.{sure}
use Rattle.smpl_patch.specs.Sound.{is_own_var}
use Rattle.ctl_formula.specs.Bounds.{bound, guarded_for}
use Rattle.ctl_translate.specs.Rules.{formula_of, first_unbound, first_unbound_from, is_unbound, is_exported}

either : (a b : Bool) → (a || b) ≡ true → (a ≡ true) ⊎ (b ≡ true)
either true b h = inl refl
either false b h = inr h

both_parts : (a b : Bool) → (a && b) ≡ true → (a ≡ true) × (b ≡ true)
both_parts true b h = (refl, h)
both_parts false b h = absurd cc

not_true : (b : Bool) → not b ≡ true → b ≡ false
not_true true h = absurd cc
not_true false h = refl

not_false : (b : Bool) → not b ≡ false → b ≡ true
not_false true h = refl
not_false false h = absurd cc

-- none of the declared variables may stay unbound
passed_by : (b : Bool) (x : Var) (o : Option Var) → (if b then Some x else o) ≡ None → (b ≡ false) × (o ≡ None)
passed_by true x o h = absurd cc
passed_by false x o h = (refl, h)

-- what holds of a declaration that is the rule's own and exported
own_bound : (inherited exported binds guarded : Bool) → inherited ≡ false → exported ≡ true
    → (not inherited && (if exported then not binds else not guarded)) ≡ false → binds ≡ true
own_bound true exported binds guarded own out h = absurd cc
own_bound false false binds guarded own out h = absurd cc
own_bound false true binds guarded own out h = not_false binds h

pub own_export_bound : (r : Rule) (ds : List VarDecl) (x : Var) → first_unbound_from r ds ≡ None → is_exported r x ≡ true
    → list_any (λ d. same_var d.var x && not d.inherited) ds ≡ true → bound (sure r.vars r.tokens) (formula_of r) x ≡ true
own_export_bound r [] x none out h = absurd cc
own_export_bound r (d ∷ ds) x none out h =
    let rest = passed_by (is_unbound r d) d.var (first_unbound_from r ds) none in
    elim (either (same_var d.var x && not d.inherited) (list_any (λ e. same_var e.var x && not e.inherited) ds) h) [
      | inl e ↦
          let parts = both_parts (same_var d.var x) (not d.inherited) e in
          let same : d.var ≡ x = same_var-equal d.var x parts.0 in
          let there : is_exported r d.var ≡ true = ap (is_exported r) same ∙ out in
          ap (bound (sure r.vars r.tokens) (formula_of r)) (sym same)
          ∙ own_bound d.inherited (is_exported r d.var) (bound (sure r.vars r.tokens) (formula_of r) d.var)
          (guarded_for (sure r.vars r.tokens) d.var (formula_of r)) (not_true d.inherited parts.1) there rest.0
      | inr e ↦ own_export_bound r ds x rest.1 out e
    ]

all_bound : (r : Rule) (xs : List Var) → first_unbound r ≡ None → list_all (is_own_var r.vars) xs ≡ true
    → list_all (is_exported r) xs ≡ true → list_all (bound (sure r.vars r.tokens) (formula_of r)) xs ≡ true
all_bound r [] none own out = refl
all_bound r (x ∷ xs) none own out =
    let a = both_parts (is_own_var r.vars x) (list_all (is_own_var r.vars) xs) own in
    let b = both_parts (is_exported r x) (list_all (is_exported r) xs) out in
    (λ i. own_export_bound r r.vars x none b.0 a.0 i && list_all (bound (sure r.vars r.tokens) (formula_of r)) xs)
    ∙ all_bound r xs none a.1 b.1

or_true : (b : Bool) → (b || true) ≡ true
or_true true = refl
or_true false = refl

-- variables that are all in a list are also in the list with one more in front
all_later : (y : Var) (ys xs : List Var) → list_all (λ x. list_any (λ z. same_var z x) ys) xs ≡ true
    → list_all (λ x. list_any (λ z. same_var z x) (y ∷ ys)) xs ≡ true
all_later y ys [] h = refl
all_later y ys (x ∷ xs) h =
    let parts = both_parts (list_any (λ z. same_var z x) ys) (list_all (λ x. list_any (λ z. same_var z x) ys) xs) h in
    (λ i. ((λ j. same_var y x || parts.0 j) ∙ or_true (same_var y x)) i && list_all (λ x. list_any (λ z. same_var z x) (y ∷ ys)) xs)
    ∙ all_later y ys xs parts.1

all_there : (xs : List Var) → list_all (λ x. list_any (λ z. same_var z x) xs) xs ≡ true
all_there [] = refl
all_there (x ∷ xs) =
    (λ i. (same_var-refl x i || list_any (λ z. same_var z x) xs) && list_all (λ y. list_any (λ z. same_var z y) (x ∷ xs)) xs)
    ∙ all_later x xs xs (all_there xs)

pub exports_bound : (r : Rule) → first_unbound r ≡ None → list_all (is_own_var r.vars) r.exports ≡ true
    → list_all (bound (sure r.vars r.tokens) (formula_of r)) r.exports ≡ true
exports_bound r none own = all_bound r r.exports none own (all_there r.exports)
