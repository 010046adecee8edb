-- Faults of variables are those that follow from the first variable without a value.
use Rattle.std.proofs.Common.{◌≡◌, Bool, true, false, not, ◌&&◌, if◌then◌else◌, refl, sym, ap, ◌∙◌, List, [], ◌∷◌, Option, None, Some}
use Rattle.smpl_terms.specs.declared.var.Var.{Var}
use Rattle.smpl_terms.specs.Vars.{same_var}
use Rattle.smpl_terms.proofs.VarLaws.{same_var-equal, same_var-refl}
use Rattle.smpl_patch.specs.declared.pattern.VarDecl.{VarDecl}
use Rattle.smpl_patch.specs.declared.rule.Rule.{Rule}
use Rattle.smpl_patch.specs.declared.fault.PatchFault.{PatchFault}
use Rattle.smpl_patch.specs.declared.fault.PatchFault.TheVariants as fault
use Rattle.smpl_patch.specs.Patterns as patterns
use Rattle.ctl_formula.specs.Bounds.{bound, guarded_for}
use Rattle.ctl_translate.specs.Rules.{formula_of, is_exported, is_unbound, first_unbound_from}
use Rattle.smpl_file.specs.SmplCheck.Checks.{is_unbound_in_plus, or_later, fault_of_vars}
use Rattle.smpl_file.specs.SmplCheck.Known.{is_own_of, fault_by}

-- the variable has no value in some way in which the formula holds, whether or not it is inherited
abbrev may_lack : Rule → Var → Bool
may_lack r x =
    if is_exported r x then not (bound (patterns.sure r.vars r.tokens) (formula_of r) x)
    else not (guarded_for (patterns.sure r.vars r.tokens) x (formula_of r))

right : (a b : Bool) → (a && b) ≡ true → b ≡ true
right true b h = h
right false b h = absurd cc

left : (a b : Bool) → (a && b) ≡ true → a ≡ true
left true b h = refl
left false b h = absurd cc

own : (i : Bool) → not i ≡ true → i ≡ false
own true h = absurd cc
own false h = refl

same-value : (r : Rule) (c d : VarDecl) → is_unbound r c ≡ true → d.inherited ≡ false → d.var ≡ c.var → is_unbound r d ≡ true
same-value r c d h i e = ap (λ z. not z && may_lack r d.var) i ∙ (ap (may_lack r) e ∙ right (not c.inherited) (may_lack r c.var) h)

-- the rule's own declaration of the first variable that may stay unbound declares one that may
first-lacks : (r : Rule) (ds : List VarDecl) (x : Var) (d : VarDecl) → first_unbound_from r ds ≡ Some x → d.inherited ≡ false
    → d.var ≡ x → is_unbound r d ≡ true
first-lacks r [] x d h i e = absurd cc
first-lacks r (c ∷ cs) x d h i e =
    elim (is_unbound r c) as (λ b. is_unbound r c ≡ b → (if b then Some c.var else first_unbound_from r cs) ≡ Some x → is_unbound r d ≡ true) [
      | true ↦ λ q p. let s : c.var ≡ x = cc in same-value r c d q i (e ∙ sym s)
      | false ↦ λ q p. first-lacks r cs x d p i e
    ] refl h

not-own : (r : Rule) (d : VarDecl) (ds : List VarDecl) (u : Option Var) → is_unbound r d ≡ false → first_unbound_from r ds ≡ u → is_own_of u d ≡ false
not-own r d ds None q h = refl
not-own r d ds (Some x) q h =
    elim (not d.inherited && same_var d.var x) as (λ b. (not d.inherited && same_var d.var x) ≡ b → b ≡ false) [
      | true ↦ λ p.
          let i = own d.inherited (left (not d.inherited) (same_var d.var x) p) in
          let s = same_var-equal d.var x (right (not d.inherited) (same_var d.var x) p) in
          sym (first-lacks r ds x d h i s) ∙ q
      | false ↦ λ p. refl
    ] refl

is-own : (r : Rule) (d : VarDecl) (ds : List VarDecl) (u : Option Var) → first_unbound_from r (d ∷ ds) ≡ u → is_own_of u d ≡ is_unbound r d
is-own r d ds u h =
    elim (is_unbound r d) as (λ b. is_unbound r d ≡ b → (if b then Some d.var else first_unbound_from r ds) ≡ u → is_own_of u d ≡ b) [
      | true ↦ λ q p.
          ap (λ z. is_own_of z d) (sym p)
          ∙ (ap (λ z. z && same_var d.var d.var) (left (not d.inherited) (may_lack r d.var) q) ∙ same_var-refl d.var)
      | false ↦ λ q p. not-own r d ds u q p
    ] refl h

step : (p o b : Bool) (x y : PatchFault) (rest later : Option PatchFault) → o ≡ b → (b ≡ false → rest ≡ later)
    → (if p then Some x else (if o then Some y else rest)) ≡ or_later (if p then Some x else (if b then Some y else None)) later
step true o b x y rest later q k = refl
step false true true x y rest later q k = refl
step false true false x y rest later q k = absurd cc
step false false true x y rest later q k = absurd cc
step false false false x y rest later q k = k refl

later-first : (u : Bool) (x : Var) (o v : Option Var) → (if u then Some x else o) ≡ v → u ≡ false → o ≡ v
later-first true x o v h q = absurd cc
later-first false x o v h q = h

-- what follows from the first variable that may stay unbound is the first fault of the variables
pub same-faults : (r : Rule) (u : Option Var) (ds : List VarDecl) → first_unbound_from r ds ≡ u → fault_by r u ds ≡ fault_of_vars r ds
same-faults r u [] h = refl
same-faults r u (d ∷ ds) h =
    step (is_unbound_in_plus r d) (is_own_of u d) (is_unbound r d) (fault.UnboundInPlus d.var) (fault.MayStayUnbound d.var)
    (fault_by r u ds) (fault_of_vars r ds)
    (is-own r d ds u h) (λ q. same-faults r u ds (later-first (is_unbound r d) d.var (first_unbound_from r ds) u h q))
